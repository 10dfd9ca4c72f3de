-- What holds of each item of a list that is put together of parts.
use Rattle.std.proofs.Common.{Bool, true, false, List, [], ◌∷◌, ◌++◌, All, arith}
use Rattle.lists.proofs.Words.{flat_map, All-cons, All-head, All-tail}
use Rattle.library_grammar.specs.GrammarNames.{Entry}
use Rattle.gds_write.specs.Bodies.{entry_if}

-- the same as `All`, part by part
pub data Every {A : Type 0} (P : A → Type 0) : List A → Type 0 where
  none : Every P []
  more : {x : A} {xs : List A} → P x → Every P xs → Every P (x ∷ xs)

module _ {A : Type 0} {P : A → Type 0} where
  pub one : {x : A} → P x → Every P (x ∷ [])
  one h = more h none

  pub both : {xs ys : List A} → Every P xs → Every P ys → Every P (xs ++ ys)
  both none others = others
  both (more h rest) others = more h (both rest others)

  pub all_of : {xs : List A} → Every P xs → All P xs
  all_of none = λ k d l. absurd (omega arith)
  all_of (more {x} {xs} h rest) = All-cons P x xs h (all_of rest)

pub every_of : {A : Type 0} (P : A → Type 0) (xs : List A) → All P xs → Every P xs
every_of P [] h = none
every_of P (x ∷ xs) h = more (All-head P x xs h) (every_of P xs (All-tail P x xs h))

pub each_part : {A B : Type 0} {P : B → Type 0} (Q : A → Type 0) (f : A → List B) → ((a : A) → Q a → Every P (f a)) → (parts : List A) → All Q parts → Every P (flat_map f parts)
each_part Q f each [] h = none
each_part Q f each (a ∷ parts) h = both (each a (All-head Q a parts h)) (each_part Q f each parts (All-tail Q a parts h))

-- a record that is written or not
pub maybe : {P : Entry → Type 0} (b : Bool) (e : Entry) → P e → Every P (entry_if b e)
maybe true e h = one h
maybe false e h = none
