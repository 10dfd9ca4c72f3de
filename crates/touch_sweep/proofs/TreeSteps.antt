-- trees of numbers, and the pairs that join them, step by step
use Rattle.std.proofs.Common.{ℕ, ◌+◌, ◌<◌, ◌≤◌, ◌≡◌, ◌∙◌, ◌++◌, ◌∷◌, [], List, Contains, length, get_or, set, take, take_all, length-set, inl, inr, ◌⊎◌, ap, sym, subst, arith}
use Rattle.std.proofs.lemmas.Grind.{get_or-set_at}
use Rattle.std.proofs.lemmas.List.{get_or-set_other}
use Rattle.lists.proofs.Words.{Contains-append_left, Contains-get_or, Contains-push, Contains-push_cases, length_push}
use Rattle.lists.proofs.Comparing.{equal_or_not}
use Rattle.lists.proofs.Containing.{Contains-take_cases}
use Rattle.paths.specs.Paths.{Path, stay, step}
use Rattle.classes.specs.Classes.{IsPair}
use Rattle.touch_sweep.specs.inside.Chains.{IsLinked, Links}
use Rattle.touch_sweep.specs.inside.Trees.{AreJoinedUp, GoDown, JoinsStill, KeepsOne}
use Rattle.touch_sweep.proofs.LinkLaws.{linked_back, linked_by, linked_itself, linked_on, linked_still}

-- what holds of a new item, and of each item before, holds of each item where the new one is written over another
each_written : (P : ℕ → ℕ → Type 0) (xs : List ℕ) (k v : ℕ) → k < length xs → P k v → ((i : ℕ) → i < length xs → P i (get_or xs i 0))
    → (i : ℕ) → i < length (set xs k v) → P i (get_or (set xs k v) i 0)
each_written P xs k v small here each i within =
    let same_length = length-set xs k v in
    elim (equal_or_not i k) [
      | inl same ↦ subst (λ w. P i w) (sym (get_or-set_at xs k i v 0 same small)) (subst (λ j. P j v) (sym same) here)
      | inr apart ↦ subst (λ w. P i w) (sym (get_or-set_other xs k i v 0 apart)) (each i (omega arith))
    ]

pub hung_down : (parents : List ℕ) (k v : ℕ) → k < length parents → v ≤ k → GoDown parents → GoDown (set parents k v)
hung_down parents k v small less down = each_written (λ i w. w ≤ i) parents k v small less down

pub hung_joined : (pairs : List (ℕ × ℕ)) (parents : List ℕ) (k v : ℕ) → k < length parents → IsLinked pairs k v → AreJoinedUp pairs parents → AreJoinedUp pairs (set parents k v)
hung_joined pairs parents k v small linked joined = each_written (λ i w. IsLinked pairs i w) parents k v small linked joined

-- ---- the way to the least number of a tree

pub at_itself : (parents : List ℕ) (a : ℕ) → JoinsStill parents parents a a
at_itself parents a = record { trees = λ pairs joined. joined; linked = λ pairs joined. linked_itself pairs a }

pub one_on : {first second third : List ℕ} {a b c : ℕ} → JoinsStill first second a b → JoinsStill second third b c → JoinsStill first third a c
one_on f g = record {
  trees = λ pairs joined. g.trees pairs (f.trees pairs joined);
  linked = λ pairs joined. linked_on (f.linked pairs joined) (g.linked pairs (f.trees pairs joined));
}

-- a number is hung on the one on which its parent hangs
pub shortened : (parents : List ℕ) (a b c : ℕ) → a < length parents → b < length parents → b ≡ get_or parents a 0 → c ≡ get_or parents b 0 → JoinsStill parents (set parents a c) a c
shortened parents a b c small small' is_b is_c = record { trees = λ pairs joined. hung_joined pairs parents a c small (up pairs joined) joined; linked = up } where
  up : (pairs : List (ℕ × ℕ)) → AreJoinedUp pairs parents → IsLinked pairs a c
  up pairs joined = linked_on (subst (λ w. IsLinked pairs a w) (sym is_b) (joined a small)) (subst (λ w. IsLinked pairs b w) (sym is_c) (joined b small'))

-- ---- two trees become one

-- both ways lead to the least number of one tree
pub of_one_tree : {first second third : List ℕ} {a b x y : ℕ} → JoinsStill first second a x → JoinsStill second third b y → x ≡ y → JoinsStill first third a b
of_one_tree {a = a} {b = b} f g same = record {
  trees = λ pairs joined. g.trees pairs (f.trees pairs joined);
  linked = λ pairs joined. linked_on (f.linked pairs joined) (linked_back (subst (λ w. IsLinked pairs b w) (sym same) (g.linked pairs (f.trees pairs joined))));
}

-- by a pair the least number of the one tree is hung on that of the other
pub made_one : {first second third : List ℕ} {a b x y : ℕ} (low high : ℕ) → JoinsStill first second a x → JoinsStill second third b y
    → ((low ≡ x) × (high ≡ y)) ⊎ ((low ≡ y) × (high ≡ x)) → high < length third
    → (pairs : List (ℕ × ℕ)) → IsPair pairs a b → AreJoinedUp pairs first → AreJoinedUp pairs (set third high low)
made_one {third = third} {a = a} {b = b} {x = x} {y = y} low high f g ends small pairs pair joined =
    let middle = f.trees pairs joined in
    let across : IsLinked pairs x y = linked_on (linked_back (f.linked pairs joined)) (linked_on (linked_by pairs a b pair) (g.linked pairs middle)) in
    let up : IsLinked pairs high low = elim ends [
      | inl e ↦ subst (λ w. IsLinked pairs w low) (sym e.1) (subst (λ w. IsLinked pairs y w) (sym e.0) (linked_back across))
      | inr e ↦ subst (λ w. IsLinked pairs w low) (sym e.1) (subst (λ w. IsLinked pairs x w) (sym e.0) across)
    ] in
    hung_joined pairs third high low small up (g.trees pairs middle)

-- ---- pairs that are kept

-- where the pairs of the one list are joined by the other list, so is all that they join
pub joined_by_each : {old new : List (ℕ × ℕ)} → ((p : ℕ × ℕ) → Contains old p → IsLinked new p.0 p.1) → (a b : ℕ) → IsLinked old a b → IsLinked new a b
joined_by_each {old} {new} each a b h = along h.path where
  across : (a b : ℕ) → IsPair old a b → IsLinked new a b
  across a b (inl c) = each (a, b) c
  across a b (inr c) = linked_back (each (b, a) c)

  along : {a b : ℕ} → Path (λ k. Unit {0}) (IsPair old) a b → IsLinked new a b
  along (stay {a = a} h) = linked_itself new a
  along (step {a = a} {b = b} h e path) = linked_on (across a b e) (along path)

-- a pair is kept that makes one tree of two
pub one_kept : (a b : ℕ) (old new : List (ℕ × ℕ)) (parents parents' : List ℕ) → new ≡ old ++ (a, b) ∷ [] → GoDown parents'
    → ((pairs : List (ℕ × ℕ)) → IsPair pairs a b → AreJoinedUp pairs parents → AreJoinedUp pairs parents') → AreJoinedUp old parents → KeepsOne (a, b) old new parents'
one_kept a b old new parents parents' is down united joined = record {
  down = down;
  trees = united new (inl has) (λ k within. linked_still kept (joined k within));
  linked = linked_by new a b (inl has);
  kept = kept;
  none_else = λ p c. Contains-push_cases old (a, b) p (subst (λ ps. Contains ps p) is c);
  few = let pushed = ap length is ∙ length_push old (a, b) in omega arith;
} where
  has : Contains new (a, b)
  has = subst (λ ps. Contains ps (a, b)) (sym is) (Contains-push old (a, b))

  kept : (p : ℕ × ℕ) → Contains old p → Contains new p
  kept p c = subst (λ ps. Contains ps p) (sym is) (Contains-append_left old ((a, b) ∷ []) p c)

-- of the first so many pairs the numbers are joined by those that are kept
abbrev pub JoinsFirst : List (ℕ × ℕ) → ℕ → List (ℕ × ℕ) → Type 0
JoinsFirst pairs i kept = (p : ℕ × ℕ) → Contains (take i pairs) p → IsLinked kept p.0 p.1

pub one_more_joined : (pairs : List (ℕ × ℕ)) (i : ℕ) (pair : ℕ × ℕ) (old new : List (ℕ × ℕ)) (parents : List ℕ) → i < length pairs → get_or pairs i (0, 0) ≡ pair
    → KeepsOne pair old new parents → JoinsFirst pairs i old → JoinsFirst pairs (i + 1) new
one_more_joined pairs i pair old new parents small is k joined p c = elim (Contains-take_cases pairs i (0, 0) p small c) [
  | inl d ↦ linked_still k.kept (joined p d)
  | inr e ↦ subst (λ q. IsLinked new q.0 q.1) (sym is ∙ e) k.linked
]

pub one_more_among : (pairs : List (ℕ × ℕ)) (i : ℕ) (pair : ℕ × ℕ) (old new : List (ℕ × ℕ)) (parents : List ℕ) → i < length pairs → get_or pairs i (0, 0) ≡ pair
    → KeepsOne pair old new parents → ((p : ℕ × ℕ) → Contains old p → Contains pairs p) → (p : ℕ × ℕ) → Contains new p → Contains pairs p
one_more_among pairs i pair old new parents small is k among p c = elim (k.none_else p c) [
  | inl d ↦ among p d
  | inr e ↦ subst (λ q. Contains pairs q) (is ∙ e) (Contains-get_or pairs i (0, 0) small)
]

pub all_joined : (pairs : List (ℕ × ℕ)) (i : ℕ) (kept : List (ℕ × ℕ)) → length pairs ≤ i → ((p : ℕ × ℕ) → Contains kept p → Contains pairs p) → JoinsFirst pairs i kept
    → Links (λ p. ⊥) (λ p. ⊥) pairs kept
all_joined pairs i kept all among joined = record {
  kept = joined_by_each (λ p c. joined p (subst (λ ps. Contains ps p) (sym (take_all i pairs all)) c));
  joined = λ p none. absurd none;
  none_else = λ p c. inl (among p c);
}
