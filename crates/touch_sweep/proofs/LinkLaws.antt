-- chains of pairs, and what a list of pairs joins, step by step
use Rattle.std.proofs.Common.{ℕ, ◌<◌, refl, subst, List, inl, inr, ◌⊎◌, arith, Contains}
use Rattle.lists.proofs.Words.{leb_tells}
use Rattle.paths.specs.Paths.{stay, step}
use Rattle.paths.proofs.PathLaws.{append, reverse, retold}
use Rattle.classes.specs.Classes.{IsPair}
use Rattle.geo_core.specs.Plane.{Touch}
use Rattle.touch_sweep.specs.inside.Chains.{IsLinked, Links}
use Rattle.touch_sweep.specs.inside.Matches.{IsMatchWith, Gains}
use Rattle.touch_sweep.specs.declared.numbered.Numbered.{Numbered}
use Rattle.lists.proofs.Comparing.{equal_or_not}

-- ---- chains of pairs

pub linked_itself : (pairs : List (ℕ × ℕ)) (a : ℕ) → IsLinked pairs a a
linked_itself pairs a = record { path = stay tt }

pub linked_back : {pairs : List (ℕ × ℕ)} {a b : ℕ} → IsLinked pairs a b → IsLinked pairs b a
linked_back h = record { path = reverse (λ a b e. elim e [ inl c ↦ inr c | inr c ↦ inl c ]) h.path }

pub linked_on : {pairs : List (ℕ × ℕ)} {a b c : ℕ} → IsLinked pairs a b → IsLinked pairs b c → IsLinked pairs a c
linked_on h further = record { path = append h.path further.path }

pub linked_by : (pairs : List (ℕ × ℕ)) (a b : ℕ) → IsPair pairs a b → IsLinked pairs a b
linked_by pairs a b pair = record { path = step tt pair (stay tt) }

-- where pairs are kept, so are chains of them
pub linked_still : {old new : List (ℕ × ℕ)} {a b : ℕ} → ((p : ℕ × ℕ) → Contains old p → Contains new p) → IsLinked old a b → IsLinked new a b
linked_still kept h = record { path = retold (λ a b f g e. inr (elim e [ inl c ↦ inl (kept (a, b) c) | inr c ↦ inr (kept (b, a) c) ])) h.path }

-- an entry that was paired with each of a list that it touches is linked with each of them
pub linked_with : {one other : Numbered} {others : List Numbered} {may : ℕ × ℕ → Type 0} {old new : List (ℕ × ℕ)} → Gains (IsMatchWith one others) may old new → Contains others other
    → Touch one.rect other.rect → IsLinked new one.number other.number
linked_with {one} {other} {others} {may} {old} {new} g among touch = elim (equal_or_not one.number other.number) [
  | inl same ↦ subst (IsLinked new one.number) same (linked_itself new one.number)
  | inr apart ↦ elim (leb_tells one.number other.number) [
    | inl y ↦ let y' = y.1 in let less : one.number < other.number = omega arith in
        linked_by new one.number other.number (inl (g.all (one.number, other.number) (record { other = other; among = among; match = record { touch = touch; numbers = inl (less, refl) } })))
    | inr y ↦ let y' = y.1 in let less : other.number < one.number = omega arith in
        linked_by new one.number other.number (inr (g.all (other.number, one.number) (record { other = other; among = among; match = record { touch = touch; numbers = inr (less, refl) } })))
  ]
]

-- ---- what a list of pairs joins

pub links_nothing : {must may : ℕ × ℕ → Type 0} (pairs : List (ℕ × ℕ)) → ((p : ℕ × ℕ) → must p → ⊥) → Links must may pairs pairs
links_nothing pairs none = record { kept = λ a b h. h; joined = λ p h. absurd (none p h); none_else = λ p h. inl h }

-- what has all pairs joins them
pub links_all : {must may must' may' : ℕ × ℕ → Type 0} {old new : List (ℕ × ℕ)} → Gains must may old new → ((p : ℕ × ℕ) → must' p → must p) → ((p : ℕ × ℕ) → may p → may' p) → Links must' may' old new
links_all {new = new} g fewer more = record {
  kept = λ a b h. linked_still g.kept h;
  joined = λ p k. linked_by new p.0 p.1 (inl (g.all p (fewer p k)));
  none_else = λ p k. elim (g.none_else p k) [ inl a ↦ inl a | inr b ↦ inr (more p b) ];
}

-- one step after the other
pub links_both : {first second first_may second_may must may : ℕ × ℕ → Type 0} {old middle new : List (ℕ × ℕ)} → Links first first_may old middle → Links second second_may middle new
    → ((p : ℕ × ℕ) → must p → first p ⊎ second p) → ((p : ℕ × ℕ) → first_may p → may p) → ((p : ℕ × ℕ) → second_may p → may p) → Links must may old new
links_both g h one_of_them of_first of_second = record {
  kept = λ a b k. h.kept a b (g.kept a b k);
  joined = λ p k. elim (one_of_them p k) [ inl a ↦ h.kept p.0 p.1 (g.joined p a) | inr b ↦ h.joined p b ];
  none_else = λ p k. elim (h.none_else p k) [
    | inl a ↦ elim (g.none_else p a) [ inl b ↦ inl b | inr b ↦ inr (of_first p b) ]
    | inr b ↦ inr (of_second p b)
  ];
}

pub links_then : {first second first_may second_may may : ℕ × ℕ → Type 0} {old middle new : List (ℕ × ℕ)} → Links first first_may old middle → Links second second_may middle new
    → ((p : ℕ × ℕ) → first_may p → may p) → ((p : ℕ × ℕ) → second_may p → may p) → Links (λ p. first p ⊎ second p) may old new
links_then g h of_first of_second = links_both g h (λ p m. m) of_first of_second

-- fewer that it must join, and more that it may have
pub links_less : {must may must' may' : ℕ × ℕ → Type 0} {old new : List (ℕ × ℕ)} → Links must may old new → ((p : ℕ × ℕ) → must' p → must p) → ((p : ℕ × ℕ) → may p → may' p) → Links must' may' old new
links_less g fewer more = record {
  kept = g.kept;
  joined = λ p k. g.joined p (fewer p k);
  none_else = λ p k. elim (g.none_else p k) [ inl a ↦ inl a | inr b ↦ inr (more p b) ];
}

-- pairs are let go that the others make needless
pub links_thinned : {must may : ℕ × ℕ → Type 0} {old middle new : List (ℕ × ℕ)} → Links must may old middle → Links (λ p. ⊥) (λ p. ⊥) middle new → Links must may old new
links_thinned g h = links_both g h (λ p m. inl m) (λ p m. m) (λ p none. absurd none)
