-- boxes with their numbers in a list
use Rattle.std.proofs.Common.{ℕ, ◌+◌, ◌<◌, ◌≡◌, sym, ap, subst, ◌∙◌, List, [], ◌∷◌, ◌++◌, length}
use Rattle.std.proofs.Common.{arith, inl, inr, Some, Contains, slice_get, ◌↔◌}
use Rattle.lists.proofs.Words.{eqb_tells, IsPermutation, IsPermutation-sym, Contains-permutation}
use Rattle.lists.proofs.Words.{Contains-append_left, Contains-push, Contains-push_cases, slice_get_within}
use Rattle.lists.proofs.Containing.{Contains-none}
use Rattle.half_boxes.specs.inside.Scans.{AreNumbered}
use Rattle.half_boxes.specs.declared.boxes.HalfBox.{HalfBox}
use Rattle.half_boxes.specs.declared.scan.Numbered.{Numbered}

-- exactly the first `n` boxes, each with its number
abbrev pub AreFirstNumbered : List HalfBox → ℕ → List Numbered → Type 0
AreFirstNumbered boxes n entries = (e : Numbered) → Contains entries e ↔ ((e.number < n) × (slice_get boxes e.number ≡ Some e.one))

pub none_numbered : (boxes : List HalfBox) → AreFirstNumbered boxes 0 []
none_numbered boxes e = (λ c. absurd (Contains-none c), λ h. absurd (let f = h.0 in omega arith))

pub one_more_numbered : (boxes : List HalfBox) (n : ℕ) (one : HalfBox) (entries : List Numbered) → slice_get boxes n ≡ Some one → AreFirstNumbered boxes n entries
    → AreFirstNumbered boxes (n + 1) (entries ++ record { number = n; one = one } ∷ [])
one_more_numbered boxes n one entries at first e = (
  λ c. elim (Contains-push_cases entries it e c) [
    | inl d ↦ let h = (first e).0 d in let f = h.0 in (omega arith, h.1)
    | inr same ↦ subst (λ (x : Numbered). (x.number < n + 1) × (slice_get boxes x.number ≡ Some x.one)) same (omega arith, at)
  ],
  λ h. elim (eqb_tells e.number n) [
    | inl same ↦ subst (Contains (entries ++ it ∷ [])) (is_it h.1 same.1) (Contains-push entries it)
    | inr other ↦ let f = h.0 in let g = other.1 in Contains-append_left entries (it ∷ []) e ((first e).1 (omega arith, h.1))
  ],
) where
  it : Numbered
  it = record { number = n; one = one }

  is_it : slice_get boxes e.number ≡ Some e.one → e.number ≡ n → it ≡ e
  is_it h same =
      let one_is : one ≡ e.one = cc (at, h, ap (slice_get boxes) same) in
      let make : ℕ → HalfBox → Numbered = λ k b. record { number = k; one = b } in
      ap (λ k. make k one) (sym same) ∙ ap (make e.number) one_is

pub all_numbered : (boxes : List HalfBox) (n : ℕ) (entries : List Numbered) → length boxes ≡ n → AreFirstNumbered boxes n entries → AreNumbered boxes entries
all_numbered boxes n entries long first e = (
  λ c. ((first e).0 c).1,
  λ h. (first e).1 (let f = slice_get_within boxes e.number e.one h in omega arith, h),
)

-- the order of the entries does not matter
pub AreNumbered-permutation : (boxes : List HalfBox) (entries moved : List Numbered) → IsPermutation entries moved → AreNumbered boxes entries → AreNumbered boxes moved
AreNumbered-permutation boxes entries moved p all e = (
  λ c. (all e).0 (Contains-permutation moved entries e (IsPermutation-sym entries moved p) c),
  λ h. Contains-permutation entries moved e p ((all e).1 h),
)
