-- degrees lay out an index, and an index of pairs is a graph
use Rattle.std.proofs.Common.{ℕ, suc, ◌+◌, ◌≤◌, ◌<◌, ◌≡◌, ap, ◌∙◌, List, length, sum, take, get_or, arith, inl, inr, ◌⊎◌, add-one}
use Rattle.lists.proofs.Words.{get_or_past, leb_tells, sum_by_more}
use Rattle.std.proofs.lemmas.List.Sums.{sum_by-take-le}
use Rattle.classes.specs.Classes.{AreBelow}
use Rattle.classes.specs.inside.Degrees.{AreDegrees}
use Rattle.classes.specs.inside.Index.{IsStarts, IsLaidOut, IsIndexOf}
use Rattle.classes.specs.inside.Spreading.{IsGraph}
use Rattle.classes.proofs.DegreeLaws.{pair_below}
use Rattle.std.proofs.Math.Logic.{⊎_swap}

pub laid_out : (n : ℕ) (pairs : List (ℕ × ℕ)) (degrees starts : List ℕ) (size : ℕ) → AreBelow n pairs → AreDegrees n pairs degrees → IsStarts degrees starts → length pairs + length pairs ≤ size
    → IsLaidOut pairs starts size
laid_out n pairs degrees starts size below d s long =
    let one = s.one_more in
    let each = d.one_each in
    let total = d.total in
    record {
      below = λ a b c. let r = pair_below n pairs below a b c in (omega arith, omega arith);
      room = λ k h.
          let p = s.summed k (omega arith) in
          let q = s.summed (suc k) (omega arith) in
          let m = sum_by_more (λ x. x) degrees k 0 (omega arith) in
          let e : suc k ≡ k + 1 = omega arith in
          let f : sum (take (suc k) degrees) ≡ sum (take (k + 1) degrees) = ap (λ j. sum (take j degrees)) e in
          let c = d.counted k (omega arith) in
          omega arith;
      within = λ k h. let p = s.summed k (omega arith) in let m = sum_by-take-le (λ x. x) degrees k in omega arith;
    }

-- a number that has a place has a start and an end
pub in_starts : (starts : List ℕ) (k place : ℕ) → place < get_or starts (suc k) 0 → suc k < length starts
in_starts starts k place h = elim (leb_tells (length starts) (suc k)) [
  | inl y ↦ let far = y.1 in let e = get_or_past starts (suc k) 0 far in absurd (omega arith)
  | inr y ↦ y.1
]

pub graph_of : (n : ℕ) (pairs : List (ℕ × ℕ)) (starts neighbours : List ℕ) → AreBelow n pairs → length starts ≡ n + 1 → IsIndexOf pairs starts neighbours → IsGraph n starts neighbours
graph_of n pairs starts neighbours below e i = record {
  counted = e ∙ add-one n;
  rising = λ k h. i.rising k (omega arith);
  within = λ k h. i.within k (omega arith);
  below = λ k x l. elim (i.sound k x (in_starts starts k l.place l.to) l) [ inl c ↦ (pair_below n pairs below k x c).1 | inr c ↦ (pair_below n pairs below x k c).0 ];
  back = λ k x l. i.complete x k (⊎_swap (i.sound k x (in_starts starts k l.place l.to) l));
}
