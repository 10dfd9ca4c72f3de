-- sums of values, and the widths of columns
use Rattle.std.proofs.Common.{ℕ, zero, suc, ◌+◌, ◌<◌, ◌≤◌, ◌≡◌, refl, sym, ap, ◌∙◌, List, arith, inl, inr, cond, ℤ, pos, ◌-ℤ◌, nat_le}
use Rattle.lists.proofs.Words.{ints, cond_both, le-leb, lt-leb, cases_lt}
use Rattle.cover_tree.specs.Columns.{AreRising, place_at, width_of, total, deep_width}
use Rattle.cover_tree.proofs.laws.ColumnLaws.{width_is}

-- ---- sums

-- values that are the same have the same sum
pub total-same : (f g : ℕ → ℕ) (from count : ℕ) → ((k : ℕ) → from ≤ k → k < from + count → f k ≡ g k) → total f from count ≡ total g from count
total-same f g from zero same = refl
total-same f g from (suc count) same =
    let here : f from ≡ g from = same from (omega arith) (omega arith) in
    let rest : total f (suc from) count ≡ total g (suc from) count = total-same f g (suc from) count (λ k low high. same k (omega arith) (omega arith)) in
    cc

pub total-+ : (f : ℕ → ℕ) (from m n : ℕ) → total f from (m + n) ≡ total f from m + total f (from + m) n
total-+ f from zero n = let e : zero + n ≡ n = omega arith in let g : from + zero ≡ from = omega arith in let z : 0 + total f from n ≡ total f from n = omega arith in ap (total f from) e ∙ sym z
    ∙ ap (λ a. 0 + total f a n) (sym g)
total-+ f from (suc m) n =
    let e : suc m + n ≡ suc (m + n) = omega arith in
    let g : suc from + m ≡ from + suc m = omega arith in
    let rest = total-+ f (suc from) m n in
    let moved : total f (suc from + m) n ≡ total f (from + suc m) n = ap (λ a. total f a n) g in
    ap (total f from) e ∙ omega (arith, rest, moved)

pub total-le : (f g : ℕ → ℕ) (from count : ℕ) → ((k : ℕ) → f k ≤ g k) → total f from count ≤ total g from count
total-le f g from zero less = omega arith
total-le f g from (suc count) less = let here = less from in let rest = total-le f g (suc from) count less in omega arith

pub total-none : (f : ℕ → ℕ) (from count : ℕ) → ((k : ℕ) → from ≤ k → k < from + count → f k ≡ 0) → total f from count ≡ 0
total-none f from zero never = refl
total-none f from (suc count) never = let here = never from (omega arith) (omega arith) in let rest = total-none f (suc from) count (λ k low high. never k (omega arith) (omega arith)) in omega arith

-- ---- widths

module _ (places : List ℤ) (rising : AreRising places) where
  -- columns side by side are as wide as it is from the first place to the last
  pub width_across : (from count : ℕ) → pos (total (width_of places) from count) ≡ place_at places (from + count) -ℤ place_at places from
  width_across from zero = let e : from + zero ≡ from = omega arith in rw e (omega (arith, ints))
  width_across from (suc count) =
      let e : suc from + count ≡ from + suc count = omega arith in
      let here = width_is places rising from in
      let rest = width_across (suc from) count in
      let moved : pos (total (width_of places) (suc from) count) ≡ place_at places (from + suc count) -ℤ place_at places (suc from) = ap (λ k. pos (total (width_of places) (suc from) count)) e
      ∙ rest ∙ ap (λ k. place_at places k -ℤ place_at places (suc from)) e in
      omega (arith, ints, here, moved)

-- those of a depth are no wider than all
pub deep_width-le : (places : List ℤ) (depth : ℕ → ℕ) (least from count : ℕ) → deep_width places depth least from count ≤ total (width_of places) from count
deep_width-le places depth least from count = total-le _ _ from count (λ k. cond_both (nat_le least (depth k)) (width_of places k) 0 (λ w. w ≤ width_of places k) (λ e. omega arith) (λ e. omega arith))

-- columns of the same depths
pub deep_width-same : (places : List ℤ) (d e : ℕ → ℕ) (least from count : ℕ) → ((k : ℕ) → from ≤ k → k < from + count → d k ≡ e k)
    → deep_width places d least from count ≡ deep_width places e least from count
deep_width-same places d e least from count same = total-same _ _ from count (λ k low high. ap (λ n. cond (nat_le least n) (width_of places k) 0) (same k low high))

-- where all depths rise by at least what is asked for, all columns are of that depth
pub deep_width-all : (places : List ℤ) (d : ℕ → ℕ) (least from count : ℕ) → ((k : ℕ) → from ≤ k → k < from + count → least ≤ d k)
    → deep_width places d least from count ≡ total (width_of places) from count
deep_width-all places d least from count deep = total-same _ _ from count (λ k low high. ap (λ b. cond b (width_of places k) 0) (le-leb least (d k) (deep k low high)))

pub deep_width-none : (places : List ℤ) (d : ℕ → ℕ) (least from count : ℕ) → ((k : ℕ) → from ≤ k → k < from + count → d k < least) → deep_width places d least from count ≡ 0
deep_width-none places d least from count shallow = total-none _ from count (λ k low high. ap (λ b. cond b (width_of places k) 0) (lt-leb least (d k) (shallow k low high)))

-- where each depth is so much more than another, as much more is asked for
pub deep_width-more : (places : List ℤ) (d e : ℕ → ℕ) (more least from count : ℕ) → ((k : ℕ) → from ≤ k → k < from + count → d k ≡ more + e k)
    → deep_width places d (more + least) from count ≡ deep_width places e least from count
deep_width-more places d e more least from count same = total-same _ _ from count (λ k low high. ap (λ b. cond b (width_of places k) 0) (tests (d k) (e k) (same k low high)))
  where
    tests : (m n : ℕ) → m ≡ more + n → nat_le (more + least) m ≡ nat_le least n
    tests m n h = elim (cases_lt n least) [
      | inl less ↦ lt-leb (more + least) m (omega arith) ∙ sym (lt-leb least n less)
      | inr deep ↦ le-leb (more + least) m (omega arith) ∙ sym (le-leb least n deep)
    ]
