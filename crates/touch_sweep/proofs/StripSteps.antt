-- the columns in which entries begin
use Rattle.std.proofs.Common.{ℕ, ◌+◌, ◌<◌, ◌≤◌, ◌≡◌, subst, List, length, get_or, take, arith, ℤ, All, ◌≤ℤ◌, ◌<ℤ◌, take_all}
use Rattle.lists.proofs.Words.{ints, All-more, All-weaker}
use Rattle.geo_core.specs.Plane.{IsIn}
use Rattle.touch_sweep.specs.declared.numbered.Numbered.{Numbered}

-- the entries begin from `low` to before `high`
abbrev pub BeginWithin : ℤ → ℤ → List Numbered → Type 0
BeginWithin low high = All (λ e. IsIn low high e.rect.x0)

-- one more entry
pub more_within : (entries : List Numbered) (i : ℕ) (x : Numbered) (low high low' high' : ℤ) → i < length entries → x ≡ get_or entries i x
    → low' ≤ℤ low → low' ≤ℤ x.rect.x0 → high ≤ℤ high' → x.rect.x0 <ℤ high' → BeginWithin low high (take i entries) → BeginWithin low' high' (take (i + 1) entries)
more_within entries i x low high low' high' small at f g h k all =
    All-more (λ e. IsIn low' high' e.rect.x0) entries i x small
    (All-weaker (λ e. IsIn low high e.rect.x0) (λ e. IsIn low' high' e.rect.x0) (λ e m. let a = m.from in let b = m.before in record { from = omega (arith, ints); before = omega (arith, ints) })
    (take i entries) all)
    (subst (λ (e : Numbered). IsIn low' high' e.rect.x0) at (record { from = g; before = k }))

pub all_within : (entries : List Numbered) (i : ℕ) (low high : ℤ) → length entries ≤ i → BeginWithin low high (take i entries) → BeginWithin low high entries
all_within entries i low high long all = subst (BeginWithin low high) (take_all i entries long) all
