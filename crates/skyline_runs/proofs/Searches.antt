-- the last active rectangle before a column
use Rattle.std.proofs.Common.{refl, sym, ap, subst, arith, ◌∙◌, ◌≡◌, ℤ, IsSome, Some, ◌≤ℤ◌, ◌<ℤ◌}
use Rattle.lists.proofs.Words.{int_ranked, ints, get, int_cmp, Less}
use Rattle.std.specs.Cmp.{int_cmp_is}
use Rattle.geo_core.specs.Plane.{IsIn}
use Rattle.geo_core.specs.declared.plane.Rect.{Rect}
use Rattle.skyline_runs.specs.inside.Skylines.{IsActiveIn, IsActiveOver, IsSkyline}
use Rattle.skyline_runs.specs.declared.skyline.Skyline.{Skyline}

-- numbers by how they compare
pub less : (a b : ℤ) → int_cmp a b ≡ Less → a <ℤ b
less a b e = int_ranked a b Less (sym e)

pub compares_less : (a b : ℤ) → a <ℤ b → int_cmp a b ≡ Less
compares_less a b h = sym (int_cmp_is a b Less h)

-- an active rectangle is found by its leftmost column
pub active_at : (s : Skyline) (x : ℤ) (rect : Rect) → IsSkyline s → get int_cmp s.active x ≡ Some rect → IsActiveIn s rect
active_at s x rect sound at = ap (get int_cmp s.active) (sound.by_column x rect at) ∙ at

-- nothing is active from the end of the last active rectangle up to the column
pub nothing_behind : (s : Skyline) (rect : Rect) (column : ℤ) → IsSkyline s → IsActiveIn s rect → ((q : Rect) → IsActiveIn s q → q.x0 <ℤ column → q.x0 ≤ℤ rect.x0)
    → (x : ℤ) → IsIn rect.x1 column x → IsActiveOver s x → ⊥
nothing_behind s rect column sound at last x i o =
    let q = o.rect in let a = i.from in let b = i.before in let d = o.over.from in let e = o.over.before in let some = rect.across.some in
    let f : q.x0 ≤ℤ rect.x0 = last q o.is_active (omega (arith, ints)) in
    let same : q ≡ rect = sound.one_over q rect rect.x0 o.is_active at (record { from = f; before = omega (arith, ints) }) (record { from = omega (arith, ints); before = some }) in
    let g : q.x1 ≡ rect.x1 = ap (λ (r : Rect). r.x1) same in
    absurd (omega (arith, ints))

-- a map finds what is active
pub found : (s : Skyline) (q : Rect) → IsActiveIn s q → IsSome (get int_cmp s.active q.x0)
found s q at = subst IsSome (sym at) refl
