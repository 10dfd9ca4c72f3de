-- one step further
use Rattle.std.proofs.Common.{ℕ, suc, ◌+◌, ◌*◌, ◌-◌, ◌^◌, ◌≤◌, ◌≡◌, List, [], ◌∷◌, ◌++◌, refl, ap, sym, ◌∙◌, arith}
use Rattle.geo_core.specs.declared.plane.Point.{Point}
use Rattle.flatten.specs.Steps.{Step, moved_by, moved_along}
use Rattle.flatten.specs.Motions.{MovesAlong, image_by}
use Rattle.flatten.specs.declared.motion.Motion.{Motion}

-- the last step moves a point first
moved_along-last : (steps : List Step) (step : Step) (p : Point) → moved_along (steps ++ step ∷ []) p ≡ moved_along steps (moved_by step p)
moved_along-last [] step p = refl
moved_along-last (first ∷ steps) step p = ap (moved_by first) (moved_along-last steps step p)

pub moves_on : (motion inner both : Motion) (steps : List Step) (step : Step) → MovesAlong motion steps → ((p : Point) → image_by inner p ≡ moved_by step p)
    → ((p : Point) → image_by both p ≡ image_by motion (image_by inner p)) → MovesAlong both (steps ++ step ∷ [])
moves_on motion inner both steps step moves one two p =
    two p ∙ ap (image_by motion) (one p) ∙ moves (moved_by step p) ∙ sym (moved_along-last steps step p)

-- the bound with one step less left
pub bound_on : (far farther left : ℕ) → 1 ≤ left → far + left * 2 ^ 49 ≤ 2 ^ 57 → farther ≤ suc (256 - left) * 2 ^ 49 → farther + (left - 1) * 2 ^ 49 ≤ 2 ^ 57
bound_on far farther left more h k = omega arith

pub bound_of : (far left : ℕ) → far + left * 2 ^ 49 ≤ 2 ^ 57 → far ≤ (256 - left) * 2 ^ 49
bound_of far left h = omega arith
