-- motions: a turn and then a shift, for as many steps as there are
use Rattle.std.specs.Prelude.{ℕ, List, ◌≡◌, ◌≤◌, ◌*◌, ◌^◌, nat_abs}
use Rattle.geo_core.specs.Plane.{image_under}
use Rattle.geo_core.specs.declared.plane.Point.{Point}
use Rattle.flatten.specs.Steps.{Step, shifted, moved_along}
use Rattle.flatten.specs.declared.motion.Motion.{Motion}

-- where a motion moves a point: it turns it, and then it shifts it
abbrev pub image_by : Motion → Point → Point
image_by motion p = shifted (record { x = motion.dx; y = motion.dy }) (image_under motion.turn p)

-- the motion moves every point as the steps do, one after the other
abbrev pub MovesAlong : Motion → List Step → Type 0
MovesAlong motion steps = (p : Point) → image_by motion p ≡ moved_along steps p

-- it shifts no farther than so many steps do: a step shifts by less than 2 ^ 49 in each direction
pub record ShiftsAtMost (steps : ℕ) (motion : Motion) : Type 0 where
  pub across : nat_abs motion.dx ≤ steps * 2 ^ 49
  pub up : nat_abs motion.dy ≤ steps * 2 ^ 49
