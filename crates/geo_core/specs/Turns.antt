-- turns of the plane: what a placement does to the points of a structure before it shifts them
use Rattle.std.specs.Prelude.{neg_ℤ, ℕ, zero, suc, if◌then◌else◌}
use Rattle.geo_core.specs.declared.plane.Point.{Point}
use Rattle.geo_core.specs.declared.plane.Turn.{Turn}

-- the point's mirror image in the x axis
abbrev pub mirror_image : Point → Point
mirror_image p = record { x = p.x; y = neg_ℤ p.y }

-- where the point comes by a quarter of a circle, counterclockwise about the origin
abbrev pub quarter_turn : Point → Point
quarter_turn p = record { x = neg_ℤ p.y; y = p.x }

-- where the point comes by this many quarters, one after the other
abbrev pub quarter_turns : ℕ → Point → Point
quarter_turns zero p = p
quarter_turns (suc n) p = quarter_turn (quarter_turns n p)

-- the point's image under the turn, which mirrors first, if it does, and then turns by quarters
abbrev pub image_under : Turn → Point → Point
image_under turn p = quarter_turns turn.quarters (if turn.reflect then mirror_image p else p)
