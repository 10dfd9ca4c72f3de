-- angles of whole quarters of a circle
use Rattle.std.specs.Prelude.{ℕ, ℤ, pos, negsuc, List, MatchOption, ◌+ℤ◌, ◌*ℤ◌, ◌≤ℤ◌, ◌<◌, ◌≡◌}
use Rattle.gds_records.specs.declared.kinds.TheConstants as kind
use Rattle.library_grammar.specs.GrammarNames.{HasValue, Entry, field}

-- the angle of a reference in degrees, counterclockwise: that of its ANGLE, or none
abbrev pub IsAngle : List Entry → ℤ → Type 0
IsAngle own degrees = MatchOption (field kind.ANGLE own) (degrees ≡ pos 0) (λ body. HasValue body degrees)

-- the angle, in degrees, is this number of quarters of a circle, and no more than a whole circle either way
pub record AreQuarters (degrees quarters : ℤ) : Type 0 where
  pub whole : degrees ≡ pos 90 *ℤ quarters
  pub from_back : negsuc 3 ≤ℤ quarters
  pub to_front : quarters ≤ℤ pos 4

-- the angle comes to this number of quarters counterclockwise, of which four are none
pub record ComesTo (degrees : ℤ) (quarters : ℕ) : Type 0 where
  pub few : quarters < 4
  pub circles : ℤ
  pub are_quarters : AreQuarters degrees (pos quarters +ℤ (pos 4 *ℤ circles))
