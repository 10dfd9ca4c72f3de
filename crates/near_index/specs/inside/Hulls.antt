-- rectangles round others, and labels that many have
use Rattle.std.specs.Prelude.{ℕ, List, Option, Some, All, IfSome, ◌≡◌}
use Rattle.geo_core.specs.Plane.{Has}
use Rattle.geo_core.specs.declared.plane.Cell.{Cell}
use Rattle.geo_core.specs.declared.plane.Rect.{Rect}

-- the hull has all cells of the rectangle
abbrev pub IsRound : Rect → Rect → Type 0
IsRound hull rect = (c : Cell) → Has rect c → Has hull c

-- the hull has all cells of each of the things
abbrev pub IsHullOf : {T : Type 0} → (T → Rect) → Rect → List T → Type 0
IsHullOf rect_of hull = All (λ thing. IsRound hull (rect_of thing))

-- the label, if there is one, is that of each of the things
abbrev pub IsLabelOf : {T : Type 0} → (T → Option ℕ) → Option ℕ → List T → Type 0
IsLabelOf label_of label things = IfSome label (λ its. All (λ thing. label_of thing ≡ Some its) things)

-- what is known of the things that lie together
pub record IsRoundAll {T : Type 0} (rect_of : T → Rect) (label_of : T → Option ℕ) (hull : Rect) (label : Option ℕ) (things : List T) : Type 0 where
  pub round : IsHullOf rect_of hull things
  pub labelled : IsLabelOf label_of label things
