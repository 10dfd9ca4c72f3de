-- what a structure weighs: how long its longest chain of references is, and how many shapes and points it places
use Rattle.std.specs.Prelude.{ℕ, suc, List, [], ◌∷◌, ◌≡◌, ◌+◌, ◌*◌, min, max, length, Vec}
use Rattle.lists.specs.Words.{Global}
use Rattle.library_model.specs.declared.element.Reference.{Reference}
use Rattle.flatten.specs.Steps.{columns_of, rows_of}
use Rattle.flatten.specs.inside.FollowedParts.{LeadsTo, parts_at}
use Rattle.flatten.specs.declared.part.Part.{Part}
use Rattle.flatten.specs.declared.part.Part.TheVariants.{End, Copies}
use Rattle.flatten.specs.declared.summary.Summary.{Summary}

-- the length of the longest chain from a structure, and how many shapes and points it places
pub record Weight : Type 0 where
  pub height : ℕ
  pub shapes : ℕ
  pub points : ℕ

-- nothing
abbrev pub no_weight : Weight
no_weight = record { height = 0; shapes = 0; points = 0 }

-- two weights together
abbrev pub both_weights : Weight → Weight → Weight
both_weights one other = record {
  height = max one.height other.height;
  shapes = one.shapes + other.shapes;
  points = one.points + other.points;
}

-- the copies that a reference makes
abbrev pub copies_of : Reference → ℕ
copies_of reference = rows_of reference.lattice * columns_of reference.lattice

-- the weight of so many references to a structure of this weight
abbrev pub times_weight : ℕ → Weight → Weight
times_weight copies weight = record { height = suc weight.height; shapes = copies * weight.shapes; points = copies * weight.points }

-- the weight of one part, where those of the structures are these
abbrev pub weight_of : (ℕ → Weight) → Part → Weight
weight_of of (End element layer shape) = record { height = 0; shapes = 1; points = length shape.now.points }
weight_of of (Copies reference target) = times_weight (copies_of reference.now) (of target)

-- the weight of parts together
abbrev pub weight_over : (ℕ → Weight) → List Part → Weight
weight_over of [] = no_weight
weight_over of (part ∷ parts) = both_weights (weight_of of part) (weight_over of parts)

-- the structure has this weight, as its parts and the weights of those to which they refer say
pub data Weighs (nodes : List (Vec Part Global)) : ℕ → Weight → Type 0 where
  weighs : {one : ℕ} (of : ℕ → Weight) → ((other : ℕ) → LeadsTo (parts_at nodes one) other → Weighs nodes other (of other))
      → Weighs nodes one (weight_over of (parts_at nodes one))

-- what is kept of a count: it stands still one above the most points
abbrev pub kept_of : ℕ → ℕ
kept_of count = min count 8000001

-- the number stands for the count, which may be greater: as much is kept of both
abbrev pub StandsFor : ℕ → ℕ → Type 0
StandsFor number count = kept_of number ≡ kept_of count

-- what is kept of a weight: the height stands still one above the longest chain that may be, and the counts as above
pub record IsKept (weight : Weight) (summary : Summary) : Type 0 where
  pub height : summary.height ≡ min weight.height 257
  pub shapes : summary.shapes ≡ kept_of weight.shapes
  pub points : summary.points ≡ kept_of weight.points
