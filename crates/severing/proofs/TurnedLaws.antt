-- columns and rows exchanged, so that what is so along the one axis is so along the other
use Rattle.std.proofs.Common.{ℕ, pos, inl, inr, ℤ, ◌↔◌}
use Rattle.paths.specs.Paths.{stay, step}
use Rattle.geo_core.specs.Plane.{IsIn, Has, low_along, high_along}
use Rattle.geo_core.specs.Intervals.{IsWithin}
use Rattle.geo_core.specs.declared.axis.Axis.{Axis}
use Rattle.geo_core.specs.declared.axis.Axis.TheVariants.{X, Y}
use Rattle.geo_core.specs.declared.plane.Cell.{Cell}
use Rattle.geo_core.specs.declared.plane.Half.{Half}
use Rattle.geo_core.specs.declared.plane.Rect.{Rect}
use Rattle.fault_model.specs.FaultNames.{Neighbours, Walk, IsInFootprint}
use Rattle.fault_model.specs.Halves.{IsUnder}
use Rattle.half_boxes.specs.HalfBoxes.{HasHalf, span_along}
use Rattle.half_boxes.specs.Footprints.{IsReached}
use Rattle.half_boxes.specs.declared.boxes.HalfBox.{HalfBox}
use Rattle.severing.specs.Severing.{IsParted}
use Rattle.severing.specs.Changes.{IsFar}
use Rattle.severing.proofs.MoveLaws.{spot}
use Rattle.severing.proofs.PathMaps.{mapped}
use Rattle.severing.proofs.RemovalLaws.{parted_by}

-- the half square whose place along the axis is the column of this one, and across it the row
abbrev pub turned : Axis → Half → Half
turned X h = h
turned Y h = record { u = h.v; v = h.u }

-- the cell at this place along the axis, and that one across it
abbrev pub cell_at : Axis → ℤ → ℤ → Cell
cell_at X x y = record { i = x; j = y }
cell_at Y x y = record { i = y; j = x }

turned_neighbours : (axis : Axis) (p q : Half) → Neighbours p q → Neighbours (turned axis p) (turned axis q)
turned_neighbours X p q n = n
turned_neighbours Y p q (inl n) = inr n
turned_neighbours Y p q (inr n) = inl n

-- a walk turned
turned_walk : (axis : Axis) {S T : Half → Type 0} → ((h : Half) → S h → T (turned axis h)) → {p q : Half} → Walk S p q → Walk T (turned axis p) (turned axis q)
turned_walk axis f w = mapped (turned axis) f (λ p q s t n. step (f p s) (turned_neighbours axis p q n) (stay (f q t))) w

-- terminals are parted where all is turned
pub turned_parted : (on : Half → Type 0) (count : ℕ) (terminal : ℕ → Half → Type 0) (axis : Axis) (R S : Half → Type 0) → ((h : Half) → R (turned axis h) → S h)
    → IsParted on count terminal R → IsParted (λ h. on (turned axis h)) count (λ k h. terminal k (turned axis h)) S
turned_parted on count terminal axis R S f = parted_by (turned axis) (λ k h is. is) (λ p q. turned_walk axis (λ h left. (left.0, λ gone. left.1 (f h gone))))

-- and back
pub parted_from_turned : (on : Half → Type 0) (count : ℕ) (terminal : ℕ → Half → Type 0) (axis : Axis) (R S : Half → Type 0) → ((h : Half) → S h → R (turned axis h))
    → IsParted (λ h. on (turned axis h)) count (λ k h. terminal k (turned axis h)) S → IsParted on count terminal R
parted_from_turned on count terminal X R S f parted = turned_parted on count terminal X S R f parted
parted_from_turned on count terminal Y R S f parted = turned_parted (λ h. on (turned Y h)) count (λ k h. terminal k (turned Y h)) Y S R (λ h s. f (turned Y h) s) parted

-- ---- defects, boxes and zones at turned places

pub hit_turned : (axis : Axis) (x y : ℤ) (s : ℕ) (h : Half) → IsInFootprint (cell_at axis x y) s (turned axis h) ↔ (IsUnder x s h.u × IsUnder y s h.v)
hit_turned X x y s h = (λ hit. hit, λ hit. hit)
hit_turned Y x y s h = (λ hit. (hit.1, hit.0), λ hit. (hit.1, hit.0))

-- another place along the axis
pub has_along : (axis : Axis) (one : HalfBox) (x w y : ℤ) → (IsIn (span_along axis one).low (span_along axis one).high x → IsIn (span_along axis one).low (span_along axis one).high w)
    → HasHalf one (turned axis (spot x y)) → HasHalf one (turned axis (spot w y))
has_along X one x w y f h = record { across = f h.across; up = h.up }
has_along Y one x w y f h = record { across = h.across; up = f h.up }

-- nothing of a far box is beside what a defect has
pub far_turned : (axis : Axis) (zone : Rect) (side : ℕ) (one : HalfBox) → IsFar zone side one → (h g : Half) → HasHalf one (turned axis h) → IsReached zone side (turned axis g)
    → IsWithin h.u g.u (pos 1) → IsWithin h.v g.v (pos 1) → ⊥
far_turned X zone side one far h g has hit p q = far h g has hit p q
far_turned Y zone side one far h g has hit p q = far (turned Y h) (turned Y g) has hit q p

-- cells of the zone by their places along the axis
pub along_zone : (axis : Axis) (zone : Rect) (x y : ℤ) → Has zone (cell_at axis x y) → IsIn (low_along axis zone) (high_along axis zone) x
along_zone X zone x y h = h.across
along_zone Y zone x y h = h.up

pub zone_along : (axis : Axis) (zone : Rect) (x w y : ℤ) → Has zone (cell_at axis x y) → IsIn (low_along axis zone) (high_along axis zone) w → Has zone (cell_at axis w y)
zone_along X zone x w y h k = record { across = k; up = h.up }
zone_along Y zone x w y h k = record { across = h.across; up = k }
