-- the cells of a window that are gathered from several lists of rectangles
use Rattle.std.proofs.Common.{List, ◌++◌, ◌↔◌, ◌⊎◌, inl, inr}
use Rattle.geo_core.specs.Plane.{IsInUnion}
use Rattle.geo_core.specs.declared.plane.Cell.{Cell}
use Rattle.geo_core.specs.declared.plane.Rect.{Rect}
use Rattle.fault_model.proofs.UnionLaws.{union_append}

-- what is so at a cell of a window by one of two lists is so by both together
pub gathered : (Within P Q R : Type 0) (old found : List Rect) (c : Cell) → R ↔ (P ⊎ Q) → IsInUnion old c ↔ (Within × P) → IsInUnion found c ↔ (Within × Q)
    → IsInUnion (old ++ found) c ↔ (Within × R)
gathered Within P Q R old found c either before here = (
  λ u. elim ((union_append c old found).0 u) [
    | inl v ↦ let h = before.0 v in (h.0, either.1 (inl h.1))
    | inr v ↦ let h = here.0 v in (h.0, either.1 (inr h.1))
  ],
  λ h. elim (either.0 h.1) [
    | inl p ↦ (union_append c old found).1 (inl (before.1 (h.0, p)))
    | inr q ↦ (union_append c old found).1 (inr (here.1 (h.0, q)))
  ],
)
