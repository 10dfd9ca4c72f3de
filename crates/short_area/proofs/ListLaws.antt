-- a list of rectangles gains the cells of a part that lie in two of others, or in zones of two labels
use Rattle.std.proofs.Common.{◌++◌, inl, inr, ◌↔◌, List, Result, Ok, Err, IfOk}
use Rattle.geo_core.specs.Plane.{Has}
use Rattle.geo_core.specs.declared.plane.Cell.{Cell}
use Rattle.geo_core.specs.declared.plane.Rect.{Rect}
use Rattle.union_area.specs.PartRects.{GainsPart}

-- the same cells are wanted in other words
pub gains_alike : {E : Type 0} (wanted other : Cell → Type 0) (part : Rect) (old : List Rect) (result : Result (List Rect) E) → ((c : Cell) → Has part c → other c ↔ wanted c)
    → IfOk result (GainsPart other part old) → IfOk result (GainsPart wanted part old)
gains_alike wanted other part old (Ok new) same gains = record {
  cells = λ c. let both = gains.cells c in (
    λ u. elim (both.0 u) [ inl o ↦ inl o | inr h ↦ inr ((same c h.1).0 h.0, h.1) ],
    λ h. both.1 (elim h [ inl o ↦ inl o | inr w ↦ inr ((same c w.1).1 w.0, w.1) ]),
  );
  apart = gains.apart;
}
gains_alike wanted other part old (Err e) same gains = tt
