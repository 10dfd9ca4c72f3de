-- shorts of a metal over a window that defects cannot leave, by the pairs of its nets
use Rattle.std.proofs.Common.{ℕ, ◌/◌, ◌≤◌, ◌↔◌, arith, List, [], Contains, Option, Some, None}
use Rattle.geo_core.specs.declared.plane.Cell.{Cell}
use Rattle.geo_core.specs.declared.plane.Rect.{Rect}
use Rattle.fault_model.specs.FaultNames.{Cut, IsCovered, IsShort, IsWindowOf, Tally, cells_of, cells_of_window}
use Rattle.fault_model.proofs.CellLaws.{listed_from_has}
use Rattle.fault_model.proofs.TallyLaws.{Tally-counts, Tally-none}
use Rattle.fault_model.proofs.WindowLaws.{short_in_window}
use Rattle.layout_pairs.specs.PairAreas.{ArePairsOn, TouchesSomeNets}
use Rattle.layout_pairs.proofs.laws.PairLaws.{Item, none_touched, some_touched}
use Rattle.layout_pairs.proofs.laws.SearchLaws.{tally_decides}
use Rattle.layout_pairs.proofs.laws.TouchLaws.{TouchesPair, short_touches, touching_is_short}

module _ (covers : ℕ → Cell → Type 0) (cuts : List Cut) (m side reach : ℕ) (far : side / 2 ≤ reach) where
  abbrev Short : Cell → Type 0
  Short = IsShort covers cuts m side

  abbrev IsWindow : Option Rect → Type 0
  IsWindow = IsWindowOf (IsCovered covers) reach

  -- some list has all cells of the metal
  abbrev CellsOfMetal : Type 0
  CellsOfMetal = (cells : List Cell) × ((d : Cell) → covers m d → Contains cells d)

  cells_of_metal : (window : Option Rect) → IsWindow window → CellsOfMetal
  cells_of_metal None none = ([], λ d on. absurd (none d (m, on)))
  cells_of_metal (Some window) is = (cells_of is.box, λ d on. listed_from_has is.box d (is.bounds.all_in d (m, on)))

  short_is_listed : (window : Option Rect) → IsWindow window → (c : Cell) → Short c → Contains (cells_of_window window) c
  short_is_listed None none c h = let on = h.one_on in absurd (none on.0 (m, on.2))
  short_is_listed (Some window) is c h = listed_from_has window c (short_in_window covers reach side window c is far cuts m h)

  module _ (window : Option Rect) (is_window : IsWindow window) (pairs : List Item) (are : ArePairsOn covers cuts m side (cells_of_window window) pairs) where
    abbrev cells : List Cell
    cells = cells_of_window window

    -- a short touches two nets
    short_has_pair : (c : Cell) → Short c → TouchesPair covers cuts m side are.starts are.are_starts c
    short_has_pair c h =
        let listed = cells_of_metal window is_window in
        let at = short_is_listed window is_window c h in
        short_touches covers cuts m side are.starts are.are_starts c
        (λ one other less small. tally_decides cells (are.area one other) c at (are.tallies one other less small)) listed.0 listed.1 h

    pub shorts_are_touches : (c : Cell) → Short c ↔ TouchesSomeNets covers cuts m side c
    shorts_are_touches c = (
      λ h.
          let t = short_has_pair c h in
          let less = t.lesser in
          record { starts = are.starts; are_starts = are.are_starts; one = t.one; other = t.other; different = λ e. absurd (omega arith); touches = t.touches },
      λ t. touching_is_short covers cuts m side t.starts t.are_starts c t.one t.other t.different t.touches,
    )

    -- where no pair is listed, there are no shorts
    pub no_pairs_no_shorts : ((item : Item) → Contains pairs item → ⊥) → Tally Short cells 0
    no_pairs_no_shorts none = Tally-none cells (λ c at h.
        let t = short_has_pair c h in none_touched covers cuts m side cells pairs are none c at t.one t.other t.lesser t.small t.touches)

    -- where there are none, no pair is listed
    pub no_shorts_no_pairs : Tally Short cells 0 → (item : Item) → Contains pairs item → ⊥
    no_shorts_no_pairs tally (one, other, n) listed =
        let found = some_touched covers cuts m side cells pairs are one other n listed in
        let less = found.0 in
        let touched = found.1 in
        let h = touching_is_short covers cuts m side are.starts are.are_starts touched.0 one other (λ e. absurd (omega arith)) touched.2 in
        let some : 1 ≤ 0 = Tally-counts cells 0 touched.0 touched.1 h tally in
        omega arith
