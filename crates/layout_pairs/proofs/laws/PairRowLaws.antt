-- rows of pairs: there is one list of them, they tell where shorts are, and there are none exactly where no area of shorts is
use Rattle.std.proofs.Common.{ℕ, ◌/◌, ◌<◌, ◌≤◌, ◌≡◌, ◌↔◌, sym, ap, subst, ◌∙◌, zero-add, List, [], length, Contains, Some, slice_get}
use Rattle.lists.proofs.Containing.{Contains-none, Contains-slice_get, some_item}
use Rattle.lists.proofs.Mapping.{Contains-flat_map, Contains-flat_map_from, Contains-map, Contains-map_from}
use Rattle.lists.proofs.Numbering.{slice_get-enumerate}
use Rattle.lists.proofs.Words.{AllZip, flat_map, zip}
use Rattle.first_refusal.specs.Laws.{IsUnique}
use Rattle.geo_core.specs.declared.plane.Cell.{Cell}
use Rattle.fault_model.specs.FaultNames.{IsCovered, IsShort, Tally, cells_of_window}
use Rattle.fault_model.proofs.WindowLaws.{agree}
use Rattle.map_model.specs.MapNames.{LayerMap, MappedLayer, reach_of, side_by}
use Rattle.questions.specs.Questions.{metal_layers}
use Rattle.gauges.specs.declared.pair_row.PairRow.{PairRow}
use Rattle.net_extract.specs.Cuts.{cuts_of}
use Rattle.pair_report.specs.PairRows.{pair_row, rows_of_metal}
use Rattle.layout_pairs.specs.PairAreas.{ArePairRows, ArePairsOn, TouchesSomeNets}
use Rattle.layout_nets.proofs.laws.BesideLaws.{beside_item, both_beside, none_listed, one_beside}
use Rattle.layout_pairs.proofs.laws.MetalLaws.{no_pairs_no_shorts, no_shorts_no_pairs, shorts_are_touches}
use Rattle.layout_pairs.proofs.laws.PairLaws.{Item, pairs_agree}

module _ (layer_map : LayerMap) (covers : ℕ → Cell → Type 0) (size : ℕ) where
  abbrev side : ℕ
  side = side_by layer_map.measure size

  -- these pairs are those of the metal over these cells
  abbrev ArePairs : List Cell → ℕ × MappedLayer → List Item → Type 0
  ArePairs cells metal = ArePairsOn covers (cuts_of layer_map) metal.0 side cells

  abbrev rows_of : (ℕ × MappedLayer) × List Item → List PairRow
  rows_of both = rows_of_metal layer_map.measure size both.0.1.name both.1

  -- a layer map, what is covered and a size have one list of rows
  pub rows_agree : IsUnique (ArePairRows layer_map covers size)
  rows_agree rows others are same =
      let metals = metal_layers layer_map in
      let cells = agree (IsCovered covers) (reach_of layer_map) are.window same.window are.is_window same.is_window in
      let each = subst (λ (cs : List Cell). AllZip (ArePairs cs) metals are.pairs) cells are.each in
      let alone = λ (metal : ℕ × MappedLayer) (xs ys : List Item). pairs_agree covers (cuts_of layer_map) metal.0 side (cells_of_window same.window) xs ys in
      let pairs : are.pairs ≡ same.pairs = one_beside (ArePairs (cells_of_window same.window)) alone metals are.pairs same.pairs each same.each in
      are.rows_are ∙ ap (λ (lists : List (List Item)). flat_map rows_of (zip metals lists)) pairs ∙ sym same.rows_are

  module _ (rows : List PairRow) (are : ArePairRows layer_map covers size rows) where
    abbrev cells : List Cell
    cells = cells_of_window are.window

    abbrev metals : List (ℕ × MappedLayer)
    metals = metal_layers layer_map

    -- so many of the window's cells have shorts of this metal
    abbrev HasShorts : ℕ → ℕ → Type 0
    HasShorts metal = Tally (IsShort covers (cuts_of layer_map) metal side) cells

    -- a listed pair has a row
    row_of_pair : (both : (ℕ × MappedLayer) × List Item) → Contains (zip metals are.pairs) both → (item : Item) → Contains both.1 item
        → Contains rows (pair_row layer_map.measure size both.0.1.name item)
    row_of_pair both beside item listed =
        let make = pair_row layer_map.measure size both.0.1.name in
        let here = Contains-flat_map rows_of (zip metals are.pairs) both (make item) beside (Contains-map make both.1 item listed) in
        subst (λ (rs : List PairRow). Contains rs (make item)) (sym are.rows_are) here

    -- where no metal has a listed pair there are no rows
    no_rows : ((both : (ℕ × MappedLayer) × List Item) → Contains (zip metals are.pairs) both → (item : Item) → Contains both.1 item → ⊥) → rows ≡ []
    no_rows none = none_listed rows (λ row listed.
        let found = Contains-flat_map_from rows_of (zip metals are.pairs) row (subst (λ (rs : List PairRow). Contains rs row) are.rows_are listed) in
        let item = Contains-map_from (pair_row layer_map.measure size found.0.0.1.name) found.0.1 row found.2 in
        none found.0 found.1 item.0 item.1)

    module _ (far : side / 2 ≤ reach_of layer_map) where
      -- a metal has shorts where defects touch two of its nets
      pub short_is_touch : (metal : ℕ) → metal < length layer_map.metals → (c : Cell)
          → IsShort covers (cuts_of layer_map) metal side c ↔ TouchesSomeNets covers (cuts_of layer_map) metal side c
      short_is_touch metal small c =
          let mapped = some_item layer_map.metals metal small in
          let at : slice_get metals metal ≡ Some (metal, mapped.0) =
          subst (λ (n : ℕ). slice_get metals metal ≡ Some (n, mapped.0)) (zero-add metal) (slice_get-enumerate 0 layer_map.metals metal mapped.0 mapped.1) in
          let found = beside_item (ArePairs cells) metals are.pairs are.each (metal, mapped.0) (Contains-slice_get metals metal (metal, mapped.0) at) in
          shorts_are_touches covers (cuts_of layer_map) metal side (reach_of layer_map) far are.window are.is_window found.item found.related c

      -- a metal of the map has no shorts where there are no rows
      pub none_short : rows ≡ [] → (metal : ℕ × MappedLayer) → Contains metals metal → HasShorts metal.0 0
      none_short none metal of_metal =
          let found = beside_item (ArePairs cells) metals are.pairs are.each metal of_metal in
          no_pairs_no_shorts covers (cuts_of layer_map) metal.0 side (reach_of layer_map) far are.window are.is_window found.item found.related (λ item listed.
          let row = pair_row layer_map.measure size metal.1.name item in
          Contains-none (subst (λ (rs : List PairRow). Contains rs row) none (row_of_pair (metal, found.item) found.beside item listed)))

      -- there are no rows where no metal of the map has shorts
      pub none_row : ((metal : ℕ × MappedLayer) → Contains metals metal → HasShorts metal.0 0) → rows ≡ []
      none_row none = no_rows (λ both beside item listed.
          let h = both_beside (ArePairs cells) metals are.pairs are.each both beside in
          no_shorts_no_pairs covers (cuts_of layer_map) both.0.0 side (reach_of layer_map) far are.window are.is_window both.1 h.1
          (none both.0 h.0) item listed)
