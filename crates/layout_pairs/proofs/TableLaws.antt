-- the pairs of all metals, and their rows
use Rattle.std.proofs.Common.{ℕ, suc, ◌+◌, ◌<◌, ◌≤◌, ◌≡◌, ◌∙◌, refl, ap, subst, List, [], ◌∷◌, ◌++◌, map, length, arith, ◌↔◌, slice_index_or, Option}
use Rattle.lists.proofs.Words.{AllZip, enumerate_from, flat_map, zip}
use Rattle.geo_core.specs.declared.plane.Cell.{Cell}
use Rattle.geo_core.specs.declared.plane.Labelled.{Labelled}
use Rattle.geo_core.specs.Plane.{IsCoveredIn}
use Rattle.geo_core.specs.declared.plane.Rect.{Rect}
use Rattle.fault_model.specs.FaultNames.{Cut, cells_of_window}
use Rattle.map_model.specs.MapNames.{MappedLayer, layer_map_of, metal_layer, side_by}
use Rattle.map_model.specs.declared.map.Map.{Map}
use Rattle.map_model.specs.declared.layers.Metal.{Metal}
use Rattle.map_model.specs.declared.measure.Measure.{Measure}
use Rattle.net_numbers.specs.FirstCells.{AreFirstCells, HaveOwnCells, IsLabelCell, IsNumberOf, IsNumbered}
use Rattle.net_extract.specs.Cuts.{cuts_of}
use Rattle.area_parts.specs.AreaParts.{AreMetalPieces, ArePiecesOf}
use Rattle.area_parts.specs.Rows.{IsWindowFor}
use Rattle.pair_report.specs.PairRows.{pair_rows, rows_of_metal}
use Rattle.pair_report.specs.declared.tables.MetalPairs.{MetalPairs}
use Rattle.layout_pairs.specs.PairAreas.{ArePairRows, ArePairsOn}
use Rattle.layout_pairs.specs.inside.NumberedPairs.{AreMadeFor, AreNumberedPairs, IsNamedAs}
use Rattle.layout_pairs.proofs.MetalPairLaws.{pairs_are}
use Rattle.layout_nets.proofs.laws.PieceNets.{own_cells}

-- the law of `net_numbers`: a number has the cells of its label
abbrev pub NumberLaw : Type 0
NumberLaw = (pieces numbered : List Labelled) (cells : List Cell) (label number : ℕ) (c : Cell) → HaveOwnCells pieces → IsNumbered pieces numbered → AreFirstCells pieces cells
    → IsNumberOf pieces cells label number → IsLabelCell numbered number c ↔ IsLabelCell pieces label c

abbrev pub pairs_of : MetalPairs → List (ℕ × ℕ × ℕ)
pairs_of item = item.pairs

module _ (covers : ℕ → Cell → Type 0) (cuts : List Cut) (side : ℕ) (cells : List Cell) (some : 1 ≤ side) (law : NumberLaw) where
  -- of one metal
  metal_pairs : (m : ℕ) (pieces : List Labelled) (pairs : List (ℕ × ℕ × ℕ)) → ArePiecesOf covers cuts m pieces → AreNumberedPairs side cells pieces pairs → ArePairsOn covers cuts m side cells pairs
  metal_pairs m pieces pairs are made =
      let is = made.is_numbered in
      pairs_are covers cuts m side cells pieces pairs are some made
      (λ label number c number_is. law pieces made.numbered is.cells label number c (own_cells covers cuts m pieces are) is is.are_first number_is)

  -- of all metals, which are numbered from the first one on
  pub each_metal : (first : ℕ) (metals : List Metal) (lists : List (List Labelled)) (made : List MetalPairs)
      → ((n : ℕ) → n < length lists → ArePiecesOf covers cuts (first + n) (slice_index_or lists n [])) → AllZip IsNamedAs metals made
      → AllZip (λ pieces (item : MetalPairs). AreNumberedPairs side cells pieces item.pairs) lists made
      → AllZip (λ (metal : ℕ × MappedLayer) pairs. ArePairsOn covers cuts metal.0 side cells pairs) (enumerate_from first (map metal_layer metals)) (map pairs_of made)
  each_metal first [] lists [] are named paired = tt
  each_metal first [] lists (item ∷ made) are named paired = absurd named
  each_metal first (metal ∷ metals) lists [] are named paired = absurd named
  each_metal first (metal ∷ metals) [] (item ∷ made) are named paired = absurd paired
  each_metal first (metal ∷ metals) (pieces ∷ lists) (item ∷ made) are named paired =
      let here : first + 0 ≡ first = omega arith in
      let of_first = subst (λ m. ArePiecesOf covers cuts m pieces) here (are 0 (omega arith)) in
      (metal_pairs first pieces item.pairs of_first paired.0, each_metal (first + 1) metals lists made rest named.1 paired.1)
    where
      rest : (n : ℕ) → n < length lists → ArePiecesOf covers cuts (first + 1 + n) (slice_index_or lists n [])
      rest n small = let e : first + suc n ≡ first + 1 + n = omega arith in subst (λ m. ArePiecesOf covers cuts m (slice_index_or lists n [])) e (are (suc n) (omega arith))

-- the rows go by the names of the metals
pub rows_are : (measure : Measure) (size first : ℕ) (metals : List Metal) (made : List MetalPairs) → AllZip IsNamedAs metals made
    → flat_map (λ (item : MetalPairs). rows_of_metal measure size item.layer item.pairs) made
    ≡ flat_map (λ (both : (ℕ × MappedLayer) × List (ℕ × ℕ × ℕ)). rows_of_metal measure size both.0.1.name both.1) (zip (enumerate_from first (map metal_layer metals)) (map pairs_of made))
rows_are measure size first [] [] named = refl
rows_are measure size first [] (item ∷ made) named = absurd named
rows_are measure size first (metal ∷ metals) [] named = absurd named
rows_are measure size first (metal ∷ metals) (item ∷ made) named =
    let rest = rows_are measure size (first + 1) metals made named.1 in
    ap (λ name. rows_of_metal measure size name item.pairs ++ flat_map (λ (next : MetalPairs). rows_of_metal measure size next.layer next.pairs) made) named.0
    ∙ ap (λ rows. rows_of_metal measure size metal.name item.pairs ++ rows) rest

module _ (given : Map) (lists : List (List Rect)) (pieces : List (List Labelled)) (window : Option Rect) (size : ℕ) where
  abbrev side : ℕ
  side = side_by given.measure size

  -- the tables of a map have the rows of its pairs
  pub table_rows : (made : List MetalPairs) → AreMetalPieces (layer_map_of given) lists pieces → IsWindowFor (layer_map_of given) (IsCoveredIn lists) window → 1 ≤ side → NumberLaw
      → AreMadeFor given.metals pieces side (cells_of_window window) made
      → ArePairRows (layer_map_of given) (IsCoveredIn lists) size (pair_rows (record { measure = given.measure; size = size; metals = made }))
  table_rows made are is_window some law is_made = record {
    window = window;
    is_window = is_window;
    pairs = map pairs_of made;
    each = each_metal (IsCoveredIn lists) (cuts_of (layer_map_of given)) side (cells_of_window window) some law 0 given.metals pieces made pieces_are is_made.named is_made.paired;
    rows_are = rows_are given.measure size 0 given.metals made is_made.named;
  }
    where
      pieces_are : (n : ℕ) → n < length pieces → ArePiecesOf (IsCoveredIn lists) (cuts_of (layer_map_of given)) (0 + n) (slice_index_or pieces n [])
      pieces_are n small =
          let all = are.one_each in
          let here : n ≡ 0 + n = omega arith in
          subst (λ m. ArePiecesOf (IsCoveredIn lists) (cuts_of (layer_map_of given)) m (slice_index_or pieces n [])) here (are.pieces n (omega arith))
