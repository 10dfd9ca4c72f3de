-- what is told of all metals
use Rattle.std.proofs.Common.{ℕ, suc, ◌+◌, ◌<◌, ◌≡◌, subst, List, [], ◌∷◌, map, length, arith, ◌↔◌, slice_index_or}
use Rattle.lists.proofs.Words.{AllZip, enumerate_from}
use Rattle.geo_core.specs.declared.plane.Cell.{Cell}
use Rattle.geo_core.specs.declared.plane.Labelled.{Labelled}
use Rattle.map_model.specs.MapNames.{LayerMap, metal_layer}
use Rattle.map_model.specs.declared.layers.Metal.{Metal}
use Rattle.net_extract.specs.Cuts.{cuts_of}
use Rattle.near_index.specs.declared.nearest.Nearest.{Nearest}
use Rattle.net_numbers.specs.FirstCells.{AreFirstCells, HaveOwnCells, IsLabelCell, IsNumberOf, IsNumbered}
use Rattle.area_parts.specs.AreaParts.{ArePiecesOf}
use Rattle.layout_nets.proofs.laws.PieceNets.{own_cells}
use Rattle.layout_probe.specs.NearestNets.{AreNearestNets}
use Rattle.layout_probe.specs.Probe.{IsToldOf}
use Rattle.layout_probe.specs.inside.NumberedNearest.{AreFoundFor, AreNearestNumbers, IsNamedAs}
use Rattle.layout_probe.specs.declared.metal_near.MetalNear.{MetalNear}
use Rattle.layout_probe.proofs.NetDistances.{HaveDistances, nearest_nets}

-- the law of `net_numbers`: a number has the cells of its label
abbrev pub NumberLaw : Type 0
NumberLaw = (pieces numbered : List Labelled) (cells : List Cell) (label number : ℕ) (c : Cell) → HaveOwnCells pieces → IsNumbered pieces numbered → AreFirstCells pieces cells
    → IsNumberOf pieces cells label number → IsLabelCell numbered number c ↔ IsLabelCell pieces label c

module _ (layer_map : LayerMap) (covers : ℕ → Cell → Type 0) (c : Cell) (law : NumberLaw) (far : HaveDistances) where
  -- of one metal
  nearest_on : (m : ℕ) (pieces : List Labelled) (nearest : Nearest) → ArePiecesOf covers (cuts_of layer_map) m pieces → AreNearestNumbers pieces c nearest
      → AreNearestNets covers (cuts_of layer_map) m c nearest
  nearest_on m pieces nearest are found =
      let is = found.is_numbered in
      nearest_nets covers (cuts_of layer_map) m pieces found.numbered is are
      (λ label number d number_is. law pieces found.numbered is.cells label number d (own_cells covers (cuts_of layer_map) m pieces are) is is.are_first number_is) c far nearest found.two

  -- of all metals, which are numbered from the first one on
  each_metal : (first : ℕ) (metals : List Metal) (lists : List (List Labelled)) (told : List MetalNear)
      → ((n : ℕ) → n < length lists → ArePiecesOf covers (cuts_of layer_map) (first + n) (slice_index_or lists n [])) → AllZip IsNamedAs metals told
      → AllZip (λ pieces (item : MetalNear). AreNearestNumbers pieces c item.nearest) lists told
      → AllZip (IsToldOf layer_map covers c) (enumerate_from first (map metal_layer metals)) told
  each_metal first [] lists [] are named found = tt
  each_metal first [] lists (item ∷ told) are named found = absurd named
  each_metal first (metal ∷ metals) lists [] are named found = absurd named
  each_metal first (metal ∷ metals) [] (item ∷ told) are named found = absurd found
  each_metal first (metal ∷ metals) (pieces ∷ lists) (item ∷ told) are named found =
      let here : first + 0 ≡ first = omega arith in
      let of_first = subst (λ m. ArePiecesOf covers (cuts_of layer_map) m pieces) here (are 0 (omega arith)) in
      (record { layer = named.0; nearest = nearest_on first pieces item.nearest of_first found.0 }, each_metal (first + 1) metals lists told rest named.1 found.1)
    where
      rest : (n : ℕ) → n < length lists → ArePiecesOf covers (cuts_of layer_map) (first + 1 + n) (slice_index_or lists n [])
      rest n small = let e : first + suc n ≡ first + 1 + n = omega arith in subst (λ m. ArePiecesOf covers (cuts_of layer_map) m (slice_index_or lists n [])) e (are (suc n) (omega arith))

  pub told_are : (metals : List Metal) (lists : List (List Labelled)) (told : List MetalNear)
      → ((n : ℕ) → n < length lists → ArePiecesOf covers (cuts_of layer_map) n (slice_index_or lists n [])) → AreFoundFor metals lists c told
      → AllZip (IsToldOf layer_map covers c) (enumerate_from 0 (map metal_layer metals)) told
  told_are metals lists told are found =
      each_metal 0 metals lists told (λ n small. let e : n ≡ 0 + n = omega arith in subst (λ m. ArePiecesOf covers (cuts_of layer_map) m (slice_index_or lists n [])) e (are n small)) found.named found.found
