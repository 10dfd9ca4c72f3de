-- the parts that come of nets
use Rattle.std.proofs.Common.{arith, ◌+◌, ◌/◌, Some, slice_get, ◌≡◌, ◌<◌, ℕ, List, [], map, length, sym, subst, ap, ◌∙◌, ◌↔◌, Contains, slice_index_or, Result, Ok, Err}
use Rattle.std.specs.Prelude.{IfErr, IfOk}
use Rattle.lists.proofs.Words.{slice_get_within, length-enumerate_from, length-map}
use Rattle.std.proofs.Math.ListN.{get_or-map}
use Rattle.first_refusal.specs.Answers.{gives, no_memory}
use Rattle.first_refusal.specs.Checks.{all_hold}
use Rattle.first_refusal.proofs.JudgeLaws.{Judges}
use Rattle.geo_core.specs.Plane.{Has, IsCoveredIn}
use Rattle.geo_core.specs.declared.plane.Cell.{Cell}
use Rattle.geo_core.specs.declared.plane.Half.{Half}
use Rattle.geo_core.specs.declared.plane.Labelled.{Labelled}
use Rattle.geo_core.specs.declared.plane.Rect.{Rect}
use Rattle.fault_model.specs.FaultNames.{IsOn, Cut, IsViaBlock, IslandLists}
use Rattle.lists.proofs.Mapping.{Contains-map, Contains-map_from}
use Rattle.map_model.specs.MapNames.{LayerMap}
use Rattle.net_extract.specs.AnchoredIslands.{AreAnchoredIslands}
use Rattle.net_extract.specs.Cuts.{cut_of, cuts_of, numbered_cuts, terminal_cuts_of}
use Rattle.net_extract.specs.Extraction.{AreNetsOf}
use Rattle.net_extract.specs.NetLists.{NetLists, IsPieceCell, IsNetCell, pieces_on}
use Rattle.net_extract.proofs.laws.ClusterLaws.{carry_clusters}
use Rattle.net_extract.proofs.laws.OpenLaws.{opens_are_of_islands}
use Rattle.questions.specs.Questions.{questions}
use Rattle.via_clusters.specs.Blocks.{CoversSomeBox}
use Rattle.via_clusters.specs.Clusters.{AreClusterBoxes}
use Rattle.via_clusters.proofs.laws.BlockLaws.{block_is_box}
use Rattle.area_parts.specs.AreaParts.{AreBoxesOf, AreIslandsOf, AreMetalPieces, ArePartsOf, ArePiecesOf, IsInPieces, by_net}
use Rattle.area_parts.specs.LayerParts.{AreAllBoxes, AreAllIslands}
use Rattle.area_parts.specs.declared.parts.Parts.{Parts}

module _ (layer_map : LayerMap) (lists : List (List Rect)) (made : NetLists) (are : AreNetsOf layer_map lists made) (metal : ℕ) where
  abbrev pieces : List Labelled
  pieces = map by_net (pieces_on made metal)

  -- a half square of a piece lies in its net
  in_net : (piece : Labelled) (h : Half) → Contains pieces piece → IsOn (Has piece.rect) h → IsOn (IsNetCell made metal piece.label) h
  in_net piece h among on =
      let found = Contains-map_from by_net (pieces_on made metal) piece among in
      (on.0, on.1, record { piece = found.0; among = found.1; carries = ap (λ (l : Labelled). l.label) found.2; has = subst (λ (l : Labelled). Has l.rect on.0) (sym found.2) on.2 })

  has_piece : (c : Cell) → IsInPieces pieces c ↔ IsPieceCell made metal c
  has_piece c = (
    λ v. let found = Contains-map_from by_net (pieces_on made metal) v.piece v.among in
        record { piece = found.0; among = found.1; has = subst (λ (l : Labelled). Has l.rect c) (sym found.2) v.has },
    λ v. record { piece = by_net v.piece; among = Contains-map by_net (pieces_on made metal) v.piece v.among; has = v.has },
  )

  -- the pieces of a metal, labelled by their nets
  pub pieces_by_net : metal < length layer_map.metals → ArePiecesOf (IsCoveredIn lists) (cuts_of layer_map) metal pieces
  pieces_by_net small = record {
    cover = λ c. let covered = are.covered metal c small in (λ v. covered.0 ((has_piece c).0 v), λ v. (has_piece c).1 (covered.1 v));
    nets = λ one other p q one_in other_in p_on q_on. are.nets metal metal one.label other.label p q (in_net one p one_in p_on) (in_net other q other_in q_on);
  }

  -- the islands of a metal that have two anchors or more
  islands_of_metal : (islands : List IslandLists) → AreAnchoredIslands made metal islands
      → AreIslandsOf (IsCoveredIn lists) (terminal_cuts_of layer_map) (λ d. Contains layer_map.terminals (metal, d)) metal islands
  islands_of_metal islands anchored side c =
      let same = opens_are_of_islands layer_map lists made are metal side c islands anchored in (
        λ o. same.0 (o.island, o.among, o.is_open),
        λ o. let found = same.1 o in record { island = found.0; among = found.1; is_open = found.2 },
      )

-- the boxes of a cut's clusters tell where it is blocked
boxes_of_cut : (layer_map : LayerMap) (lists : List (List Rect)) (made : NetLists) → AreNetsOf layer_map lists made → (number : ℕ) (cut : Cut) → slice_get (cuts_of layer_map) number ≡ Some cut
    → (boxes : List Rect) → AreClusterBoxes made number boxes → AreBoxesOf (IsCoveredIn lists) cut boxes
boxes_of_cut layer_map lists made are number cut there boxes boxed radius c some =
    let half : (radius + radius + 1) / 2 ≡ radius = omega arith in
    let is = block_is_box (IsCoveredIn lists) cut made number (carry_clusters layer_map lists made number cut are there) boxes boxed (radius + radius) c (omega arith) in
    let same = subst (λ r. IsViaBlock (IsCoveredIn lists) cut (radius + radius) c ↔ CoversSomeBox boxes r c) half is in
    (same.1, same.0)

-- a cut of the map has its contact pieces in the nets, under its number
cut_is_among : (layer_map : LayerMap) (number : ℕ) (cut : Cut) → slice_get (cuts_of layer_map) number ≡ Some cut → number < length layer_map.cuts
cut_is_among layer_map number cut there =
    let within = slice_get_within (cuts_of layer_map) number cut there in
    let as_many = length-map (numbered_cuts layer_map) cut_of in
    let numbered = length-enumerate_from (length layer_map.metals) layer_map.cuts in
    omega (arith, within, as_many, numbered)

pub metal_pieces_are : (layer_map : LayerMap) (lists : List (List Rect)) (made : NetLists) (metals : List (List Labelled)) → AreNetsOf layer_map lists made
    → metals ≡ map (map by_net) made.pieces → AreMetalPieces layer_map lists metals
metal_pieces_are layer_map lists made metals are same = record {
  one_each = ap length same ∙ length-map made.pieces (map by_net) ∙ are.metals;
  pieces = λ metal small.
      let at = ap (λ ms. slice_index_or ms metal []) same ∙ get_or-map (map by_net) made.pieces metal [] in
      subst (ArePiecesOf (IsCoveredIn lists) (cuts_of layer_map) metal) (sym at) (pieces_by_net layer_map lists made are metal small);
}

pub parts_are : (layer_map : LayerMap) (lists : List (List Rect)) (made : NetLists) (parts : Parts) → AreNetsOf layer_map lists made → parts.questions ≡ questions layer_map
    → parts.metals ≡ map (map by_net) made.pieces → AreAllIslands made (length made.pieces) parts.islands → AreAllBoxes made (length made.contacts) parts.cuts
    → ArePartsOf layer_map lists parts
parts_are layer_map lists made parts are asked metals anchored boxed =
    let islands = subst (λ n. AreAllIslands made n parts.islands) are.metals anchored in
    let boxes = subst (λ n. AreAllBoxes made n parts.cuts) are.cuts boxed in
    let of_metals = metal_pieces_are layer_map lists made parts.metals are metals in
    record {
      asked = asked;
      one_each = of_metals.one_each;
      pieces = of_metals.pieces;
      islands = λ metal small. islands_of_metal layer_map lists made are metal _ (islands.each metal small);
      boxes = λ number cut there. boxes_of_cut layer_map lists made are number cut there _ (boxes.each number (cut_is_among layer_map number cut there));
      each_once = record { nets = made; are_nets = are; islands = islands; boxes = boxes };
    }

-- where checks were answered with a thing, and what is made from it lacks nothing but memory, they are answered with what is made
pub made_from : {N T U F : Type 0} {memory : F} {Holds : N → Type 0} {checks : List N} {fault_of : N → F} (Is : T → Type 0) (Js : U → Type 0) (thing : T) (result : Result U F)
    → Judges memory Holds checks fault_of Is (Ok thing) → (Is thing → IfOk result Js) → IfErr result (λ fault. fault ≡ memory) → Judges memory Holds checks fault_of Js result
made_from Is Js thing (Ok made) (gives (all_hold all is)) from same = gives (all_hold all (from is))
made_from {memory = memory} {Holds = Holds} {checks = checks} {fault_of = fault_of} Is Js thing (Err fault) answered from same =
    subst (λ f. Judges memory Holds checks fault_of Js (Err f)) (sym same) no_memory
