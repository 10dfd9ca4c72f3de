-- what is counted over the parts of a layer map are the cells at which a defect makes the question's fault
use Rattle.std.proofs.Common.{ℕ, ◌+◌, ◌-◌, ◌/◌, ◌<◌, ◌≡◌, refl, subst, List, [], length, get_or, Some, slice_get, slice_index_or, ◌↔◌, arith}
use Rattle.lists.proofs.Words.{AllZip, AllZip-long}
use Rattle.geo_core.specs.Plane.{IsCoveredIn}
use Rattle.geo_core.specs.declared.plane.Cell.{Cell}
use Rattle.geo_core.specs.declared.plane.Rect.{Rect}
use Rattle.fault_model.specs.FaultNames.{Tally}
use Rattle.fault_model.proofs.TallyLaws.{Tally-same_all}
use Rattle.map_model.specs.MapNames.{LayerMap}
use Rattle.net_extract.specs.Cuts.{cuts_of}
use Rattle.questions.specs.Questions.{IsAskable, side_of}
use Rattle.questions.specs.declared.kind.Kind.{Kind}
use Rattle.questions.specs.declared.kind.Kind.TheVariants.{Short, Open, Via}
use Rattle.questions.specs.declared.question.Question.{Question}
use Rattle.via_clusters.specs.Blocks.{CoversSomeBox}
use Rattle.area_parts.specs.AreaParts.{ArePartsOf}
use Rattle.area_parts.specs.AskedCounts.{AreCounted, IsCounted, IsCountedAs}
use Rattle.area_parts.specs.FaultKinds.{IsFault}
use Rattle.area_parts.specs.Rows.{AreAmounts, IsAmount}
use Rattle.area_parts.specs.declared.parts.Parts.{Parts}
use Rattle.area_parts.proofs.laws.CutLaws.{block_is}
use Rattle.critical_areas.proofs.PieceLaws.{reached_is}
use Rattle.critical_areas.proofs.ZippedLaws.{item_has, zipped_at, zipped_by}

module _ (layer_map : LayerMap) (lists : List (List Rect)) (parts : Parts) (are : ArePartsOf layer_map lists parts) where
  -- the fault of this kind on the metal or at the cut with this number
  abbrev Faulty : Kind → ℕ → ℕ → Cell → Type 0
  Faulty kind number side = IsFault layer_map (IsCoveredIn lists) kind number side

  module _ (question : Question) (askable : IsAskable (length parts.metals) (length parts.cuts) question) (c : Cell) where
    abbrev side : ℕ
    side = side_of question

    by_kind : (kind : Kind) → question.kind ≡ kind
        → IsCountedAs kind parts question.number side c ↔ Faulty kind question.number side c
    by_kind Short e =
        let of_metal : question.number < length parts.metals = askable.of_metal (λ via. cc (e, via)) in
        let small : question.number < length layer_map.metals = omega (arith, are.one_each) in
        reached_is (IsCoveredIn lists) (cuts_of layer_map) question.number (slice_index_or parts.metals question.number []) (are.pieces question.number small) side c askable.is_side.least
    by_kind Open e =
        let of_metal : question.number < length parts.metals = askable.of_metal (λ via. cc (e, via)) in
        let small : question.number < length layer_map.metals = omega (arith, are.one_each) in
        are.islands question.number small side c
    by_kind Via e =
        let k = question.number - length parts.metals in
        let behind = askable.behind_metals e in
        let of_cut = askable.of_cut e in
        let small : k < length layer_map.cuts = omega (arith, are.each_once.boxes.one_each) in
        let at : length layer_map.metals + k ≡ question.number = omega (arith, are.one_each) in
        subst (λ number. CoversSomeBox (slice_index_or parts.cuts k []) ((side + 1) / 2) c ↔ Faulty Via number side c) at
        (block_is layer_map k small lists parts are side askable.is_side.least c)

    counted_is_fault : IsCounted parts question c ↔ Faulty question.kind question.number side c
    counted_is_fault = by_kind question.kind refl

  -- so numbers that are counted for the questions of the parts are the amounts of the layer map
  pub counted_are_amounts : (cells : List Cell) (ns : List ℕ) → AreCounted parts cells parts.questions ns → AreAmounts layer_map (IsCoveredIn lists) cells ns
  counted_are_amounts cells ns counted =
      let Count = λ (q : Question). Tally (IsCounted parts q) cells in
      let Amount = IsAmount layer_map (IsCoveredIn lists) cells in
      let each = λ (i : ℕ) (q : Question) (at : slice_get parts.questions i ≡ Some q).
      let askable = item_has (IsAskable (length parts.metals) (length parts.cuts)) parts.questions parts.askable i q at in
      Tally-same_all cells (get_or ns i 0) (counted_is_fault q askable) (zipped_at Count parts.questions ns 0 counted i q at) in
      subst (λ qs. AllZip Amount qs ns) are.asked (zipped_by Amount parts.questions ns (AllZip-long Count parts.questions ns counted) each)
