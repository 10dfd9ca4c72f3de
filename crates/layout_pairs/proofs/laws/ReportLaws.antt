-- rows of pairs beside the rows of a report over the same map and layout
use Rattle.std.proofs.Common.{ℕ, ◌/◌, ◌<◌, ◌≤◌, ◌≡◌, ◌↔◌, sym, ap, subst, ◌∙◌, List, [], length, All, Any, Contains}
use Rattle.lists.proofs.Containing.{all_of_each}
use Rattle.lists.proofs.Words.{All-contains}
use Rattle.geo_core.specs.declared.plane.Cell.{Cell}
use Rattle.fault_model.specs.FaultNames.{IsCovered, IsShort, Tally, cells_of_window}
use Rattle.fault_model.proofs.TallyLaws.{Tally-unique}
use Rattle.fault_model.proofs.WindowLaws.{agree}
use Rattle.map_model.specs.MapNames.{DefectSize, LayerMap, MappedLayer, reach_of, side_by}
use Rattle.questions.specs.Questions.{question_of, questions}
use Rattle.questions.specs.declared.kind.Kind.TheVariants.{Short}
use Rattle.questions.specs.declared.question.Question.{Question}
use Rattle.questions.specs.declared.row.Row.{Row}
use Rattle.gauges.specs.declared.pair_row.PairRow.{PairRow}
use Rattle.net_extract.specs.Cuts.{cuts_of}
use Rattle.area_parts.specs.Rows.{Answers, AreRows}
use Rattle.layout_pairs.specs.PairAreas.{ArePairRows, TouchesSomeNets}
use Rattle.layout_pairs.proofs.laws.AskedLaws.{reach_of_listed, short_asked, shorts_are_asked}
use Rattle.layout_nets.proofs.laws.BesideLaws.{beside_item, item_beside}
use Rattle.layout_pairs.proofs.laws.PairRowLaws.{none_row, none_short, short_is_touch}

module _ (layer_map : LayerMap) (covers : ℕ → Cell → Type 0) (size : ℕ) (listed : Any (λ (one : DefectSize). one.size ≡ size) layer_map.sizes)
    (rows : List PairRow) (are : ArePairRows layer_map covers size rows) where
  -- the size as the map lists it
  abbrev of_map : DefectSize
  of_map = listed.1

  is_of_map : Contains layer_map.sizes of_map
  is_of_map = (listed.0, listed.2, listed.3)

  far : side_by layer_map.measure size / 2 ≤ reach_of layer_map
  far = subst (λ (n : ℕ). side_by layer_map.measure n / 2 ≤ reach_of layer_map) listed.4 (reach_of_listed layer_map of_map is_of_map)

  pub shorts_are_touches : (metal : ℕ) → metal < length layer_map.metals → (c : Cell)
      → IsShort covers (cuts_of layer_map) metal (side_by layer_map.measure size) c
      ↔ TouchesSomeNets covers (cuts_of layer_map) metal (side_by layer_map.measure size) c
  shorts_are_touches = short_is_touch layer_map covers size rows are far

  module _ (report : List Row) (answered : AreRows layer_map covers report) where
    abbrev cells : List Cell
    cells = cells_of_window answered.window

    -- where the row is of shorts by defects of this size, its area is 0
    abbrev HasNoShorts : Row → Type 0
    HasNoShorts row = row.kind ≡ Short → row.size ≡ size → row.area ≡ 0

    -- the area of a row for a metal and this size is how many cells have shorts
    area_is : (metal : ℕ × MappedLayer) (one : DefectSize) (row : Row) → one.size ≡ size
        → Answers layer_map covers cells (question_of Short metal.0 metal.1.name layer_map.measure one) row
        → Tally (IsShort covers (cuts_of layer_map) metal.0 (side_by layer_map.measure size)) (cells_of_window are.window) row.area
    area_is metal one row e answers =
        let Shorts : ℕ → Cell → Type 0 = λ n. IsShort covers (cuts_of layer_map) metal.0 (side_by layer_map.measure n) in
        let same = agree (IsCovered covers) (reach_of layer_map) answered.window are.window answered.is_window are.is_window in
        subst (λ (cs : List Cell). Tally (Shorts size) cs row.area) same (subst (λ (n : ℕ). Tally (Shorts n) cells row.area) e answers.area)

    areas_are_0 : rows ≡ [] → All HasNoShorts report
    areas_are_0 none = all_of_each HasNoShorts report (λ row in_report is_short is_size.
        let found = item_beside (Answers layer_map covers cells) (questions layer_map) report answered.answers row in_report in
        let answers = found.2 in
        let asked = short_asked layer_map found.0 found.1 (sym answers.is_for.kind ∙ is_short) in
        let e : asked.size.size ≡ size = ap (λ (q : Question). q.size) asked.is ∙ sym answers.is_for.size ∙ is_size in
        let tally = area_is asked.layer asked.size row e (subst (λ (q : Question). Answers layer_map covers cells q row) (sym asked.is) answers) in
        Tally-unique (cells_of_window are.window) row.area 0 tally (none_short layer_map covers size rows are far none asked.layer asked.of_layer))

    no_rows : All HasNoShorts report → rows ≡ []
    no_rows zero = none_row layer_map covers size rows are far (λ metal of_metal.
        let question = question_of Short metal.0 metal.1.name layer_map.measure of_map in
        let is_asked = shorts_are_asked layer_map metal of_map of_metal is_of_map in
        let found = beside_item (Answers layer_map covers cells) (questions layer_map) report answered.answers question is_asked in
        let answers = found.related in
        let area : found.item.area ≡ 0 = All-contains HasNoShorts report found.item zero found.among answers.is_for.kind (answers.is_for.size ∙ listed.4) in
        let Shorts : ℕ → Type 0 = Tally (IsShort covers (cuts_of layer_map) metal.0 (side_by layer_map.measure size)) (cells_of_window are.window) in
        subst Shorts area (area_is metal of_map found.item listed.4 answers))

    pub no_rows_no_areas : (rows ≡ []) ↔ All HasNoShorts report
    no_rows_no_areas = (areas_are_0, no_rows)
