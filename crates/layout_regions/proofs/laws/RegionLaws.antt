-- the region of a row: as many cells as the row says, and the same ones in any two lists
use Rattle.std.proofs.Common.{ℕ, zero, suc, ◌≡◌, sym, subst, inl, inr, ◌∙◌, List, [], ◌∷◌, Contains, Some, slice_get, ◌↔◌}
use Rattle.lists.specs.Differing.{AreDifferent}
use Rattle.lists.proofs.Containing.{Contains-cons_cases, Contains-head, Contains-none, Contains-slice_get, Contains-tail}
use Rattle.lists.proofs.Words.{AllZip, same_Some}
use Rattle.geo_core.specs.Plane.{IsInUnion}
use Rattle.geo_core.specs.declared.plane.Cell.{Cell}
use Rattle.geo_core.specs.declared.plane.Rect.{Rect}
use Rattle.fault_model.specs.FaultNames.{IsCovered, Tally, cells_of_window}
use Rattle.fault_model.proofs.TallyLaws.{Tally-unique}
use Rattle.fault_model.proofs.WindowLaws.{agree}
use Rattle.map_model.specs.MapNames.{LayerMap, layers_of, names_of, reach_of, side_by}
use Rattle.map_model.specs.declared.measure.Measure.{Measure}
use Rattle.questions.specs.Questions.{IsRowFor, questions}
use Rattle.questions.specs.declared.kind.Kind.{Kind}
use Rattle.questions.specs.declared.question.Question.{Question}
use Rattle.questions.specs.declared.row.Row.{Row}
use Rattle.area_parts.specs.FaultKinds.{IsFault}
use Rattle.area_parts.specs.Rows.{Answers, AreRows}
use Rattle.layout_regions.specs.Regions.{IsRegion, cell_count}
use Rattle.layout_regions.proofs.laws.AskedLaws.{asked, same_number}
use Rattle.layout_regions.proofs.laws.CountLaws.{tally_is_count}

module _ {X Y : Type 0} (R : X → Y → Type 0) where
  -- an item of the first list stands beside each of the second
  item_beside : (xs : List X) (ys : List Y) → AllZip R xs ys → (y : Y) → Contains ys y → (x : X) × Contains xs x × R x y
  item_beside [] [] h y listed = absurd (Contains-none listed)
  item_beside [] (b ∷ ys) h y listed = absurd h
  item_beside (a ∷ xs) [] h y listed = absurd h
  item_beside (a ∷ xs) (b ∷ ys) h y listed = elim (Contains-cons_cases b ys y listed) [
    | inl e ↦ (a, Contains-head a xs, subst (R a) e h.0)
    | inr behind ↦ let rest = item_beside xs ys h.1 y behind in (rest.0, Contains-tail a xs rest.0 rest.1, rest.2)
  ]

  -- items at one place stand side by side
  beside_at : (xs : List X) (ys : List Y) → AllZip R xs ys → (k : ℕ) (x : X) (y : Y) → slice_get xs k ≡ Some x → slice_get ys k ≡ Some y → R x y
  beside_at [] ys h k x y at_x at_y = cc at_x
  beside_at (a ∷ xs) [] h k x y at_x at_y = absurd h
  beside_at (a ∷ xs) (b ∷ ys) h zero x y at_x at_y = subst (λ one. R one y) (same_Some a x at_x) (subst (R a) (same_Some b y at_y) h.0)
  beside_at (a ∷ xs) (b ∷ ys) h (suc k) x y at_x at_y = beside_at xs ys h.1 k x y at_x at_y

module _ (layer_map : LayerMap) (covers : ℕ → Cell → Type 0) where
  -- two regions of one row have one window's cells
  pub cover_alike : (kind : Kind) (number size : ℕ) (one other : List Rect) (c : Cell) → IsRegion layer_map covers kind number size one → IsRegion layer_map covers kind number size other
      → IsInUnion one c ↔ IsInUnion other c
  cover_alike kind number size one other c are same =
      let cells = agree (IsCovered covers) (reach_of layer_map) are.window same.window are.is_window same.is_window in
      let here = are.cells c in
      let there = same.cells c in (
        λ u. let h = here.0 u in there.1 (subst (λ (cs : List Cell). Contains cs c) cells h.0, h.1),
        λ u. let h = there.0 u in here.1 (subst (λ (cs : List Cell). Contains cs c) (sym cells) h.0, h.1),
      )

  -- so they have as many cells
  pub count_alike : (kind : Kind) (number size : ℕ) (one other : List Rect) → IsRegion layer_map covers kind number size one
      → IsRegion layer_map covers kind number size other → cell_count one ≡ cell_count other
  count_alike kind number size one other are same =
      let Fails : Cell → Type 0 = IsFault layer_map covers kind number (side_by layer_map.measure size) in
      let cells = agree (IsCovered covers) (reach_of layer_map) are.window same.window are.is_window same.is_window in
      Tally-unique (cells_of_window same.window) (cell_count one) (cell_count other)
      (subst (λ listed. Tally Fails listed (cell_count one)) cells (tally_is_count are.window one are.apart are.cells))
      (tally_is_count same.window other same.apart same.cells)

  module _ (rows : List Row) (answered : AreRows layer_map covers rows) (rects : List Rect) where
    -- the region of a question has as many cells as the row that answers the question says
    area_is : (question : Question) (row : Row) → Contains (questions layer_map) question → Answers layer_map covers (cells_of_window answered.window) question row
        → IsRegion layer_map covers question.kind question.number question.size rects → row.area ≡ cell_count rects
    area_is question row listed answers are =
        let Counts : Measure → List Cell → Type 0 = λ measure cells.
        Tally (IsFault layer_map covers question.kind question.number (side_by measure question.size)) cells row.area in
        let of_map = subst (λ measure. Counts measure (cells_of_window answered.window)) (asked layer_map question listed).measure answers.area in
        let cells = agree (IsCovered covers) (reach_of layer_map) answered.window are.window answered.is_window are.is_window in
        Tally-unique (cells_of_window are.window) row.area (cell_count rects) (subst (Counts layer_map.measure) cells of_map)
        (tally_is_count are.window rects are.apart are.cells)

    pub area_at_place : (k : ℕ) (question : Question) (row : Row) → slice_get (questions layer_map) k ≡ Some question → slice_get rows k ≡ Some row
        → IsRegion layer_map covers question.kind question.number question.size rects → row.area ≡ cell_count rects
    area_at_place k question row asks at are =
        area_is question row (Contains-slice_get (questions layer_map) k question asks)
        (beside_at (Answers layer_map covers (cells_of_window answered.window)) (questions layer_map) rows answered.answers k question row asks at) are

    -- where the names of layers differ, a row that is for the question answers one about the same faults
    pub area_by_name : AreDifferent (names_of (layers_of layer_map)) → (question : Question) (row : Row) → Contains (questions layer_map) question → Contains rows row
        → IsRowFor question row → IsRegion layer_map covers question.kind question.number question.size rects → row.area ≡ cell_count rects
    area_by_name different question row listed in_rows is_for are =
        let found = item_beside (Answers layer_map covers (cells_of_window answered.window)) (questions layer_map) rows answered.answers row in_rows in
        let other = found.0 in
        let also = found.2.is_for in
        let number = same_number layer_map different question other listed found.1 (sym is_for.layer ∙ also.layer) in
        let of_kind = subst (λ kind. IsRegion layer_map covers kind question.number question.size rects) (sym is_for.kind ∙ also.kind) are in
        let of_number = subst (λ n. IsRegion layer_map covers other.kind n question.size rects) number of_kind in
        area_is other row found.1 found.2 (subst (λ size. IsRegion layer_map covers other.kind other.number size rects) (sym is_for.size ∙ also.size) of_number)
