-- questions have one list of rows at most
use Rattle.std.proofs.Common.{ℕ, ◌≡◌, refl, sym, ap, ◌∙◌, subst, List, [], ◌∷◌}
use Rattle.lists.proofs.Words.{AllZip}
use Rattle.first_refusal.specs.Laws.{IsUnique}
use Rattle.geo_core.specs.declared.plane.Cell.{Cell}
use Rattle.fault_model.specs.FaultNames.{IsCovered, cells_of_window}
use Rattle.fault_model.proofs.TallyLaws.{Tally-unique}
use Rattle.fault_model.proofs.WindowLaws.{agree}
use Rattle.map_model.specs.MapNames.{LayerMap, reach_of}
use Rattle.questions.specs.Questions.{questions}
use Rattle.questions.specs.declared.question.Question.{Question}
use Rattle.area_parts.specs.Rows.{Answers, AreRows}
use Rattle.questions.specs.declared.row.Row.{Row}
use Rattle.questions.proofs.laws.RowLaws.{same_row}

module _ (layer_map : LayerMap) (covers : ℕ → Cell → Type 0) where
  -- over the same cells the same questions have the same rows
  answers_agree : (cells : List Cell) (asked : List Question) (rows others : List Row) → AllZip (Answers layer_map covers cells) asked rows → AllZip (Answers layer_map covers cells) asked others
      → rows ≡ others
  answers_agree cells [] [] [] h g = refl
  answers_agree cells [] (row ∷ rows) others h g = absurd h
  answers_agree cells [] [] (other ∷ others) h g = absurd g
  answers_agree cells (q ∷ asked) [] others h g = absurd h
  answers_agree cells (q ∷ asked) (row ∷ rows) [] h g = absurd g
  answers_agree cells (q ∷ asked) (row ∷ rows) (other ∷ others) h g =
      let f = h.0.is_for in
      let e = g.0.is_for in
      let same = same_row row other (f.kind ∙ sym e.kind) (f.layer ∙ sym e.layer) (f.measure ∙ sym e.measure) (f.size ∙ sym e.size) (Tally-unique cells row.area other.area h.0.area g.0.area) (f.weight ∙ sym e.weight) in
      ap (λ r. r ∷ rows) same ∙ ap (λ rs. other ∷ rs) (answers_agree cells asked rows others h.1 g.1)

  -- and there is one window
  pub rows_agree : IsUnique (AreRows layer_map covers)
  rows_agree one other a b =
      let cells = agree (IsCovered covers) (reach_of layer_map) a.window b.window a.is_window b.is_window in
      answers_agree (cells_of_window b.window) (questions layer_map) one other (subst (λ cs. AllZip (Answers layer_map covers cs) (questions layer_map) one) cells a.answers) b.answers
