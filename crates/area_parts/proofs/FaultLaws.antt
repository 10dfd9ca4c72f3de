-- faults of a layer map: where its terminals are cells alone, and what is covered alike has the same faults
use Rattle.std.proofs.Common.{ℕ, List, ◌≡◌, sym, ap, subst, Bool, false, if◌then◌else◌, [], ◌↔◌, Contains}
use Rattle.geo_core.specs.declared.plane.Cell.{Cell}
use Rattle.fault_model.specs.FaultNames.{IsViasOpen}
use Rattle.fault_model.specs.Faults.{IsCellsOpen}
use Rattle.fault_model.proofs.AlikeLaws.{block_alike, open_alike, short_alike}
use Rattle.fault_model.proofs.TallyLaws.{Tally-same_all}
use Rattle.fault_model.proofs.TerminalLaws.{no_vias}
use Rattle.map_model.specs.MapNames.{LayerMap}
use Rattle.net_extract.specs.Cuts.{cuts_of, terminal_cuts_of}
use Rattle.area_parts.specs.FaultKinds.{IsFault}
use Rattle.questions.specs.Questions.{side_of}
use Rattle.questions.specs.declared.question.Question.{Question}
use Rattle.area_parts.specs.Rows.{Answers}
use Rattle.questions.specs.declared.kind.Kind.{Kind}
use Rattle.questions.specs.declared.kind.Kind.TheVariants.{Short, Open, Via}
use Rattle.questions.specs.declared.row.Row.{Row}

-- where clusters are no terminals, no cut has some
no_terminal_cuts : (layer_map : LayerMap) → layer_map.contacts ≡ false → terminal_cuts_of layer_map ≡ []
no_terminal_cuts layer_map none = ap (λ (told : Bool). if told then cuts_of layer_map else []) none

-- and opens are those of cells
pub opens_of_cells : (layer_map : LayerMap) → layer_map.contacts ≡ false → (covers : ℕ → Cell → Type 0) (m s : ℕ) (c : Cell)
    → IsCellsOpen (covers m) (λ d. Contains layer_map.terminals (m, d)) s c ↔ IsFault layer_map covers Open m s c
opens_of_cells layer_map none covers m s c =
    let named : Cell → Type 0 = λ d. Contains layer_map.terminals (m, d) in
    let cells_alone = no_terminal_cuts layer_map none in
    let same = no_vias covers named m s c in (
      λ o. subst (λ cuts. IsViasOpen covers cuts named m s c) (sym cells_alone) (same.1 o),
      λ f. same.0 (subst (λ cuts. IsViasOpen covers cuts named m s c) cells_alone f),
    )

module _ (layer_map : LayerMap) where
  fault_follows : (one other : ℕ → Cell → Type 0) → ((m : ℕ) (c : Cell) → one m c ↔ other m c) → (kind : Kind) (m s : ℕ) (c : Cell) → IsFault layer_map one kind m s c
      → IsFault layer_map other kind m s c
  fault_follows one other same Short m s c f = short_alike one other same (cuts_of layer_map) m s c f
  fault_follows one other same Open m s c f = open_alike one other same (terminal_cuts_of layer_map) (λ d. Contains layer_map.terminals (m, d)) m s c f
  fault_follows one other same Via m s c f = (f.0, f.1, f.2, block_alike one other same f.0 s c f.3)

  -- what is covered alike has the same rows
  pub answers_follow : (one other : ℕ → Cell → Type 0) → ((m : ℕ) (c : Cell) → one m c ↔ other m c) → (cells : List Cell) (q : Question) (row : Row) → Answers layer_map one cells q row
      → Answers layer_map other cells q row
  answers_follow one other same cells q row a = record {
    is_for = a.is_for;
    area = Tally-same_all cells row.area (λ c. (
      fault_follows one other same q.kind q.number (side_of q) c,
      fault_follows other one (λ m d. let k = same m d in
          (k.1, k.0)) q.kind q.number (side_of q) c,
    )) a.area;
  }
