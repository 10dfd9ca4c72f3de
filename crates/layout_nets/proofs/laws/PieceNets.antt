-- pieces labelled by nets: which cells a label has, and of which net they are
use Rattle.std.proofs.Common.{ℕ, ◌≡◌, ◌∙◌, refl, sym, subst, List, ◌↔◌}
use Rattle.paths.specs.Paths.{stay}
use Rattle.paths.proofs.PathLaws.{last}
use Rattle.geo_core.specs.declared.plane.Cell.{Cell}
use Rattle.geo_core.specs.declared.plane.Half.{Half}
use Rattle.geo_core.specs.declared.plane.Labelled.{Labelled}
use Rattle.fault_model.specs.FaultNames.{Cut, IsSameNetOn, LiesIn}
use Rattle.fault_model.proofs.HalfLaws.{cell_on, some_half}
use Rattle.net_numbers.specs.FirstCells.{AreFirstCells, HaveOwnCells, IsFirstCell, IsLabelCell}
use Rattle.area_parts.specs.AreaParts.{ArePiecesOf}
use Rattle.layout_nets.specs.NetNumbers.{AreNetStarts, AreOfOneNet, IsNetStart}

module _ (covers : ℕ → Cell → Type 0) (cuts : List Cut) (m : ℕ) (pieces : List Labelled) (are : ArePiecesOf covers cuts m pieces) where
  -- the metal covers the cells of labels
  pub on_metal : (label : ℕ) (c : Cell) → IsLabelCell pieces label c → covers m c
  on_metal label c has = (are.cover c).0 (record { piece = has.piece; among = has.among; has = has.has })

  -- each cell of the metal belongs to a label
  some_label : (c : Cell) → covers m c → (label : ℕ) × IsLabelCell pieces label c
  some_label c on = let found = (are.cover c).1 on in (found.piece.label, record { piece = found.piece; among = found.among; carries = refl; has = found.has })

  -- half squares of cells of two labels are of one net exactly where the labels are one
  labels_tell_nets : (a b : ℕ) (c d : Cell) (p q : Half) → IsLabelCell pieces a c → IsLabelCell pieces b d → LiesIn p c → LiesIn q d → (a ≡ b) ↔ IsSameNetOn covers cuts m p q
  labels_tell_nets a b c d p q one other in_c in_d =
      let same = are.nets one.piece other.piece p q one.among other.among (c, in_c, one.has) (d, in_d, other.has) in
      (λ e. same.0 (one.carries ∙ e ∙ sym other.carries), λ net. sym one.carries ∙ same.1 net ∙ other.carries)

  -- half squares of cells of one label are of one net
  pub one_net : (label : ℕ) (c d : Cell) (p q : Half) → IsLabelCell pieces label c → IsLabelCell pieces label d → LiesIn p c → LiesIn q d → IsSameNetOn covers cuts m p q
  one_net label c d p q one other in_c in_d = (labels_tell_nets label label c d p q one other in_c in_d).0 refl

  -- and what is of one net with a half square of a label belongs to the label
  pub keeps_label : (label : ℕ) (c d : Cell) (p q : Half) → IsLabelCell pieces label c → LiesIn p c → LiesIn q d → IsSameNetOn covers cuts m p q → IsLabelCell pieces label d
  keeps_label label c d p q has in_c in_d net =
      let found = some_label d (cell_on q d in_d (last net)) in
      let same = (labels_tell_nets label found.0 c d p q has found.1 in_c in_d).1 net in
      subst (λ n. IsLabelCell pieces n d) (sym same) found.1

  -- no cell belongs to two labels, since it is of one net with itself
  pub own_cells : HaveOwnCells pieces
  own_cells a b c one other = let h = some_half c in (labels_tell_nets a b c c h.0 h.0 one other h.1 h.1).1 (stay (c, h.1, on_metal a c one))

  -- ---- first cells

  cells_of_one_net : (label : ℕ) (c d : Cell) → IsLabelCell pieces label c → IsLabelCell pieces label d → AreOfOneNet covers cuts m c d
  cells_of_one_net label c d one other =
      let p = some_half c in
      let q = some_half d in
      record { one = p.0; other = q.0; in_one = p.1; in_other = q.1; same = one_net label c d p.0 q.0 one other p.1 q.1 }

  cells_of_one_label : (label : ℕ) (c d : Cell) → IsLabelCell pieces label c → AreOfOneNet covers cuts m c d → IsLabelCell pieces label d
  cells_of_one_label label c d has net = keeps_label label c d net.one net.other has net.in_one net.in_other net.same

  -- the first cell of a label is that of a net
  first_is_start : (label : ℕ) (c : Cell) → IsFirstCell pieces label c → IsNetStart covers cuts m c
  first_is_start label c first = record { covered = on_metal label c first.has; first = λ d net. first.first d (cells_of_one_label label c d first.has net) }

  -- and the first cell of a net is that of a label
  start_is_first : (c : Cell) → IsNetStart covers cuts m c → (label : ℕ) × IsFirstCell pieces label c
  start_is_first c start =
      let found = some_label c start.covered in
      (found.0, record { has = found.1; first = λ d has. start.first d (cells_of_one_net found.0 c d found.1 has) })

  pub starts_are : (cells : List Cell) → AreFirstCells pieces cells → AreNetStarts covers cuts m cells
  starts_are cells listed = record {
    rising = listed.rising;
    all = λ c. (
      λ h. let first = (listed.all c).0 h in first_is_start first.0 c first.1,
      λ start. (listed.all c).1 (start_is_first c start),
    );
  }
