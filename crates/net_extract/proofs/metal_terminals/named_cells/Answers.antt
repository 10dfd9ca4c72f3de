use Rattle.std.proofs.Common.{◌==◌, get_or, pos}
use Rattle.lists.proofs.Words.{get_or_default}
use Rattle.std.proofs.lemmas.Bool.{eq-eqb, ne_eqb}
use Rattle.net_extract.specs.Standing.{standing_cell}
use Rattle.net_extract.specs.declared.pieces.Anchor.{Anchor}
use Rattle.net_extract.proofs.SoFarLaws.{kept_next, left_out, all_kept}
use Rattle.net_extract.proofs.metal_terminals.named_cells.Goals as goal
use Rattle.net_extract.proofs.metal_terminals.named_cells.Goals.{then-anchor-metal+in_ok-push, else-anchor-metal}

pub loop-anchor-preserved : goal.loop-anchor-preserved
loop-anchor-preserved c =
    let test = λ (anchor : Anchor). anchor.metal == c.args.metal in
    let k = c.loop-anchor.anchor-index in
    let none : Anchor = record { metal = 0; cell = record { i = pos 0; j = pos 0 }; island = 0 } in
    let item = get_or c.args.anchors.now k none in
    let is = get_or_default c.args.anchors.now k none item c.loop-anchor-test.true in
    elim c.if-anchor-metal.branch [
      | then-anchor-metal+in_ok-push w ↦ rw w.cells-is
          (kept_next standing_cell c.args.anchors.now k test item _ _ c.loop-anchor-test.true is (eq-eqb _ _ w.if-anchor-metal.true) c.loop-anchor.invariant w.in_ok-push.ensures.items)
      | else-anchor-metal w ↦ rw w.cells-is
          (left_out standing_cell c.args.anchors.now k test item _ c.loop-anchor-test.true is (ne_eqb _ _ w.if-anchor-metal.false) c.loop-anchor.invariant)
    ]

pub returns : goal.returns
returns c =
    all_kept standing_cell c.args.anchors.now c.loop-anchor.anchor-index (λ (anchor : Anchor). anchor.metal == c.args.metal) _ c.loop-anchor-test.false c.loop-anchor.invariant
