use Rattle.std.proofs.Common.{option_to_list, ◌+◌, ◌++◌, get_or, subst, Option, Some, None, pos}
use Rattle.lists.proofs.Words.{append-nil, slice_get-get_or}
use Rattle.geo_core.specs.declared.plane.Labelled.{Labelled}
use Rattle.map_model.specs.declared.layers.Terminal.{Terminal}
use Rattle.net_extract.specs.inside.Anchoring.{IsTerminalOn}
use Rattle.net_extract.proofs.TerminalLaws.{AreFirstTerminalsOn, no_terminals, all_terminals, one_terminal_more}
use Rattle.net_extract.proofs.anchors.terminals_on.Goals as goal
use Rattle.net_extract.proofs.anchors.terminals_on.Goals.{in-Some+in_ok-push, in_default}

pub loop-number-init : goal.loop-number-init
loop-number-init c = rw c.new-cells.ensures.items (no_terminals c.args.terminals.now c.args.metal)

pub loop-number-preserved : goal.loop-number-preserved
loop-number-preserved c =
    let terminals = c.args.terminals.now in
    let metal = c.args.metal in
    let k = c.loop-number.number in
    let old = c.loop-number.cells.items in
    let none : Terminal = record { metal = 0; cell = record { i = pos 0; j = pos 0 } } in
    let terminal = get_or terminals k none in
    let at = slice_get-get_or terminals k none c.loop-number-test.true in
    let next : (cell : Option Labelled) → IsTerminalOn terminal k metal cell → AreFirstTerminalsOn terminals metal (k + 1) (old ++ option_to_list cell) =
    λ cell is. one_terminal_more terminals metal k old c.loop-number.invariant terminal at cell is in
    elim c.match-terminal_on.branch [
      | in-Some+in_ok-push w ↦ rw (w.cells-is, w.in_ok-push.ensures.items) (next (Some w.in-Some.cell) w.in-Some.ensures)
      | in_default w ↦ rw w.cells-is (subst (AreFirstTerminalsOn terminals metal (k + 1)) (append-nil old) (next None (subst (IsTerminalOn terminal k metal) w.in_default.is c.terminal_on.ensures)))
    ]

pub returns : goal.returns
returns c = all_terminals c.args.terminals.now c.args.metal c.loop-number.number c.loop-number.cells.items c.loop-number-test.false c.loop-number.invariant
