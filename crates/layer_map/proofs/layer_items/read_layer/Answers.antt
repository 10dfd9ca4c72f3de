use Rattle.layer_map.specs.ItemChecks.{table_checks}
use Rattle.layer_map.specs.LayerChecks.{as_table}
use Rattle.layer_map.specs.inside.ReadValues.{texts_of}
use Rattle.first_refusal.proofs.AnswerLaws.{handed_on}
use Rattle.first_refusal.proofs.JudgeLaws.{given, passed, passes, unread}
use Rattle.layer_map.proofs.EachLaws.{holds_then, part_fails, part_holds, stops_there}
use Rattle.layer_map.proofs.SeenLaws.{takes_layer}
use Rattle.layer_map.proofs.layer_items.read_layer.Goals as goal

pub returns-in_err-table : goal.returns-in_err-table
returns-in_err-table c earlier seen = handed_on _ _ c.from_residual.result c.in_err-table.field-0.0 c.from_residual.ensures.1 (part_fails as_table table_checks _ c.in_err-table.ensures)

pub returns-in_err-name : goal.returns-in_err-name
returns-in_err-name c earlier seen =
    let is = given c.in_ok-table.ensures in
    rw is (handed_on _ _ c.from_residual-in_err-name.result c.in_err-name.field-0.0 c.from_residual-in_err-name.ensures.1
    (part_holds as_table table_checks _ (rw is at c.in_ok-table.ensures)
    (stops_there _ (c.in_err-name.ensures (texts_of c.args.known.now) earlier seen.names))))

pub returns-in_err-pairs : goal.returns-in_err-pairs
returns-in_err-pairs c earlier seen =
    let is = given c.in_ok-table.ensures in
    let known = texts_of c.args.known.now in
    rw is (handed_on _ _ c.from_residual-in_err-pairs.result c.in_err-pairs.field-0.0 c.from_residual-in_err-pairs.ensures.1
    (part_holds as_table table_checks _ (rw is at c.in_ok-table.ensures)
    (holds_then (c.in_ok-name.ensures known earlier seen.names)
    (unread _ _ _ _ _ c.in_err-pairs.field-0.0 (c.in_err-pairs.ensures.judged known earlier seen.pairs seen.pairs_differ)))))

pub returns : goal.returns
returns c earlier seen =
    let is = given c.in_ok-table.ensures in
    let known = texts_of c.args.known.now in
    let named = c.in_ok-name.ensures known earlier seen.names in
    let paired = c.in_ok-pairs.ensures.judged known earlier seen.pairs seen.pairs_differ in
    rw is (part_holds as_table table_checks _ (rw is at c.in_ok-table.ensures)
    (holds_then named
    (passes _ _ _ _ _ (passed paired) (takes_layer earlier _ c.args.seen.now _ _ seen (given named) (given paired)))))
