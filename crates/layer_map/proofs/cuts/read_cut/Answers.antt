use Rattle.std.proofs.Common.{arith, refl}
use Rattle.toml.specs.View.{view}
use Rattle.layer_map.specs.CutChecks.{as_layer, end_checks}
use Rattle.layer_map.specs.ItemChecks.{is_table}
use Rattle.layer_map.specs.LayerChecks.{as_table, layer_checks}
use Rattle.first_refusal.proofs.AnswerLaws.{handed_on}
use Rattle.first_refusal.proofs.JudgeLaws.{given, passed, passes, unread}
use Rattle.layer_map.proofs.CutLaws.{takes_cut}
use Rattle.layer_map.proofs.EachLaws.{part_fails, part_holds}
use Rattle.layer_map.proofs.cuts.read_cut.Goals as goal

pub returns-in_err-layer : goal.returns-in_err-layer
returns-in_err-layer c items earlier have differ seen =
    handed_on _ _ c.from_residual.result c.in_err-layer.field-0.0 c.from_residual.ensures.1 (part_fails as_layer layer_checks _ (c.in_err-layer.ensures earlier seen))

pub returns-in_err-lower : goal.returns-in_err-lower
returns-in_err-lower c items earlier have differ seen =
    let layer = c.in_ok-layer.ensures earlier seen in
    let ends = c.in_err-lower.ensures.judged items earlier have differ (passed layer 0 (as_table is_table) (omega arith)) in
    handed_on _ _ c.from_residual-in_err-lower.result c.in_err-lower.field-0.0 c.from_residual-in_err-lower.ensures.1
    (part_holds as_layer layer_checks end_checks layer (unread _ _ _ _ _ c.in_err-lower.field-0.0 ends))

pub returns : goal.returns
returns c items earlier have differ seen =
    let layer = c.in_ok-layer.ensures earlier seen in
    let ends = c.in_ok-lower.ensures.judged items earlier have differ (passed layer 0 (as_table is_table) (omega arith)) in
    part_holds as_layer layer_checks end_checks layer
    (passes _ _ _ _ _ (passed ends) (takes_cut c.args.metals.now earlier (view c.args.item.now) c.args.seen.now _ c.in_ok-layer.layer _ (given layer) (given ends) refl refl))
