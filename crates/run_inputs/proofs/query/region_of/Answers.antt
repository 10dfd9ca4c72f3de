use Rattle.std.proofs.lemmas.Result.{err_from_is_err_and}
use Rattle.run_inputs.proofs.AskedLaws.{region_asked, region_lacks_layer, region_lacks_size}
use Rattle.run_inputs.proofs.query.region_of.Goals as goal

pub returns-in_err-size-clause-lacking : goal.returns-in_err-size-clause-lacking
returns-in_err-size-clause-lacking c =
    let gave = err_from_is_err_and c.from_residual.result c.from_residual.ensures.1 in
    let lack = c.in_err-size.ensures.lacking in
    rw (gave.1, gave.2, lack.0) (region_lacks_size c.args.map.now c.args.kind c.args.layer.now c.args.number lack.1)

pub returns-in_default-clause-lacking : goal.returns-in_default-clause-lacking
returns-in_default-clause-lacking c =
    let there = c.in_ok-size.ensures.there in
    region_lacks_layer c.args.map.now c.args.kind c.args.layer.now c.args.number c.in_ok-size.size there.0 there.1 c.in_default.ensures.none

pub returns-clause-query : goal.returns-clause-query
returns-clause-query c =
    let there = c.in_ok-size.ensures.there in
    region_asked c.args.map.now c.args.kind c.args.layer.now c.args.number c.in_ok-size.size there.0 there.1 c.in-Some.number c.in-Some.ensures.some
