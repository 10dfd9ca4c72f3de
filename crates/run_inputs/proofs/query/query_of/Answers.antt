use Rattle.std.proofs.lemmas.Result.{err_from_is_err_and}
use Rattle.run_inputs.proofs.AskedLaws.{pairs_asked, pairs_lacking}
use Rattle.run_inputs.proofs.query.query_of.Goals as goal

pub returns-in_err-size_of-in-Pairs-clause-lacking : goal.returns-in_err-size_of-in-Pairs-clause-lacking
returns-in_err-size_of-in-Pairs-clause-lacking c =
    let gave = err_from_is_err_and c.from_residual.result c.from_residual.ensures.1 in
    let lack = c.in_err-size_of-in-Pairs.ensures.lacking in
    let named = c.in-Pairs in
    rw (gave.1, gave.2, lack.0, named.is) (pairs_lacking c.args.map.now named.layout named.map named.top named.size lack.1)

pub returns-in_ok-size_of-in-Pairs-clause-query : goal.returns-in_ok-size_of-in-Pairs-clause-query
returns-in_ok-size_of-in-Pairs-clause-query c =
    let named = c.in-Pairs in
    let there = c.in_ok-size_of-in-Pairs.ensures.there in
    rw named.is (pairs_asked c.args.map.now named.layout named.map named.top named.size c.in_ok-size_of-in-Pairs.field-0 there.0 there.1)
