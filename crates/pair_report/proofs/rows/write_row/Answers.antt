use Rattle.std.proofs.Common.{[], ◌∷◌}
use Rattle.gauges.proofs.laws.Told.{on_err, told_prefixes}
use Rattle.pair_report.proofs.rows.write_row.Goals as goal

pub returns-in_err-append_line-clause-prefixes : goal.returns-in_err-append_line-clause-prefixes
returns-in_err-append_line-clause-prefixes g c =
    on_err c.from_residual-in_err-append_line.result (told_prefixes (c.args.row.now ∷ []) _ _ c.in_ok-tell_pair_row.ensures.told)
