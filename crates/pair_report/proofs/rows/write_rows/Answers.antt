use Rattle.std.proofs.Common.{arith, List}
use Rattle.gauges.proofs.laws.Told.{on_err}
use Rattle.gauges.specs.declared.pair_row.PairRow.{PairRow}
use Rattle.pair_report.specs.PairRows.{rows_of_metal}
use Rattle.pair_report.specs.declared.tables.MetalPairs.{MetalPairs}
use Rattle.pair_report.proofs.Reported.{next_refused, next_reported, reported_none}
use Rattle.pair_report.proofs.rows.write_rows.Goals as goal

pub loop-metal-init : goal.loop-metal-init
loop-metal-init g c = reported_none _ c.args.into.now.items

pub loop-metal-preserved : goal.loop-metal-preserved
loop-metal-preserved g c =
    next_reported _ c.as_slice-metal-items.result.now c.loop-metal.metal-index c.metal-item.result _ _ _
    c.args.into.now.items c.loop-metal.into.items c.write_metal.new.into.items (omega arith) c.metal-item.is c.loop-metal.invariant c.in_ok-write_metal.ensures.reported

pub returns-in_err-write_metal-clause-prefixes : goal.returns-in_err-write_metal-clause-prefixes
returns-in_err-write_metal-clause-prefixes g c =
    let rows_of : MetalPairs → List PairRow = λ metal. rows_of_metal c.args.tables.now.measure c.args.tables.now.size metal.layer metal.pairs in
    on_err c.from_residual.result
    (next_refused rows_of c.as_slice-metal-items.result.now c.loop-metal.metal-index c.args.tables.now.metals c.metal-item.result _ _ _
    c.args.into.now.items c.loop-metal.into.items c.as_slice-metal-items.ensures (omega arith) c.metal-item.is c.loop-metal.invariant
    c.in_err-write_metal.ensures.prefixes)
