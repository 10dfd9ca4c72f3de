use Rattle.std.proofs.Common.{ℕ, List, arith, get_or}
use Rattle.std.proofs.lemmas.List.{get_or_default}
use Rattle.gauges.proofs.laws.Told.{on_err}
use Rattle.pair_report.specs.PairRows.{pair_row}
use Rattle.pair_report.proofs.Reported.{all_rows_reported, next_row_refused, next_row_reported, reported_none}
use Rattle.pair_report.proofs.rows.write_metal.Goals as goal

pub loop-pair-init : goal.loop-pair-init
loop-pair-init g c = record { empty = c.new-line.ensures.bytes; reported = reported_none _ c.args.into.now.items }

pub loop-pair-preserved : goal.loop-pair-preserved
loop-pair-preserved g c =
    let pairs : List (ℕ × ℕ × ℕ) = c.as_slice-pair-items.result.now in
    let i : ℕ = c.loop-pair.pair-index in
    let pair : ℕ × ℕ × ℕ = get_or pairs i (0, 0, 0) in
    record {
      empty = c.in_ok-write_row.ensures.cleared;
      reported = next_row_reported (pair_row c.args.measure c.args.size c.args.metal.now.layer) pairs c.args.metal.now.pairs i
          pair c.row_of-row.result _ _ _ c.args.into.now.items c.loop-pair.into.items c.write_row.new.into.items
          (omega arith) (get_or_default pairs i (0, 0, 0) pair (omega arith)) c.row_of-row.ensures c.loop-pair.invariant.reported c.in_ok-write_row.ensures.reported;
    }

pub returns-in_err-write_row-clause-prefixes : goal.returns-in_err-write_row-clause-prefixes
returns-in_err-write_row-clause-prefixes g c =
    let pairs : List (ℕ × ℕ × ℕ) = c.as_slice-pair-items.result.now in
    let i : ℕ = c.loop-pair.pair-index in
    let pair : ℕ × ℕ × ℕ = get_or pairs i (0, 0, 0) in
    on_err c.from_residual.result
    (next_row_refused (pair_row c.args.measure c.args.size c.args.metal.now.layer) pairs c.args.metal.now.pairs i
    pair c.row_of-row.result _ _ _ c.args.into.now.items c.loop-pair.into.items c.as_slice-pair-items.ensures
    (omega arith) (get_or_default pairs i (0, 0, 0) pair (omega arith)) c.row_of-row.ensures c.loop-pair.invariant.reported c.in_err-write_row.ensures.prefixes)

pub returns-clause-reported : goal.returns-clause-reported
returns-clause-reported g c =
    all_rows_reported (pair_row c.args.measure c.args.size c.args.metal.now.layer) c.as_slice-pair-items.result.now c.args.metal.now.pairs c.loop-pair.pair-index
    _ _ c.args.into.now.items c.loop-pair.into.items c.as_slice-pair-items.ensures (omega arith) c.loop-pair.invariant.reported
