use Rattle.gauges.proofs.laws.Told.{on_err, told_prefixes}
use Rattle.pair_report.specs.PairRows.{pair_rows}
use Rattle.pair_report.proofs.WholeText.{whole_text}
use Rattle.pair_report.proofs.text.write_pairs.Goals as goal

pub returns-in_err-write_count-clause-prefixes : goal.returns-in_err-write_count-clause-prefixes
returns-in_err-write_count-clause-prefixes g c =
    on_err c.from_residual-in_err-write_count.result (told_prefixes (pair_rows c.args.tables.now) _ _ c.in_ok-write_rows.ensures.reported.told)

pub returns-in_err-append_pair_texts-clause-prefixes : goal.returns-in_err-append_pair_texts-clause-prefixes
returns-in_err-append_pair_texts-clause-prefixes g c =
    on_err c.from_residual-in_err-append_pair_texts.result (told_prefixes (pair_rows c.args.tables.now) _ _ c.in_ok-write_rows.ensures.reported.told)

pub returns-clause-written : goal.returns-clause-written
returns-clause-written g c =
    whole_text _ (pair_rows c.args.tables.now) c.count_rows.result c.args.gauges.now.items c.write_rows.new.gauges.items c.as_slice.result.now
    c.args.into.now.items c.write_rows.new.into.items c.write_count.new.into.items c.append_pair_texts.new.into.items
    c.in_ok-write_rows.ensures.reported c.count_rows.ensures c.in_ok-write_count.ensures c.as_slice.ensures.value c.in_ok-append_pair_texts.ensures.written
