use Rattle.gauges.proofs.laws.Told.{on_err, told_prefixes, untold_prefixes}
use Rattle.critarea_core.proofs.PrintLaws.{whole_text}
use Rattle.critarea_core.proofs.printing.text_of_report.Goals as goal

pub returns-in_err-write_report-clause-prefixes : goal.returns-in_err-write_report-clause-prefixes
returns-in_err-write_report-clause-prefixes g c = on_err c.from_residual.result (untold_prefixes c.args.rows.now _)

pub returns-in_err-append_texts-clause-prefixes : goal.returns-in_err-append_texts-clause-prefixes
returns-in_err-append_texts-clause-prefixes g c = on_err c.from_residual-in_err-append_texts.result (told_prefixes c.args.rows.now _ _ c.in_ok-tell.ensures.told)

pub returns-clause-printed : goal.returns-clause-printed
returns-clause-printed g c =
    whole_text _ c.args.rows.now c.args.gauges.now.items c.tell.new.gauges.items c.as_slice.result.now c.new-printed.result.items c.write_report.new.into.items c.append_texts.new.into.items
    c.new-printed.ensures.items c.in_ok-write_report.ensures.written c.in_ok-tell.ensures.told c.as_slice.ensures.value c.in_ok-append_texts.ensures.written
