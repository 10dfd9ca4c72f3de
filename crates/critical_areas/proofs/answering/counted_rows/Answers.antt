use Rattle.std.proofs.Common.{◌∙◌, ap, arith, length, subst}
use Rattle.lists.proofs.Words.{AllZip-long, IfOk-weaker}
use Rattle.fault_model.specs.FaultNames.{Tally, cells_of_window}
use Rattle.questions.specs.Questions.{IsRowFor}
use Rattle.area_parts.specs.AskedCounts.{IsCounted}
use Rattle.area_parts.specs.Rows.{AreRowsOf}
use Rattle.critical_areas.specs.inside.CountedRows.{AreCountedRows}
use Rattle.critical_areas.proofs.answering.counted_rows.Goals as goal

pub rows-requires-clause-one_each : goal.rows-requires-clause-one_each
rows-requires-clause-one_each g c =
    let asked = c.args.asked in
    let cells = cells_of_window c.args.window in
    ap length c.deref.ensures.value ∙ AllZip-long (λ q. Tally (IsCounted asked.parts.now q) cells) asked.questions.now c.in_ok-counted.counted.items c.in_ok-counted.ensures.counted

pub returns-clause-counted : goal.returns-clause-counted
returns-clause-counted g c =
    let asked = c.args.asked in
    let amounts = c.in_ok-counted.counted.items in
    IfOk-weaker c.rows.result (λ rows. AreRowsOf asked.questions.now c.deref.result.now rows.items)
    (λ rows. AreCountedRows asked.parts.now c.args.window asked.questions.now rows.items)
    (λ rows are. record {
      amounts = amounts;
      counted = c.in_ok-counted.ensures.counted;
      rows_of = subst (λ ns. AreRowsOf asked.questions.now ns rows.items) c.deref.ensures.value are;
    })
    c.rows.ensures

pub returns-clause-few : goal.returns-clause-few
returns-clause-few g c =
    let asked = c.args.asked in
    IfOk-weaker c.rows.result (λ rows. AreRowsOf asked.questions.now c.deref.result.now rows.items) _
    (λ rows are. let many = AllZip-long IsRowFor asked.questions.now rows.items are.named in omega (arith, many, asked.few))
    c.rows.ensures
