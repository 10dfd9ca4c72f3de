use Rattle.std.proofs.Common.{◌+◌, take, sym, subst, arith}
use Rattle.lists.proofs.Words.{AllZip}
use Rattle.lists.proofs.Pairing.{AllZip-more}
use Rattle.lists.proofs.Reading.{mapped_next}
use Rattle.questions.specs.Questions.{IsRowFor}
use Rattle.questions.specs.declared.row.Row.{Row}
use Rattle.critical_areas.proofs.answering.rows.Goals as goal

pub loop-k-preserved : goal.loop-k-preserved
loop-k-preserved c =
    let k = c.loop-k.k in
    let asked = c.args.asked.questions.now in
    record {
      named = subst (AllZip IsRowFor (take (k + 1) asked)) (sym c.in_ok-push.ensures.items)
          (AllZip-more IsRowFor asked c.loop-k.rows.items k c.question-item.result c.row.result c.loop-k-test.true c.question-item.is c.loop-k.invariant.named c.row.ensures.is_for);
      areas = mapped_next (λ (row : Row). row.area) _ _ _ c.args.amounts.now k 0 c.loop-k.invariant.areas (omega (arith, c.requires.one_each)) c.row.ensures.area c.in_ok-push.ensures.items;
    }
