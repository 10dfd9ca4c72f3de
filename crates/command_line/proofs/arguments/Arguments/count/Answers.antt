use Rattle.std.proofs.Common.{arith, false, true}
use Rattle.command_line.proofs.CheckLaws.{one_more_counted}
use Rattle.command_line.proofs.arguments.Arguments.count.Goals as goal
use Rattle.command_line.proofs.arguments.Arguments.count.Goals.{then-eq, else-eq}

pub loop-option-preserved : goal.loop-option-preserved
loop-option-preserved c = elim c.if-eq.branch [
  | then-eq w ↦ one_more_counted c.args.name c.deref-option-items.result.now c.args.self.now.options.items c.loop-option.option-index c.loop-option.count c.if-eq.count _
      c.text.result.now c.text-in-loop-option.result.now true c.deref-option-items.ensures.value c.loop-option-test.true c.text.ensures c.text-in-loop-option.ensures w.if-eq.ensures
      (omega (arith, w.count-is)) c.loop-option.invariant
  | else-eq w ↦ one_more_counted c.args.name c.deref-option-items.result.now c.args.self.now.options.items c.loop-option.option-index c.loop-option.count c.if-eq.count _
      c.text.result.now c.text-in-loop-option.result.now false c.deref-option-items.ensures.value c.loop-option-test.true c.text.ensures c.text-in-loop-option.ensures w.if-eq.ensures
      (omega (arith, w.count-is)) c.loop-option.invariant
]
