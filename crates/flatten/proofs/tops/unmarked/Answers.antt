use Rattle.std.proofs.Common.{ℕ, Vec, ap, ◌∙◌}
use Rattle.lists.proofs.Words.{Global}
use Rattle.flatten.proofs.MarkLaws.{one_marked, one_unmarked}
use Rattle.flatten.proofs.tops.unmarked.Goals as goal
use Rattle.flatten.proofs.tops.unmarked.Goals.{then-not-marks-number+in_ok-push, else-not-marks-number}

pub loop-number-preserved : goal.loop-number-preserved
loop-number-preserved c = elim c.if-not-marks-number.branch [
  | then-not-marks-number+in_ok-push w ↦
      one_unmarked c.args.marks.now c.loop-number.number c.loop-number.numbers.items c.loop-number.invariant (λ marked. cc (marked, w.if-not-marks-number.true)) _
      (ap (λ (numbers : Vec ℕ Global). numbers.items) w.numbers-is ∙ w.in_ok-push.ensures.items)
  | else-not-marks-number w ↦ rw w.numbers-is (one_marked c.args.marks.now c.loop-number.number c.loop-number.numbers.items c.loop-number.invariant w.if-not-marks-number.false)
]
