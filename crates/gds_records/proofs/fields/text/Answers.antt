use Rattle.std.proofs.Common.{arith}
use Rattle.gds_records.proofs.TextLaws.{front_is_text}
use Rattle.gds_records.proofs.fields.text.Goals.{then-loop-end-test+else-body-end-eq0, else-loop-end-test}
use Rattle.gds_records.proofs.fields.text.Goals as goal

pub returns : goal.returns
returns c =
    front_is_text c.args.rec.now.body.now c.loop-end.end (c.loop-end.invariant.0) c.loop-end.invariant.1
    (λ some zero_last. elim c.loop-end-test.branch [
      | then-loop-end-test+else-body-end-eq0 w ↦ w.if-body-end-eq0.false zero_last
      | else-loop-end-test w ↦ omega arith
    ])
