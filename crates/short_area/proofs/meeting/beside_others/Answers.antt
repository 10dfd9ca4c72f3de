use Rattle.std.proofs.Common.{sym, ◌∙◌}
use Rattle.lists.proofs.Words.{false≢true}
use Rattle.short_area.proofs.KeptLaws.{kept_all, kept_one, left_one}
use Rattle.short_area.proofs.meeting.beside_others.Goals as goal
use Rattle.short_area.proofs.meeting.beside_others.Goals.{then-meets_other+in_ok-push, else-meets_other}

pub loop-zone-preserved : goal.loop-zone-preserved
loop-zone-preserved c =
    elim c.if-meets_other.branch [
      | then-meets_other+in_ok-push w ↦ rw w.kept-is (kept_one _ _ _ c.loop-zone.invariant _ c.loop-zone-test.true c.zone-item.is _ w.in_ok-push.ensures.items)
      | else-meets_other w ↦ rw w.kept-is (left_one _ _ _ c.loop-zone.invariant _ c.loop-zone-test.true c.zone-item.is (λ m. false≢true (sym w.if-meets_other.false ∙ c.meets_other.ensures m)))
    ]

pub returns : goal.returns
returns c = kept_all _ _ _ c.loop-zone.invariant c.loop-zone-test.false
