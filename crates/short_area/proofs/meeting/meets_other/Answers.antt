use Rattle.std.proofs.Common.{sym, ◌∙◌}
use Rattle.lists.proofs.Words.{false≢true}
use Rattle.lists.proofs.Reading.{All-read, All-read_all}
use Rattle.short_area.proofs.KeptLaws.{IsApartFrom, meets_none}
use Rattle.short_area.proofs.meeting.meets_other.Goals as goal
use Rattle.short_area.proofs.meeting.meets_other.Goals.{else-other-zone-via-then-other-zone+else-overlaps, else-other-zone-via-else-other-zone}

pub loop-other-preserved : goal.loop-other-preserved
loop-other-preserved c = All-read (IsApartFrom c.args.zone) _ _ _ c.loop-other-test.true c.other-item.is c.loop-other.invariant
    (elim c.else-other-zone.branch [
      | else-other-zone-via-then-other-zone+else-overlaps w ↦ λ n o. false≢true (sym w.if-overlaps.false ∙ w.overlaps.ensures.1 o)
      | else-other-zone-via-else-other-zone w ↦ λ n o. n w.if-other-zone.false
    ])

pub returns : goal.returns
returns c = λ m. absurd (meets_none _ _ (All-read_all (IsApartFrom c.args.zone) _ _ c.loop-other-test.false c.loop-other.invariant) m)
