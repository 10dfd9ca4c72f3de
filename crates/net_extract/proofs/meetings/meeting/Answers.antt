use Rattle.std.proofs.Common.{◌≡◌, refl, arith, None}
use Rattle.net_extract.proofs.MeetingLaws.{none_found, one_found}
use Rattle.net_extract.proofs.meetings.meeting.Goals as goal

pub returns-in_err-rect : goal.returns-in_err-rect
returns-in_err-rect c =
    let gone : c.from_residual.result ≡ None = grind (arith, c.from_residual.ensures, c.in_err-rect.is) in
    rw gone (none_found c.args.one c.args.other c.in_err-rect.ensures.none)

pub returns : goal.returns
returns c = one_found c.args.one c.args.other _ c.in_ok-rect.ensures.some refl refl
