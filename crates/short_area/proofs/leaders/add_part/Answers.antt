use Rattle.short_area.proofs.LeaderLaws.{gains_part}
use Rattle.short_area.proofs.leaders.add_part.Goals as goal

pub returns-in_ok-push : goal.returns-in_ok-push
returns-in_ok-push c =
    gains_part c.args.parts.now.items c.push.new.self.items c.args.zone c.args.label c.args.bounds c.in-Some.part c.if-zone-label.false c.in-Some.ensures.some c.in_ok-push.ensures.items
