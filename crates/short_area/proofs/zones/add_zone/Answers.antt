use Rattle.std.proofs.Common.{refl}
use Rattle.short_area.proofs.ZoneLaws.{gains_some, gains_none}
use Rattle.short_area.proofs.zones.add_zone.Goals as goal

pub returns-in_ok-push : goal.returns-in_ok-push
returns-in_ok-push c =
    rw c.in-Some.is (gains_some c.args.zones.now.items c.push.new.self.items c.in-Some.rect c.args.label (record { rect = c.in-Some.rect; label = c.args.label }) refl refl c.in_ok-push.ensures.items)

pub returns-in_default : goal.returns-in_default
returns-in_default c = rw c.in_default.is (gains_none c.args.zones.now.items c.args.zones.now.items c.args.label refl)
