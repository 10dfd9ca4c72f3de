use Rattle.skyline_runs.proofs.Commons.{common_gained}
use Rattle.skyline_runs.proofs.skyline.push_common.Goals as goal

pub returns-in_ok-push : goal.returns-in_ok-push
returns-in_ok-push c = common_gained c.args.parts.now.items c.push.new.self.items c.args.active c.args.rect c.in-Some.part c.requires c.in-Some.ensures.some c.in_ok-push.ensures.items
