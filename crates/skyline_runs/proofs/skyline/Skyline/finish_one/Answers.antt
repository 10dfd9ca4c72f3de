use Rattle.skyline_runs.proofs.Primitives.{finished}
use Rattle.skyline_runs.proofs.skyline.Skyline.finish_one.Goals as goal

pub returns : goal.returns
returns c = finished c.args.self.now c.push.new.self c.args.rect c.requires.sound c.requires.room c.in_ok-push.ensures.items
