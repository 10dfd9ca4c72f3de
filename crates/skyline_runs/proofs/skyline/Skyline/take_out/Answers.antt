use Rattle.std.proofs.Common.{arith, None}
use Rattle.lists.proofs.Words.{ints}
use Rattle.skyline_runs.proofs.Entries.{changes_from_updates}
use Rattle.skyline_runs.proofs.Primitives.{taken_out}
use Rattle.skyline_runs.proofs.skyline.Skyline.take_out.Goals as goal

pub returns : goal.returns
returns c = taken_out c.args.self.now c.remove.new.self c.args.rect c.requires.sound c.requires.is_active
    (changes_from_updates c.args.self.now.active c.remove.new.self _ c.args.rect.x0 None (omega (arith, ints)) c.remove.ensures.updates)
