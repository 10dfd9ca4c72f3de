use Rattle.std.proofs.Common.{arith, Some}
use Rattle.lists.proofs.Words.{ints}
use Rattle.skyline_runs.proofs.Entries.{changes_from_updates}
use Rattle.skyline_runs.proofs.Primitives.{activated}
use Rattle.skyline_runs.proofs.skyline.Skyline.activate.Goals as goal

pub returns : goal.returns
returns c = activated c.args.self.now c.insert.new.self c.args.rect c.requires.sound c.requires.room
    (changes_from_updates c.args.self.now.active c.insert.new.self _ c.args.rect.x0 (Some c.args.rect) (omega (arith, ints)) c.in_ok-insert.ensures.updates)
