use Rattle.touch_sweep.proofs.TreeSteps.{one_kept}
use Rattle.touch_sweep.proofs.spanning_forest.keep.Goals as goal

pub returns : goal.returns
returns c = one_kept c.args.a c.args.b c.args.kept.now.items _ c.args.parents.now _ c.in_ok-push.ensures.items c.unite.ensures.down c.unite.ensures.united c.requires.joined
