use Rattle.std.proofs.Common.{arith, refl}
use Rattle.touch_sweep.proofs.TreeSteps.{shortened}
use Rattle.touch_sweep.proofs.spanning_forest.shorten.Goals as goal

pub returns-clause-joined : goal.returns-clause-joined
returns-clause-joined c =
    let less = c.requires.less in let small = c.requires.number in
    shortened c.args.parents.now c.args.number _ _ small (omega arith) refl refl
