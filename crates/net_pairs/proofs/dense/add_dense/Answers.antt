use Rattle.lists.proofs.Words.{on_ok_weaker}
use Rattle.net_pairs.specs.inside.Dense.{AreSlabsOf}
use Rattle.net_pairs.proofs.DenseLaws.{dense_gains}
use Rattle.net_pairs.proofs.dense.add_dense.Goals as goal

pub returns : goal.returns
returns c =
    let runs = c.args.runs.now in
    let slabs = c.as_slice.result.now in
    let are : AreSlabsOf c.args.window runs slabs = rw c.as_slice.ensures.value c.in_ok-slabs.ensures.slabs in
    on_ok_weaker c.add_changes.result (dense_gains c.args.window runs c.in_ok-changes.changes.items slabs _ _ c.requires c.in_ok-changes.ensures.changes are) c.add_changes.ensures
