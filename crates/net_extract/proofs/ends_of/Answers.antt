use Rattle.lists.proofs.Reading.{map_next}
use Rattle.map_model.specs.declared.layers.Cut.{Cut}
use Rattle.net_extract.proofs.ends_of.Goals as goal

pub loop-cut-preserved : goal.loop-cut-preserved
loop-cut-preserved c =
    map_next (λ (cut : Cut). (cut.lower, cut.upper)) c.args.cuts.now c.loop-cut.cut-index c.cut-item.result _ _ c.loop-cut-test.true c.cut-item.is c.loop-cut.invariant c.in_ok-push.ensures.items
