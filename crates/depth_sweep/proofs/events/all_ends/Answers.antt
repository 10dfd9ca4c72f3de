use Rattle.std.proofs.Common.{sym, ap₂, [], ◌∷◌}
use Rattle.depth_sweep.specs.declared.bar.Event.{Event}
use Rattle.depth_sweep.specs.inside.Events.{ends_of}
use Rattle.depth_sweep.proofs.Sums.{pushed_two}
use Rattle.depth_sweep.proofs.events.all_ends.Goals as goal

pub loop-bar-preserved : goal.loop-bar-preserved
loop-bar-preserved c =
    pushed_two ends_of c.args.bars.now c.loop-bar.bar-index c.bar-item.result c.begin.result c.end.result c.loop-bar.events.items c.push.new.self.items c.push-in-loop-bar.new.self.items
    c.loop-bar-test.true c.bar-item.is (ap₂ (λ (a b : Event). a ∷ b ∷ []) (sym c.begin.ensures) (sym c.end.ensures))
    c.loop-bar.invariant c.in_ok-push.ensures.items c.in_ok-push-2.ensures.items
