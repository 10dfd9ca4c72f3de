use Rattle.skyline_runs.proofs.Finishing.{all_finished, one_finished}
use Rattle.skyline_runs.proofs.skyline.Skyline.finish.Goals as goal

pub loop-rect-preserved : goal.loop-rect-preserved
loop-rect-preserved c = one_finished c.args.self (record { active = c.loop-rect.active; runs = c.loop-rect.runs }) c.pop_first.new.self c.push.new.self _ c.in-Some.rect
    c.loop-rect.invariant c.in-Some.ensures.value c.in-Some.ensures.updates c.in_ok-push.ensures.items

pub returns-clause-cells : goal.returns-clause-cells
returns-clause-cells c = all_finished c.args.self c.loop-rect.active c.loop-rect.runs c.loop-rect.invariant
    (λ some. let found = c.in_default.ensures.variant.1 some in absurd (cc))
