use Rattle.std.proofs.Common.{inr, arith, length, ◌+◌, ◌*◌, ◌≤◌}
use Rattle.lists.proofs.Words.{IfOk-weaker}
use Rattle.touch_sweep.specs.inside.Chains.{Links}
use Rattle.touch_sweep.specs.inside.Matches.{IsMatchOf}
use Rattle.touch_sweep.proofs.LinkLaws.{links_all, links_both}
use Rattle.touch_sweep.proofs.link.join.Goals as goal

pub returns-then-is_whole-clause-joined : goal.returns-then-is_whole-clause-joined
returns-then-is_whole-clause-joined c = links_all (c.in_ok-is_whole.ensures.all c.if-is_whole.true) (λ p h. h) (λ p m. m)

pub returns-clause-joined : goal.returns-clause-joined
returns-clause-joined c =
    let found = IsMatchOf c.args.points.now c.args.spans.now in
    IfOk-weaker _ _ _
    (λ (u : Unit {0}) (rest : Links found found _ _). links_both {must = found} {may = found} (links_all c.in_ok-is_whole.ensures.some (λ p h. h) (λ p m. m)) rest (λ p m. inr m) (λ p m. m) (λ p m. m))
    c.chain.ensures.joined

pub returns-then-is_whole-clause-few : goal.returns-then-is_whole-clause-few
returns-then-is_whole-clause-few c = let swept = c.in_ok-is_whole.ensures.few in let enough = c.saturating_mul-enough.ensures in omega arith

pub returns-clause-few : goal.returns-clause-few
returns-clause-few c =
    let swept = c.in_ok-is_whole.ensures.few in let enough = c.saturating_mul-enough.ensures in
    IfOk-weaker _ _ _
    (λ (u : Unit {0}) (more : length c.chain.new.pairs.items ≤ length c.sweep_some.new.pairs.items + 2 * (length c.args.points.now + length c.args.spans.now)). omega arith)
    c.chain.ensures.few
