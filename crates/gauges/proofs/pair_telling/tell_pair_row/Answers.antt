use Rattle.std.proofs.Common.{List, [], ◌∷◌, set, length, ◌≤◌, ◌≡◌, length-set, arith}
use Rattle.lists.proofs.Reading.{put_back}
use Rattle.gauges.proofs.laws.Told.{on_err}
use Rattle.gauges.proofs.ToldGauges.{told_all, told_more, told_none, told_until}
use Rattle.gauges.proofs.pair_telling.tell_pair_row.Goals as goal

pub loop-gauge-init : goal.loop-gauge-init
loop-gauge-init g c = rw c.deref_mut-gauge-items.ensures.value (told_none _ _ c.args.gauges.now.items)

pub loop-gauge-preserved : goal.loop-gauge-preserved
loop-gauge-preserved g c =
    told_more _ (c.args.row.now ∷ []) c.args.gauges.now.items c.loop-gauge.gauge-items c.loop-gauge.gauge-index c.gauge-item.result c.tell_gauge.new.gauge
    (omega arith) c.in_ok-tell_gauge.ensures.told c.loop-gauge.invariant

pub returns-in_err-tell_gauge-clause-prefixes : goal.returns-in_err-tell_gauge-clause-prefixes
returns-in_err-tell_gauge-clause-prefixes g c =
    let told : List _ = set c.loop-gauge.gauge-items c.loop-gauge.gauge-index c.tell_gauge.new.gauge in
    let whole : c.args.gauges.now.len ≡ length told = omega (arith, length-set c.loop-gauge.gauge-items c.loop-gauge.gauge-index c.tell_gauge.new.gauge) in
    rw (put_back c.args.gauges.now.len told c.args.gauges.now.items whole) (on_err c.from_residual.result
    (told_until _ (c.args.row.now ∷ []) c.args.gauges.now.items c.loop-gauge.gauge-items c.loop-gauge.gauge-index c.gauge-item.result c.tell_gauge.new.gauge
    (omega arith) (0, c.in_err-tell_gauge.ensures.untold) c.loop-gauge.invariant))

pub returns-clause-told : goal.returns-clause-told
returns-clause-told g c =
    let whole : c.args.gauges.now.len ≡ length c.loop-gauge.gauge-items = omega arith in
    let past : length c.loop-gauge.gauge-items ≤ c.loop-gauge.gauge-index = omega arith in
    rw (put_back c.args.gauges.now.len c.loop-gauge.gauge-items c.args.gauges.now.items whole)
    (told_all _ (c.args.row.now ∷ []) c.args.gauges.now.items c.loop-gauge.gauge-items c.loop-gauge.gauge-index past c.loop-gauge.invariant)
