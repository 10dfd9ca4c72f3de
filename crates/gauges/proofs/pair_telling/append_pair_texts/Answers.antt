use Rattle.std.proofs.Common.{arith}
use Rattle.gauges.proofs.GainedTexts.{prefix_behind, texts_next, texts_parted, texts_whole}
use Rattle.gauges.proofs.laws.Told.{on_err}
use Rattle.gauges.proofs.pair_telling.append_pair_texts.Goals as goal

pub returns-in_err-append_text-clause-prefix : goal.returns-in_err-append_text-clause-prefix
returns-in_err-append_text-clause-prefix g c =
    on_err c.from_residual.result
    (prefix_behind c.args.into.now.items c.loop-gauge.into.items c.append_text.new.into.items _ _ _ _
    c.loop-gauge.invariant c.in_err-append_text.ensures.prefix (texts_parted _ c.args.gauges.now c.loop-gauge.gauge-index c.gauge-item.result (omega arith) c.gauge-item.is))

pub loop-gauge-preserved : goal.loop-gauge-preserved
loop-gauge-preserved g c =
    texts_next _ c.args.gauges.now c.loop-gauge.gauge-index c.gauge-item.result c.args.into.now.items c.loop-gauge.into.items c.append_text.new.into.items
    (omega arith) c.gauge-item.is c.loop-gauge.invariant c.in_ok-append_text.ensures.written

pub returns-clause-written : goal.returns-clause-written
returns-clause-written g c =
    texts_whole _ c.args.gauges.now c.loop-gauge.gauge-index c.args.into.now.items c.loop-gauge.into.items (omega arith) c.loop-gauge.invariant
