use Rattle.std.proofs.Common.{rules, pos}
use Rattle.layer_map.specs.inside.ReadValues.{IsWithin}
use Rattle.layer_map.proofs.ValueLaws.{whole_is, no_whole, not_below, not_above, no_integer}
use Rattle.layer_map.proofs.values.whole_in.Goals as goal

pub returns-then-number-low : goal.returns-then-number-low
returns-then-number-low c = not_below _ _ _ c.in-Some.number c.in-Some.ensures (search rules) _ c.in-Ok.ensures c.if-number-low.true

pub returns-then-number-high : goal.returns-then-number-high
returns-then-number-high c = not_above _ _ _ c.in-Some.number c.in-Some.ensures (search rules) _ c.in-Ok.ensures c.if-number-high.true

pub returns-else-number-high : goal.returns-else-number-high
returns-else-number-high c = whole_is _ _ _ c.in-Some.number c.in-Some.ensures (search rules) _ c.in-Ok.ensures c.if-number-low.false c.if-number-high.false

pub returns-in-Err : goal.returns-in-Err
returns-in-Err c = no_whole _ _ _ c.in-Some.number c.in-Some.ensures (search rules) c.in-Err.ensures c.ranges.high.fits

pub returns-in-None : goal.returns-in-None
returns-in-None c = no_integer pos (IsWithin c.args.low c.args.high) _ c.in-None.ensures
