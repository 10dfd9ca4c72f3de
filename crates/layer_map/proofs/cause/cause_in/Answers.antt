use Rattle.layer_map.proofs.CauseLaws.{at_none, no_cause, some_fall}
use Rattle.std.proofs.Common.{map}
use Rattle.toml.specs.View.{view}
use Rattle.layer_map.proofs.cause.cause_in.Goals as goal

pub returns-in-Some-clause-some : goal.returns-in-Some-clause-some
returns-in-Some-clause-some c = c.in-Some.ensures.some c.args.sizes

pub returns-in-Some-outside-clause-some : goal.returns-in-Some-outside-clause-some
returns-in-Some-outside-clause-some c = c.in-Some-outside.ensures.some c.args.sizes

pub returns-clause-some : goal.returns-clause-some
returns-clause-some c = some_fall c.args.asked (map view c.args.values.now) c.args.sizes c.fall.result c.fall.ensures.some

pub returns-clause-none : goal.returns-clause-none
returns-clause-none c =
    no_cause c.args.asked (map view c.args.values.now) c.args.sizes (at_none c.too_many.result c.in_default.not-Some c.too_many.ensures.none)
    (at_none c.uneven.result c.in_default-uneven.not-Some c.uneven.ensures.none) (at_none c.outside.result c.in_default-outside.not-Some c.outside.ensures.none)
    c.fall.result c.fall.ensures.none
