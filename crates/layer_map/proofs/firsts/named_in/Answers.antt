use Rattle.std.proofs.Common.{Some}
use Rattle.toml.specs.Data.{string}
use Rattle.toml.specs.View.{view}
use Rattle.layer_map.specs.Values.{name_of_item}
use Rattle.layer_map.proofs.FirstLaws.{first_at, nowhere}
use Rattle.layer_map.proofs.SearchLaws.{none_before_more}
use Rattle.layer_map.proofs.firsts.named_in.Goals as goal

pub loop-number-preserved : goal.loop-number-preserved
loop-number-preserved c =
    none_before_more (λ item. name_of_item (view item)) c.args.items.now (Some (string c.args.name.now)) c.loop-number.number c.index-items-number.result c.loop-number-test.true
    (λ same. cc (c.has_text.ensures.1 (rw (← c.index-items-number.is) at same), c.if-has_text.false)) c.loop-number.invariant

pub returns-then-has_text-clause-some : goal.returns-then-has_text-clause-some
returns-then-has_text-clause-some c =
    first_at name_of_item view c.args.items.now (Some (string c.args.name.now)) c.loop-number.number c.index-items-number.result c.loop-number-test.true c.index-items-number.is
    (c.has_text.ensures.0 c.if-has_text.true) c.loop-number.invariant

pub returns-clause-none : goal.returns-clause-none
returns-clause-none c = nowhere name_of_item view c.args.items.now (Some (string c.args.name.now)) c.loop-number.number c.loop-number-test.false c.loop-number.invariant
