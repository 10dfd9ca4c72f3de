use Rattle.layer_map.specs.Values.{pair_value}
use Rattle.toml.specs.View.{table_view}
use Rattle.layer_map.proofs.CauseLaws.{at_none}
use Rattle.layer_map.proofs.FirstLaws.{no_pair}
use Rattle.layer_map.proofs.firsts.first_pair.Goals as goal

pub returns-in-None-clause-none : goal.returns-in-None-clause-none
returns-in-None-clause-none c =
    no_pair (table_view c.args.document.now) (pair_value (c.args.layer, c.args.datatype))
    (rw c.items_of.ensures at (at_none c.pair_among.result c.in_default.not-Some c.pair_among.ensures.none)) (rw c.items_of-2.ensures at c.in-None.ensures.none)
