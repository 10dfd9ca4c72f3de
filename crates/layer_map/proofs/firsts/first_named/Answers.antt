use Rattle.toml.specs.View.{table_view}
use Rattle.layer_map.proofs.CauseLaws.{at_none}
use Rattle.layer_map.proofs.FirstLaws.{no_name}
use Rattle.layer_map.proofs.firsts.first_named.Goals as goal

pub returns-in-None-clause-none : goal.returns-in-None-clause-none
returns-in-None-clause-none c =
    no_name (table_view c.args.document.now) c.args.name.now (rw c.items_of.ensures at (at_none c.named_in.result c.in_default.not-Some c.named_in.ensures.none))
    (rw c.items_of-2.ensures at c.in-None.ensures.none)
