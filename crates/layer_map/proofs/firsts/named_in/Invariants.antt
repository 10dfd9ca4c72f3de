use Rattle.std.proofs.Common.{Some}
use Rattle.toml.specs.Data.{string}
use Rattle.toml.specs.View.{view}
use Rattle.layer_map.specs.Values.{name_of_item}
use Rattle.layer_map.proofs.FirstLaws.{NotBefore}
use Rattle.layer_map.proofs.firsts.named_in.Given as goal

abbrev pub invariant-loop-number : goal.invariant-loop-number
invariant-loop-number l = NotBefore name_of_item view l.items (Some (string l.name)) l.number
