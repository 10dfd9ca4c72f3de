use Rattle.std.proofs.Common.{Some}
use Rattle.toml.specs.Data.{integer, string}
use Rattle.toml.specs.View.{view}
use Rattle.layer_map.specs.TerminalChecks.{place_in}
use Rattle.layer_map.proofs.FirstLaws.{NotBefore}
use Rattle.layer_map.proofs.firsts.terminal_in.Given as goal

abbrev pub invariant-loop-number : goal.invariant-loop-number
invariant-loop-number l = NotBefore place_in view l.items (Some (string l.metal), Some (integer l.x), Some (integer l.y)) l.number
