use Rattle.std.proofs.Common.{◌≡◌, ◌++◌, map, string_bytes, take}
use Rattle.command_line.proofs.arguments.Arguments.push_behind_dashes.Given as goal

abbrev pub invariant-loop-position : goal.invariant-loop-position
invariant-loop-position l = map string_bytes l.words.items ≡ map string_bytes l.initial.words.items ++ map (λ word. word.now) (take l.position-index l.self.positions.items)
