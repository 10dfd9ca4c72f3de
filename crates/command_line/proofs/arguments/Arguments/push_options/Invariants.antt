use Rattle.std.proofs.Common.{◌≡◌, ◌++◌, map, string_bytes, take}
use Rattle.command_line.specs.inside.Arguments.{words_of_options}
use Rattle.command_line.proofs.arguments.Arguments.push_options.Given as goal

abbrev pub invariant-loop-name : goal.invariant-loop-name
invariant-loop-name l =
    map string_bytes l.words.items ≡ map string_bytes l.initial.words.items ++ words_of_options (map (λ option. (option.0, option.1.now)) (take l.name-index l.self.options.items))
