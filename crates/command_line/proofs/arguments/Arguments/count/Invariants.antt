use Rattle.std.proofs.Common.{◌≡◌, ◌≤◌, count_by, take}
use Rattle.lists.proofs.Words.{bytes_eq}
use Rattle.command_line.specs.OptionNames.{name_of}
use Rattle.command_line.proofs.arguments.Arguments.count.Given as goal

abbrev pub invariant-loop-option : goal.invariant-loop-option
invariant-loop-option l =
    (l.count ≡ count_by (λ option. bytes_eq (name_of option.0) (name_of l.name)) (take l.option-index l.self.options.items)) × (l.count ≤ l.option-index)
