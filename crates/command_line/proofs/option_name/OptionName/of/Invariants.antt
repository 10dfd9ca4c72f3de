use Rattle.std.proofs.Common.{◌≢◌, All, take}
use Rattle.command_line.specs.OptionNames.{name_of}
use Rattle.command_line.proofs.option_name.OptionName.of.Given as goal

abbrev pub invariant-loop-option : goal.invariant-loop-option
invariant-loop-option l = All (λ option. l.name ≢ name_of option) (take l.option-index l.options)
