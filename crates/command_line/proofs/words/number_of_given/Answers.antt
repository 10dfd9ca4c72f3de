use Rattle.std.proofs.Common.{◌≡◌, [], rules}
use Rattle.command_line.specs.inside.Command.{values_found}
use Rattle.command_line.proofs.words.number_of_given.Goals as goal

pub unreachable-requires : goal.unreachable-requires
unreachable-requires c = let none : values_found c.args.matches.now c.args.name ≡ [] = search rules in c.requires.given none
