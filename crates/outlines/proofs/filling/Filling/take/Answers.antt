use Rattle.std.proofs.Common.{ap, refl, ◌∙◌, ◌++◌, w32, option_to_list}
use Rattle.lists.proofs.Words.{to_z-of_z}
use Rattle.outlines.proofs.FillingLaws.{taken_from}
use Rattle.outlines.proofs.filling.Filling.take.Goals as goal

pub returns-clause-taken : goal.returns-clause-taken
returns-clause-taken c =
    taken_from c.unwrap-run.result c.args.row c.args.self.now _ (c.pop.ensures.items ∙ ap (λ o. c.pop.new.self.items ++ option_to_list o) c.unwrap-run.ensures) refl
    (rw (to_z-of_z w32 c.args.row c.ranges.row) at c.in_ok-finish_run.ensures)
