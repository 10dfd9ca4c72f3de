use Rattle.library_grammar.specs.GrammarNames.{sref, gives, refuses, all_hold, one_fails}
use Rattle.first_refusal.proofs.AnswerLaws.{handed_on, out_of_memory}
use Rattle.library_grammar.specs.declared.fault.SyntaxFault.TheVariants.{Memory}
use Rattle.gds_syntax.proofs.kept.single_of.Goals as goal

pub returns-in_err-turn : goal.returns-in_err-turn
returns-in_err-turn c =
    handed_on Memory _ c.from_residual.result c.in_err-turn.field-0.0 c.from_residual.ensures.1 (refuses (one_fails c.in_err-turn.ensures.failed))

pub returns : goal.returns
returns c = gives (all_hold c.in_ok-turn.ensures.passed (sref c.in_ok-reference_of.ensures.reference c.in_ok-reference_of.ensures.repeated))

pub returns-in_err-reference_of : goal.returns-in_err-reference_of
returns-in_err-reference_of c = out_of_memory _ _ c.from_residual-in_err-reference_of.result c.from_residual-in_err-reference_of.ensures.1

pub reference_of-requires-clause-turned : goal.reference_of-requires-clause-turned
reference_of-requires-clause-turned c = c.in_ok-turn.ensures.turn
