use Rattle.library_grammar.specs.GrammarNames.{aref, gives, refuses, all_hold, one_fails, reference_checks, array_checks, ElementHolds, element_fault}
use Rattle.lists.proofs.Words.{All-append}
use Rattle.gds_syntax.proofs.JudgedLaws.{fault_in_front}
use Rattle.first_refusal.proofs.AnswerLaws.{handed_on, out_of_memory}
use Rattle.first_refusal.proofs.JudgeLaws.{goes_on}
use Rattle.library_grammar.specs.declared.fault.SyntaxFault.TheVariants.{Memory}
use Rattle.std.proofs.Common.{arith}
use Rattle.gds_syntax.proofs.kept.array_of.Goals as goal

pub returns-in_err-turn : goal.returns-in_err-turn
returns-in_err-turn c =
    let fault = c.in_err-turn.field-0.0 in
    handed_on Memory _ c.from_residual.result fault c.from_residual.ensures.1 (fault_in_front c.args.at c.args.own.now _ reference_checks array_checks fault c.in_err-turn.ensures.failed)

pub returns-in_err-lattice : goal.returns-in_err-lattice
returns-in_err-lattice c =
    let own = c.args.own.now in
    handed_on Memory _ c.from_residual-in_err-lattice.result c.in_err-lattice.field-0.0 c.from_residual-in_err-lattice.ensures.1
    (goes_on (ElementHolds own) (element_fault c.args.at) _ reference_checks array_checks _ c.in_ok-turn.ensures.passed (refuses (one_fails c.in_err-lattice.ensures.failed)))

pub returns : goal.returns
returns c =
    gives (all_hold (All-append (ElementHolds c.args.own.now) reference_checks array_checks c.in_ok-turn.ensures.passed c.in_ok-lattice.ensures.passed)
    (aref c.in_ok-reference_of.ensures.reference c.in_ok-reference_of.ensures.repeated c.in_ok-lattice.ensures.lattice))

pub returns-in_err-reference_of : goal.returns-in_err-reference_of
returns-in_err-reference_of c = out_of_memory _ _ c.from_residual-in_err-reference_of.result c.from_residual-in_err-reference_of.ensures.1

pub reference_of-requires-clause-turned : goal.reference_of-requires-clause-turned
reference_of-requires-clause-turned c = c.in_ok-turn.ensures.turn

pub reference_of-requires-clause-somewhere : goal.reference_of-requires-clause-somewhere
reference_of-requires-clause-somewhere c = omega (arith, c.requires)
