use Rattle.std.proofs.Common.{Contains}
use Rattle.lists.proofs.Words.{All-more}
use Rattle.library_grammar.specs.GrammarNames.{kinds_of}
use Rattle.gds_syntax.specs.ElementKinds.{form_for}
use Rattle.gds_syntax.proofs.CheckLaws.{needed_are_there, first_missing}
use Rattle.gds_syntax.proofs.checks.check_required.Goals as goal

pub loop-needed-preserved : goal.loop-needed-preserved
loop-needed-preserved c =
    All-more (Contains (kinds_of c.args.own.now)) c.required-needed-items.result.now c.loop-needed.needed-index 0 c.loop-needed-test.true
    c.loop-needed.invariant (c.has.ensures.0 c.if-not-has.false)

pub returns-then-not-has-clause-failed : goal.returns-then-not-has-clause-failed
returns-then-not-has-clause-failed c =
    first_missing c.args.own.now c.required-needed-items.result.now (form_for c.args.kind) c.required-needed-items.ensures
    c.args.at c.loop-needed.needed-index c.loop-needed-test.true c.loop-needed.invariant (λ h. cc (c.has.ensures.1 h, c.if-not-has.true))

pub returns-clause-passed : goal.returns-clause-passed
returns-clause-passed c =
    needed_are_there c.args.own.now c.required-needed-items.result.now (form_for c.args.kind) c.required-needed-items.ensures
    c.loop-needed.needed-index c.loop-needed-test.false c.loop-needed.invariant
