use Rattle.std.proofs.Common.{arith, pos, SFits, w64, rules}
use Rattle.lists.proofs.Words.{to_z-of_z}
use Rattle.library_grammar.specs.GrammarNames.{entry_of}
use Rattle.gds_syntax.proofs.QuarterLaws.{no_turn}
use Rattle.library_grammar.proofs.laws.Sizes.{sizes}
use Rattle.gds_syntax.proofs.TurnLaws.{no_quarters_of_body, none_is_no_angle}
use Rattle.gds_syntax.proofs.references.quarters_of.Goals as goal

pub real_whole-requires : goal.real_whole-requires
real_whole-requires c = omega (arith, sizes.angle (entry_of c.in-Some.angle) c.in-Some.ensures.in_profile c.in-Some.ensures.of_kind)

pub returns-in_ok-real_whole-in-Some-clause-not_whole : goal.returns-in_ok-real_whole-in-Some-clause-not_whole
returns-in_ok-real_whole-in-Some-clause-not_whole c =
    let fits : SFits w64 c.in_ok-real_whole-in-Some.field-0 = search rules in
    no_quarters_of_body c.args.own.now c.in-Some.angle.body.now c.in_ok-real_whole-in-Some.field-0 c.quarters_in.result c.in-Some.ensures.body
    c.in_ok-real_whole-in-Some.ensures.some (simp to_z-of_z at c.quarters_in.ensures.not_whole)

pub returns-in-None-clause-whole : goal.returns-in-None-clause-whole
returns-in-None-clause-whole c = (pos 0, none_is_no_angle c.args.own.now c.in-None.ensures.body, no_turn)
