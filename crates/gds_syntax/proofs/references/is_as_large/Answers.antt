use Rattle.std.proofs.Common.{arith}
use Rattle.library_grammar.specs.GrammarNames.{entry_of}
use Rattle.library_grammar.proofs.laws.Sizes.{sizes}
use Rattle.gds_syntax.proofs.TurnLaws.{as_large_where_one}
use Rattle.gds_syntax.proofs.references.is_as_large.Goals as goal

pub real_whole-requires : goal.real_whole-requires
real_whole-requires c = omega (arith, sizes.mag (entry_of c.in-Some.mag) c.in-Some.ensures.in_profile c.in-Some.ensures.of_kind)

pub returns-in-Some : goal.returns-in-Some
returns-in-Some c =
    as_large_where_one c.args.own.now c.in-Some.mag.body.now c.real_whole.result c.eq.result c.in-Some.ensures.body c.real_whole.ensures.some c.real_whole.ensures.none c.eq.ensures
