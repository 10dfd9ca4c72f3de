use Rattle.std.proofs.Common.{arith}
use Rattle.library_grammar.specs.GrammarNames.{entry_of}
use Rattle.library_grammar.proofs.laws.Sizes.{sizes}
use Rattle.gds_syntax.proofs.arrays.columns_and_rows.Goals as goal

pub i16_at-requires : goal.i16_at-requires
i16_at-requires c = omega (arith, sizes.colrow (entry_of c.in-Some.colrow) c.in-Some.ensures.in_profile c.in-Some.ensures.of_kind)

pub i16_at-requires-in-Some : goal.i16_at-requires-in-Some
i16_at-requires-in-Some c = omega (arith, sizes.colrow (entry_of c.in-Some.colrow) c.in-Some.ensures.in_profile c.in-Some.ensures.of_kind)
