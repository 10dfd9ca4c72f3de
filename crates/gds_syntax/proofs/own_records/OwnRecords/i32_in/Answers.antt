use Rattle.std.proofs.Common.{arith}
use Rattle.library_grammar.specs.GrammarNames.{entry_of}
use Rattle.gds_syntax.proofs.own_records.OwnRecords.i32_in.Goals as goal

pub i32_at-requires : goal.i32_at-requires
i32_at-requires c =
    let ensures = c.in-Some.ensures in
    omega (arith, c.requires (entry_of c.in-Some.found) ensures.in_profile ensures.of_kind)
