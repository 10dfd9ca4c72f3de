use Rattle.std.proofs.Common.{arith}
use Rattle.std.proofs.lemmas.Bool.Decides.{nat_tests}
use Rattle.tile_rows.proofs.board_threads.work.Goals as goal

pub credit-requires-in-loop-hand-clause-first : goal.credit-requires-in-loop-hand-clause-first
credit-requires-in-loop-hand-clause-first c =
    let counted = c.credit.ensures.counted c.in-Some.ticket 1 in
    let none = c.in-Some.ensures.uncredited 1 in
    grind (arith, nat_tests)
