use Rattle.lists.proofs.Reading.{map_done}
use Rattle.lists.proofs.Words.{dedup_is}
use Rattle.net_extract.specs.declared.metal_terminals.Standing.{Standing}
use Rattle.net_extract.proofs.CarriedLaws.{sorted_once}
use Rattle.net_extract.proofs.island_terminals.islands_carried.Goals as goal

pub returns : goal.returns
returns c =
    let terminals = c.args.terminals.now in
    let all = map_done (λ (standing : Standing). standing.island) terminals c.loop-standing.standing-index _ c.loop-standing-test.false c.loop-standing.invariant in
    sorted_once terminals c.loop-standing.numbers.items _ _ all c.sort_unstable.ensures.permutation c.sort_unstable.ensures.sorted (dedup_is _ _ _ c.dedup.ensures.filtered)
