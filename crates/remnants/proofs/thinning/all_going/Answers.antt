use Rattle.std.proofs.Common.{ℕ, List, subst, sym, Contains}
use Rattle.lists.proofs.Reading.{map_done}
use Rattle.remnants.specs.declared.proposing.StandIn.{StandIn}
use Rattle.remnants.proofs.SpreadLaws.{Contains-goes}
use Rattle.remnants.proofs.thinning.all_going.Goals as goal

pub returns : goal.returns
returns c pair among =
    let all = map_done (λ (pair : StandIn). pair.goes) c.args.proposed.now c.loop-pair.pair-index _ c.loop-pair-test.false c.loop-pair.invariant in
    subst (λ (xs : List ℕ). Contains xs pair.goes) (sym all) (Contains-goes c.args.proposed.now pair among)
