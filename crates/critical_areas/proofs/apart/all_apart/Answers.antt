use Rattle.std.proofs.Common.{◌+◌, take, sym, subst}
use Rattle.lists.proofs.Words.{AllZip}
use Rattle.lists.proofs.Pairing.{AllZip-more}
use Rattle.critical_areas.specs.inside.IslandsApart.{AreApart}
use Rattle.critical_areas.proofs.apart.all_apart.Goals as goal

pub loop-islands-preserved : goal.loop-islands-preserved
loop-islands-preserved c =
    let metals = c.args.metals.now in
    let i = c.loop-islands.islands-index in
    subst (AllZip AreApart (take (i + 1) metals)) (sym c.in_ok-push.ensures.items)
    (AllZip-more AreApart metals c.loop-islands.apart.items i c.islands-item.result c.in_ok-set_apart.field-0 c.loop-islands-test.true c.islands-item.is c.loop-islands.invariant
    (subst (λ islands. AreApart islands c.in_ok-set_apart.field-0) c.as_slice.ensures c.in_ok-set_apart.ensures))
