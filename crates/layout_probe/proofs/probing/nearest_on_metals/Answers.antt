use Rattle.std.proofs.Common.{◌+◌, ◌<◌, take, refl, sym, subst, arith, length, List}
use Rattle.lists.proofs.Pairing.{AllZip-more}
use Rattle.geo_core.specs.declared.plane.Labelled.{Labelled}
use Rattle.layout_probe.specs.declared.metal_near.MetalNear.{MetalNear}
use Rattle.layout_probe.specs.inside.NumberedNearest.{AreFoundFor, AreNearestNumbers, IsNamedAs}
use Rattle.layout_probe.proofs.probing.nearest_on_metals.Goals as goal

pub loop-number-preserved : goal.loop-number-preserved
loop-number-preserved c =
    let metals = c.args.metals.now in
    let lists = c.args.pieces.now in
    let i = c.loop-number.number in
    let told = c.loop-number.told.items in
    let nearest = c.in_ok-nearest.nearest in
    let item : MetalNear = record { layer = c.index-metals-number.result.name; nearest = nearest } in
    let here : i < length metals = c.loop-number-test.true in
    let there : i < length lists = omega (arith, c.requires) in
    let Found : List Labelled → MetalNear → Type 0 = λ pieces it. AreNearestNumbers pieces c.args.cell it.nearest in
    let of_pieces = subst (λ pieces. AreNearestNumbers pieces c.args.cell nearest) c.as_slice.ensures c.in_ok-nearest.ensures in
    subst (AreFoundFor (take (i + 1) metals) (take (i + 1) lists) c.args.cell) (sym c.in_ok-push.ensures.items) (record {
      named = AllZip-more IsNamedAs metals told i c.index-metals-number.result item here c.index-metals-number.is c.loop-number.invariant.named refl;
      found = AllZip-more Found lists told i c.index-pieces-number.result item there c.index-pieces-number.is c.loop-number.invariant.found of_pieces;
    })
