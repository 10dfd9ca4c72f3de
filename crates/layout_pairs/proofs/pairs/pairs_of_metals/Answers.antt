use Rattle.std.proofs.Common.{◌+◌, refl, sym, subst, take, arith, List}
use Rattle.lists.proofs.Pairing.{AllZip-more}
use Rattle.geo_core.specs.declared.plane.Labelled.{Labelled}
use Rattle.fault_model.specs.FaultNames.{cells_of_window}
use Rattle.pair_report.specs.declared.tables.MetalPairs.{MetalPairs}
use Rattle.layout_pairs.specs.inside.NumberedPairs.{AreMadeFor, AreNumberedPairs, IsNamedAs}
use Rattle.layout_pairs.proofs.pairs.pairs_of_metals.Goals as goal

pub loop-number-preserved : goal.loop-number-preserved
loop-number-preserved c =
    let n = c.loop-number.number in
    let metals = c.args.metals.now in
    let lists = c.args.pieces.now in
    let so_far = c.loop-number.made.items in
    let list = c.index-pieces-number.result in
    let cells = cells_of_window c.args.window in
    let item : MetalPairs = record { layer = c.index-metals-number.result.name; pairs = c.from_vec.result } in
    let of_list = subst (λ (pieces : List Labelled). AreNumberedPairs c.args.side cells pieces c.in_ok-pairs.pairs.items) c.as_slice.ensures c.in_ok-pairs.ensures in
    let made = subst (AreNumberedPairs c.args.side cells list) (sym c.from_vec.ensures) of_list in
    subst (AreMadeFor (take (n + 1) metals) (take (n + 1) lists) c.args.side cells) (sym c.in_ok-push.ensures.items) (record {
      named = AllZip-more IsNamedAs metals so_far n c.index-metals-number.result item (omega arith) c.index-metals-number.is c.loop-number.invariant.named refl;
      paired = AllZip-more (λ (pieces : List Labelled) (one : MetalPairs). AreNumberedPairs c.args.side cells pieces one.pairs) lists so_far n list item (omega arith)
          c.index-pieces-number.is c.loop-number.invariant.paired made;
    })
