use Rattle.std.proofs.Common.{ℕ, ◌/◌, Global, List, [], Option, Vec, sym, subst}
use Rattle.lists.proofs.Words.{IfOk-weaker}
use Rattle.geo_core.specs.declared.plane.Labelled.{Labelled}
use Rattle.geo_core.specs.declared.plane.Rect.{Rect}
use Rattle.fault_model.specs.FaultNames.{cells_of_window}
use Rattle.net_pairs.specs.Pairs.{ArePairAreas}
use Rattle.layout_pairs.specs.inside.NumberedPairs.{AreNumberedPairs}
use Rattle.layout_pairs.proofs.MetalPairLaws.{pairs_of_none, pairs_over}
use Rattle.layout_pairs.proofs.pairs.pairs_of_metal.Goals as goal

pub returns-in-None : goal.returns-in-None
returns-in-None c =
    let side = c.args.side in
    let pieces = c.args.pieces.now in
    let are = pairs_of_none side pieces c.in_ok-numbered.numbered.items c.in_ok-numbered.ensures in
    let of_new = subst (AreNumberedPairs side [] pieces) (sym c.new.ensures.items) are in
    subst (λ (window : Option Rect). AreNumberedPairs side (cells_of_window window) pieces c.new.result.items) (sym c.in-None.is) of_new

pub returns : goal.returns
returns c =
    let numbered = c.in_ok-numbered.numbered.items in
    let pieces = c.args.pieces.now in
    let window = c.in-Some.window in
    IfOk-weaker c.areas_at_side.result (λ (areas : Vec (ℕ × ℕ × ℕ) Global). ArePairAreas c.as_slice.result.now (c.args.side / 2) window areas.items)
    (λ (areas : Vec (ℕ × ℕ × ℕ) Global). AreNumberedPairs c.args.side (cells_of_window c.args.window) pieces areas.items)
    (λ areas are.
    let of_numbered = subst (λ (labelled : List Labelled). ArePairAreas labelled (c.args.side / 2) window areas.items) c.as_slice.ensures.value are in
    let over = pairs_over c.args.side pieces numbered c.in_ok-numbered.ensures window areas.items of_numbered in
    subst (λ (there : Option Rect). AreNumberedPairs c.args.side (cells_of_window there) pieces areas.items) (sym c.in-Some.is) over)
    c.areas_at_side.ensures
