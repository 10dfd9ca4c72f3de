use Rattle.std.proofs.Common.{◌≡◌, ◌∙◌, [], length, get_or, refl, sym, subst, arith}
use Rattle.lists.proofs.Words.{get_or_read}
use Rattle.net_extract.specs.inside.Anchoring.{AreFound, IsMarked}
use Rattle.net_extract.specs.inside.LabelledCells.{AreMeetings}
use Rattle.lists.proofs.Reading.{put_back}
use Rattle.net_extract.proofs.FoundLaws.{none_found, one_metal_more}
use Rattle.net_extract.proofs.anchors.islands_at.Goals as goal

pub loop-metal-init : goal.loop-metal-init
loop-metal-init c = rw (c.in_ok-found.ensures.items_if_clones_equal (λ y e. grind (arith, e))) (none_found c.args.terminals.now c.args.islands.now (length c.args.terminals.now) refl)

pub loop-metal-preserved : goal.loop-metal-preserved
loop-metal-preserved c =
    let terminals = c.args.terminals.now in
    let islands = c.args.islands.now in
    let metal = c.loop-metal.metal in
    let old = c.loop-metal.found.items in
    let new = c.mark.new.found in
    let cells = c.in_ok-cells.cells.items in
    let met = c.in_ok-met.met.items in
    let on_metal = c.as_slice.ensures ∙ get_or_read islands metal c.index-islands-metal.result c.loop-metal-test.true c.index-islands-metal.is [] in
    let meet = subst (λ xs. AreMeetings xs (get_or islands metal []) met) c.deref.ensures.value (subst (λ xs. AreMeetings c.deref.result.now xs met) on_metal c.in_ok-met.ensures.exact) in
    let marked = subst (λ xs. IsMarked xs met new) c.deref_mut.ensures.value (subst (λ xs. IsMarked c.deref_mut.result.now xs new) c.deref-in-loop-metal.ensures.value c.mark.ensures) in
    let next = one_metal_more terminals islands metal old new cells met c.loop-metal.invariant c.in_ok-cells.ensures meet marked in
    let length_is : c.loop-metal.found.len ≡ length new = c.loop-metal.found.ok.0 ∙ sym marked.one_each in
    rw (put_back c.loop-metal.found.len new old length_is) next

pub returns : goal.returns
returns c =
    let islands = c.args.islands.now in
    let all : c.loop-metal.metal ≡ length islands = omega arith in
    subst (λ metals. AreFound c.args.terminals.now islands metals c.loop-metal.found.items) all c.loop-metal.invariant
