use Rattle.near_index.proofs.IndexLaws.{all_of, gains_part, gains_parts}
use Rattle.near_index.proofs.NearLaws.{gains_all, gains_start}
use Rattle.near_index.proofs.index.NearIndex.near.Goals as goal

pub loop-band-init : goal.loop-band-init
loop-band-init g c = gains_start g.T.Rectangular.rect_of c.args.tile c.args.reach c.new-found.result.items

pub loop-band-preserved : goal.loop-band-preserved
loop-band-preserved g c =
    gains_part g.T.Rectangular.rect_of c.args.tile c.args.reach c.as_slice-band-items.result.now c.loop-band.band-index c.band-item.result c.new-found.result.items c.loop-band.found.items
    c.add_near.new.found.items c.loop-band-test.true c.band-item.is c.loop-band.invariant c.in_ok-add_near.ensures

pub returns : goal.returns
returns g c =
    let parts = c.as_slice-band-items.result.now in
    let start = c.new-found.result.items in
    let all = gains_parts g.T.Rectangular.rect_of c.args.tile c.args.reach parts c.loop-band.band-index start c.loop-band.found.items c.loop-band-test.false c.loop-band.invariant in
    rw (← c.self.view_is, ← c.as_slice-band-items.ensures.value)
    (gains_all g.T.Rectangular.rect_of c.args.tile c.args.reach (all_of parts) c.loop-band.found.items (rw c.new-found.ensures.items at all))
