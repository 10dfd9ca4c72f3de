use Rattle.std.proofs.Common.{◌≡◌, true}
use Rattle.near_index.proofs.IndexLaws.{all_of, gains_part, gains_parts}
use Rattle.near_index.proofs.NearLaws.{gains_none, gains_start}
use Rattle.near_index.proofs.index.Band.add_near.Goals as goal

pub returns-then-not-is_near : goal.returns-then-not-is_near
returns-then-not-is_near g c =
    rw (← c.self.view_is) (gains_none g.T.Rectangular.rect_of c.args.tile c.args.reach c.self.inside.hull (all_of c.self.inside.leaves.items) c.args.found.now.items c.self.invariant.round
    (λ near. let h : c.is_near.result ≡ true = c.is_near.ensures.1 near in cc (h, c.if-not-is_near.true)))

pub loop-leaf-init : goal.loop-leaf-init
loop-leaf-init g c = gains_start g.T.Rectangular.rect_of c.args.tile c.args.reach c.args.found.now.items

pub loop-leaf-preserved : goal.loop-leaf-preserved
loop-leaf-preserved g c =
    gains_part g.T.Rectangular.rect_of c.args.tile c.args.reach c.as_slice-leaf-items.result.now c.loop-leaf.leaf-index c.leaf-item.result c.args.found.now.items c.loop-leaf.found.items
    c.add_near.new.found.items c.loop-leaf-test.true c.leaf-item.is c.loop-leaf.invariant c.in_ok-add_near.ensures

pub returns : goal.returns
returns g c =
    rw (← c.self.view_is, ← c.as_slice-leaf-items.ensures.value)
    (gains_parts g.T.Rectangular.rect_of c.args.tile c.args.reach c.as_slice-leaf-items.result.now c.loop-leaf.leaf-index c.args.found.now.items c.loop-leaf.found.items c.loop-leaf-test.false
    c.loop-leaf.invariant)
