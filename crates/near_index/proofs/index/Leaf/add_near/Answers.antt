use Rattle.std.proofs.Common.{◌≡◌, true}
use Rattle.near_index.proofs.NearLaws.{gains_none}
use Rattle.near_index.proofs.index.Leaf.add_near.Goals as goal

pub returns-then-not-is_near : goal.returns-then-not-is_near
returns-then-not-is_near g c =
    rw (← c.self.view_is) (gains_none g.T.Rectangular.rect_of c.args.tile c.args.reach c.self.inside.hull c.self.inside.pieces.items c.args.found.now.items c.self.invariant.round
    (λ near. let h : c.is_near.result ≡ true = c.is_near.ensures.1 near in cc (h, c.if-not-is_near.true)))
