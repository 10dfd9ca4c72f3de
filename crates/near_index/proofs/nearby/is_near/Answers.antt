use Rattle.std.proofs.Common.{◌≡◌, true}
use Rattle.near_index.proofs.NearLaws.{near_by_axes}
use Rattle.near_index.proofs.nearby.is_near.Goals as goal

pub returns-then-not-come_near : goal.returns-then-not-come_near
returns-then-not-come_near c =
    let across = rw (c.columns.ensures.low, c.columns.ensures.high, c.columns-2.ensures.low, c.columns-2.ensures.high) at c.come_near.ensures in
    let axes = near_by_axes c.args.tile c.args.rect c.args.reach in
    (λ t. cc, λ near. let h : c.come_near.result ≡ true = across.1 (axes.0 near).0 in cc)

pub returns : goal.returns
returns c =
    let across = rw (c.columns.ensures.low, c.columns.ensures.high, c.columns-2.ensures.low, c.columns-2.ensures.high) at c.come_near.ensures in
    let up = rw (c.rows.ensures.low, c.rows.ensures.high, c.rows-2.ensures.low, c.rows-2.ensures.high) at c.come_near-2.ensures in
    let axes = near_by_axes c.args.tile c.args.rect c.args.reach in
    (λ t. axes.1 (across.0 c.if-not-come_near.false, up.0 t), λ near. up.1 (axes.0 near).1)
