use Rattle.fault_model.proofs.UnionLaws.{union_one}
use Rattle.net_extract.proofs.spots.spot_at.Goals as goal

pub returns : goal.returns
returns c = rw (c.from_vec.ensures, c.in_ok-push.ensures.items, c.new-rects.ensures.items) (λ d.
    let one = union_one d c.unit_at.result in let is = c.unit_at.ensures d in
    (λ u. is.0 (one.0 u), λ e. one.1 (is.1 e)))
