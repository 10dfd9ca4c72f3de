use Rattle.std.proofs.Common.{rules}
use Rattle.std.proofs.lemmas.Fn.{dedup_same}
use Rattle.net_numbers.proofs.CornerLaws.{kept_corners, same_label, sorted_by_key}
use Rattle.net_numbers.proofs.corners.first_corners.Goals as goal

pub returns : goal.returns
returns c =
    kept_corners c.args.pieces.now _ _ c.in_ok-corners.ensures c.sort_unstable_by_key.ensures.permutation
    (sorted_by_key _ c.sort_unstable_by_key.ensures.sorted (λ a r q k. search rules)) _
    (dedup_same _ same_label _ (λ x y b f' x' y' k. search rules) _ _ c.dedup_by.ensures.filtered)
