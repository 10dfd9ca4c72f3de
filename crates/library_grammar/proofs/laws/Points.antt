-- the points of an element's XY
use Rattle.std.proofs.Common.{◌≡◌, refl, ap, sym, ◌∙◌, ℕ, ◌/◌, ◌<◌, List, length, arith, Some}
use Rattle.lists.proofs.Words.{range_with_len, All-map, length-map-range_with_len}
use Rattle.gds_records.specs.declared.kinds.TheConstants as kind
use Rattle.library_grammar.specs.GrammarNames.{Entry, HasItem, field, body_of, point_in, points_of, IsPoint, ArePoints}
use Rattle.library_grammar.proofs.FieldRanges.{long_fits}

module _ (own : List Entry) where
  pub length-points_of : length (points_of own) ≡ length (body_of kind.XY own) / 8
  length-points_of = length-map-range_with_len (point_in (body_of kind.XY own)) 0 (length (body_of kind.XY own) / 8)

  module _ (body : List ℕ) (at : Some body ≡ field kind.XY own) where
    body_of_xy : body_of kind.XY own ≡ body
    body_of_xy = rw (← at) refl

    pub count_of_xy : length body / 8 ≡ length (points_of own)
    count_of_xy = sym (length-points_of ∙ ap (λ b. length b / 8) body_of_xy)

    pub item_of_xy : (k : ℕ) → k < length (points_of own) → HasItem 8 k body
    item_of_xy k within = let count = count_of_xy in omega arith

-- four bytes make a number that fits them
pub point_fits : (body : List ℕ) (k : ℕ) → IsPoint (point_in body k)
point_fits body k = record { across = long_fits _; up = long_fits _ }

pub are_points : (own : List Entry) → ArePoints (points_of own)
are_points own =
    let body : List ℕ = body_of kind.XY own in
    All-map IsPoint (point_in body) (range_with_len 0 (length body / 8)) (λ k d within. point_fits body _)
