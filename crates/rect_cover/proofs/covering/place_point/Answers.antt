use Rattle.std.proofs.Common.{w32, w64, ◌∙◌, rules, subst, sym, neg_ℤ, ◌≤ℤ◌}
use Rattle.lists.proofs.Words.{to_z-of_z}
use Rattle.geo_core.specs.declared.bounds.TheConstants.{FARTHEST}
use Rattle.geo_core.proofs.TurnLaws.{same_at}
use Rattle.rect_cover.specs.Coverings.{placed_at}
use Rattle.rect_cover.proofs.PlacedLaws.{widened}
use Rattle.rect_cover.proofs.laws.PlacedShapes.{lies_across, lies_up}
use Rattle.rect_cover.proofs.covering.place_point.Goals as goal

pub shifted-requires-clause-low : goal.shifted-requires-clause-low
shifted-requires-clause-low c =
    let x = widened c.from.result c.args.point.x (record { sfits = c.from.type_inv }) (search rules) c.from.ensures in
    let y = widened c.from-2.result c.args.point.y (record { sfits = c.from-2.type_inv }) (search rules) c.from-2.ensures in
    subst (λ z. neg_ℤ FARTHEST ≤ℤ z)
    (sym (lies_across c.args.placed.now c.args.point _ _ x y _ _ (to_z-of_z w64 c.turn_point-x.result.0 (search rules) ∙ c.turn_point-x.ensures.0) (to_z-of_z w64 c.args.placed.now.dx (search rules))))
    c.requires.left

pub shifted-requires-clause-high : goal.shifted-requires-clause-high
shifted-requires-clause-high c =
    let x = widened c.from.result c.args.point.x (record { sfits = c.from.type_inv }) (search rules) c.from.ensures in
    let y = widened c.from-2.result c.args.point.y (record { sfits = c.from-2.type_inv }) (search rules) c.from-2.ensures in
    subst (λ z. z ≤ℤ FARTHEST)
    (sym (lies_across c.args.placed.now c.args.point _ _ x y _ _ (to_z-of_z w64 c.turn_point-x.result.0 (search rules) ∙ c.turn_point-x.ensures.0) (to_z-of_z w64 c.args.placed.now.dx (search rules))))
    c.requires.right

pub shifted-requires-2-clause-low : goal.shifted-requires-2-clause-low
shifted-requires-2-clause-low c =
    let x = widened c.from.result c.args.point.x (record { sfits = c.from.type_inv }) (search rules) c.from.ensures in
    let y = widened c.from-2.result c.args.point.y (record { sfits = c.from-2.type_inv }) (search rules) c.from-2.ensures in
    subst (λ z. neg_ℤ FARTHEST ≤ℤ z)
    (sym (lies_up c.args.placed.now c.args.point _ _ x y _ _ (to_z-of_z w64 c.turn_point-x.result.1 (search rules) ∙ c.turn_point-x.ensures.1) (to_z-of_z w64 c.args.placed.now.dy (search rules))))
    c.requires.bottom

pub shifted-requires-2-clause-high : goal.shifted-requires-2-clause-high
shifted-requires-2-clause-high c =
    let x = widened c.from.result c.args.point.x (record { sfits = c.from.type_inv }) (search rules) c.from.ensures in
    let y = widened c.from-2.result c.args.point.y (record { sfits = c.from-2.type_inv }) (search rules) c.from-2.ensures in
    subst (λ z. z ≤ℤ FARTHEST)
    (sym (lies_up c.args.placed.now c.args.point _ _ x y _ _ (to_z-of_z w64 c.turn_point-x.result.1 (search rules) ∙ c.turn_point-x.ensures.1) (to_z-of_z w64 c.args.placed.now.dy (search rules))))
    c.requires.top

pub returns : goal.returns
returns c =
    let x = widened c.from.result c.args.point.x (record { sfits = c.from.type_inv }) (search rules) c.from.ensures in
    let y = widened c.from-2.result c.args.point.y (record { sfits = c.from-2.type_inv }) (search rules) c.from-2.ensures in
    same_at _ _ (placed_at c.args.placed.now c.args.point).x (placed_at c.args.placed.now c.args.point).y
    (to_z-of_z w32 c.shifted.result (record { sfits = c.shifted.type_inv }) ∙ c.shifted.ensures
    ∙ lies_across c.args.placed.now c.args.point _ _ x y _ _ (to_z-of_z w64 c.turn_point-x.result.0 (search rules) ∙ c.turn_point-x.ensures.0) (to_z-of_z w64 c.args.placed.now.dx (search rules)))
    (to_z-of_z w32 c.shifted-2.result (record { sfits = c.shifted-2.type_inv }) ∙ c.shifted-2.ensures
    ∙ lies_up c.args.placed.now c.args.point _ _ x y _ _ (to_z-of_z w64 c.turn_point-x.result.1 (search rules) ∙ c.turn_point-x.ensures.1) (to_z-of_z w64 c.args.placed.now.dy (search rules)))
