use Rattle.std.proofs.Common.{List, ℕ, ◌-◌, ◌/◌, ◌∙◌, ap, length, get_or}
use Rattle.map_model.specs.MapNames.{side_by}
use Rattle.area_parts.proofs.SizeLaws.{greatest_reach}
use Rattle.area_parts.proofs.window.reach.Goals as goal

pub returns-clause-reach : goal.returns-clause-reach
returns-clause-reach c =
    let map = c.args.map.now in
    c.reach_of_side.ensures.half ∙ ap (λ (side : ℕ). side / 2) c.side.ensures.side ∙ ap (λ (xs : List ℕ). side_by map.measure (get_or map.sizes (length xs - 1) 0) / 2) c.as_slice.ensures
    ∙ greatest_reach map.measure map.sizes map.weights map.are_sizes.some map.are_weights.as_many map.are_sizes.rising
