use Rattle.std.proofs.Common.{◌+◌, ◌*◌, ◌-◌, map}
use Rattle.lists.proofs.Words.{range_with_len}
use Rattle.flatten.specs.Steps.{steps_in_row}
use Rattle.flatten.specs.Routes.{behind_step}
use Rattle.flatten.specs.inside.Ends.{node_routes, part_routes, routes_below}
use Rattle.flatten.specs.inside.Expansions.{copy_routes}
use Rattle.flatten.proofs.GrowthLaws.{IsFollowedTo}
use Rattle.flatten.proofs.expansion.+expansion.Given as goal

-- Each call goes one function down, and that of `expand` one step.
abbrev pub decreases-expand : goal.decreases-expand
decreases-expand l = 4 * l.way.left + 3

abbrev pub decreases-expand_part : goal.decreases-expand_part
decreases-expand_part l = 4 * l.way.left + 2

abbrev pub decreases-expand_copies : goal.decreases-expand_copies
decreases-expand_copies l = 4 * l.way.left + 1

abbrev pub decreases-expand_row : goal.decreases-expand_row
decreases-expand_row l = 4 * l.way.left

abbrev pub invariant-expand-loop-part : goal.invariant-expand-loop-part
invariant-expand-loop-part l =
    IsFollowedTo l.nodes l.way.motion (part_routes (routes_below l.nodes l.way.left) l.one) l.part-items l.part-index l.fn.placed.items l.placed.items

abbrev pub invariant-expand_copies-loop-row : goal.invariant-expand_copies-loop-row
invariant-expand_copies-loop-row l =
    IsFollowedTo l.nodes l.way.motion (λ row. copy_routes l.nodes (l.way.left - 1) l.target (steps_in_row l.reference row)) (range_with_len 0 l.row-end) l.row l.fn.placed.items l.placed.items

abbrev pub invariant-expand_row-loop-column : goal.invariant-expand_row-loop-column
invariant-expand_row-loop-column l =
    IsFollowedTo l.nodes l.way.motion (λ column. map (behind_step (record { reference = l.reference; column = column; row = l.row })) (node_routes l.nodes (l.way.left - 1) l.target))
    (range_with_len 0 l.column-end) l.column l.fn.placed.items l.placed.items
