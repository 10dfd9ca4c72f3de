use Rattle.short_area.proofs.LeaderLaws.{tally_beside_runs}
use Rattle.short_area.proofs.leaders.area_beside_runs.Goals as goal

pub overflow_sub-result : goal.overflow_sub-result
overflow_sub-result c = (tally_beside_runs c.args.window c.args.own.now c.args.runs.now _ _ _ _ _ _ _ _ c.in_ok-rects.ensures.items c.in_ok-extend_from_slice.ensures.items c.as_slice.ensures.value
    c.in_ok-extend_from_slice-2.ensures.items c.as_slice-2.ensures.value c.in_ok-in_two.ensures.tally c.in_ok-in_runs.ensures.tally c.in_ok-in_either.ensures.tally).0

pub returns-clause-tally : goal.returns-clause-tally
returns-clause-tally c = (tally_beside_runs c.args.window c.args.own.now c.args.runs.now _ _ _ _ _ _ _ _ c.in_ok-rects.ensures.items c.in_ok-extend_from_slice.ensures.items c.as_slice.ensures.value
    c.in_ok-extend_from_slice-2.ensures.items c.as_slice-2.ensures.value c.in_ok-in_two.ensures.tally c.in_ok-in_runs.ensures.tally c.in_ok-in_either.ensures.tally).1

pub returns-clause-small : goal.returns-clause-small
returns-clause-small c = (tally_beside_runs c.args.window c.args.own.now c.args.runs.now _ _ _ _ _ _ _ _ c.in_ok-rects.ensures.items c.in_ok-extend_from_slice.ensures.items c.as_slice.ensures.value
    c.in_ok-extend_from_slice-2.ensures.items c.as_slice-2.ensures.value c.in_ok-in_two.ensures.tally c.in_ok-in_runs.ensures.tally c.in_ok-in_either.ensures.tally).2
