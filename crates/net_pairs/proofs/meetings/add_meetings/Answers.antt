use Rattle.std.proofs.Common.{map, subst, sym}
use Rattle.std.specs.List.Sorted.{IsPermutation}
use Rattle.lists.proofs.Words.{on_ok_weaker}
use Rattle.net_pairs.specs.inside.Meetings.{AreByRow, counted_once}
use Rattle.net_pairs.proofs.MeetingTallies.{meetings_gained}
use Rattle.net_pairs.proofs.meetings.add_meetings.Goals as goal

pub search-requires : goal.search-requires
search-requires c = let by_row = subst AreByRow (sym c.as_slice-sorted.ensures.value) c.in_ok-sorted.ensures.ordered in record { points = by_row; spans = by_row }

pub returns : goal.returns
returns c =
    let moved = subst (IsPermutation (map counted_once c.args.runs.now)) (sym c.as_slice-sorted.ensures.value) c.in_ok-sorted.ensures.same in
    on_ok_weaker c.search.result (meetings_gained c.args.window c.args.runs.now c.as_slice-sorted.result.now moved c.requires c.args.sums.now.items.items _) c.search.ensures
