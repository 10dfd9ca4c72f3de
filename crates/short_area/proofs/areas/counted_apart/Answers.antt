use Rattle.short_area.proofs.Counting.{count_by_union}
use Rattle.short_area.proofs.areas.counted_apart.Goals as goal

pub overflow_sub-result : goal.overflow_sub-result
overflow_sub-result c = (count_by_union c.args.zones.now c.args.window c.args.one c.args.other c.in_ok-own.own.items c.in_ok-own.others.items _ _ _ _ _ _ _ _ c.requires c.in_ok-own.ensures
    c.as_slice.ensures.value c.as_slice-2.ensures.value c.as_slice-3.ensures.value c.in_ok-extend_from_slice.ensures.items c.as_slice-4.ensures.value
    c.in_ok-in_one.ensures.tally c.in_ok-in_other.ensures.tally c.in_ok-in_either.ensures.tally).0

pub returns : goal.returns
returns c = (count_by_union c.args.zones.now c.args.window c.args.one c.args.other c.in_ok-own.own.items c.in_ok-own.others.items _ _ _ _ _ _ _ _ c.requires c.in_ok-own.ensures
    c.as_slice.ensures.value c.as_slice-2.ensures.value c.as_slice-3.ensures.value c.in_ok-extend_from_slice.ensures.items c.as_slice-4.ensures.value
    c.in_ok-in_one.ensures.tally c.in_ok-in_other.ensures.tally c.in_ok-in_either.ensures.tally).1
