use Rattle.std.proofs.Common.{arith, length, ◌≡◌}
use Rattle.gauges.proofs.KeptLaws.{places_pushed, pushed_at}
use Rattle.gauges.proofs.pair_rows.place_of.Goals as goal

pub returns-in-Some-clause-place : goal.returns-in-Some-clause-place
returns-in-Some-clause-place c = rw (c.as_slice.ensures.value, c.as_slice-2.ensures.name) at c.in-Some.ensures

pub returns-clause-place : goal.returns-clause-place
returns-clause-place c =
    let last : c.len-place.result ≡ length c.args.names.now.items = omega arith in
    pushed_at c.args.names.now.items _ c.args.name c.len-place.result c.in_ok-push.ensures.items last

pub returns-clause-kept : goal.returns-clause-kept
returns-clause-kept c = places_pushed c.args.names.now.items _ c.args.name c.in_ok-push.ensures.items
