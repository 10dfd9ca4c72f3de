use Rattle.std.proofs.Common.{◌<◌, arith, get_or, length, refl}
use Rattle.lists.proofs.Words.{slice_get_read, slice_get-get_or, All-contains, All-get_or}
use Rattle.lists.proofs.Containing.{Contains-slice_get}
use Rattle.remnants.specs.declared.parts.Fixed.{Fixed}
use Rattle.remnants.proofs.PlaceLaws.{none_kept, kept_more, all_kept}
use Rattle.remnants.proofs.keeping.kept_at.Goals as goal

pub loop-place-init : goal.loop-place-init
loop-place-init c = rw c.in_ok-kept.ensures.items (none_kept c.args.fixed.now c.args.places.now c.args.numbers.now)

pub loop-place-preserved : goal.loop-place-preserved
loop-place-preserved c =
    let fixed = c.args.fixed.now in
    let places = c.args.places.now in
    let numbers = c.args.numbers.now in
    let k = c.loop-place.place-index in
    let place = get_or places k 0 in
    let one = c.index-fixed-place.result in
    let small : place < length fixed = All-get_or (λ p. p < length fixed) places k 0 c.loop-place-test.true c.requires.places in
    let at = slice_get_read fixed (length fixed) place one refl small c.index-fixed-place.is in
    let leads : one.leader < length numbers = All-contains (λ (x : Fixed). x.leader < length numbers) fixed one c.requires.leaders (Contains-slice_get fixed place one at) in
    rw c.in_ok-push.ensures.items
    (kept_more fixed places numbers k place (get_or numbers one.leader 0) c.loop-place.kept.items one (slice_get-get_or places k 0 c.loop-place-test.true) at
    (slice_get-get_or numbers one.leader 0 leads) c.loop-place.invariant)

pub returns : goal.returns
returns c = all_kept c.args.fixed.now c.args.places.now c.args.numbers.now c.loop-place.place-index c.loop-place.kept.items (omega arith) c.loop-place.invariant
