use Rattle.std.proofs.Common.{◌≡◌, ◌∙◌, arith, length, refl, sym}
use Rattle.lists.proofs.Words.{slice_get_read, false≢true}
use Rattle.remnants.proofs.PlaceLaws.{no_places, place_more, place_none, all_places}
use Rattle.remnants.proofs.keeping.places_of.Goals as goal
use Rattle.remnants.proofs.keeping.places_of.Goals.{then-matters+in_ok-push-2, else-matters}

pub loop-number-init : goal.loop-number-init
loop-number-init c = rw (c.in_ok-places.ensures.items, c.in_ok-numbers.ensures.items) (no_places c.args.outer c.args.fixed.now)

pub loop-number-preserved : goal.loop-number-preserved
loop-number-preserved c =
    let fixed = c.args.fixed.now in
    let k = c.loop-number.number in
    let one = c.index-fixed-number.result in
    let at = slice_get_read fixed (length fixed) k one refl c.loop-number-test.true c.index-fixed-number.is in
    let count : c.len.result ≡ length c.loop-number.places.items = omega (arith, c.loop-number.places.ok.0) in
    elim c.if-matters.branch [
      | then-matters+in_ok-push-2 w ↦ rw (w.places-is, c.in_ok-push.ensures.items, w.in_ok-push-2.ensures.items)
          (place_more c.args.outer fixed k c.loop-number.places.items c.loop-number.numbers.items c.loop-number.invariant one at c.len.result count)
      | else-matters w ↦ rw (w.places-is, c.in_ok-push.ensures.items)
          (place_none c.args.outer fixed k c.loop-number.places.items c.loop-number.numbers.items c.loop-number.invariant one at c.len.result count
          (λ m. false≢true (sym w.if-matters.false ∙ c.matters.ensures.1 m)))
    ]

pub returns : goal.returns
returns c = all_places c.args.outer c.args.fixed.now c.loop-number.number c.loop-number.places.items c.loop-number.numbers.items (omega arith) c.loop-number.invariant
