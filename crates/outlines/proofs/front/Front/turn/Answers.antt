use Rattle.std.proofs.Common.{◌≡◌, ◌<ℤ◌, ◌+ℤ◌, ◌∙◌, get_or, w32, w64, to_z, of_z, FitsSigned, arith, refl, sym, subst}
use Rattle.lists.proofs.Words.{ints, to_z-of_z, get_or_default}
use Rattle.outlines.specs.declared.front.Front.{Front}
use Rattle.outlines.specs.inside.Pieces.{winding_at}
use Rattle.outlines.proofs.FrontLaws.{IsTurnedTo, all_turned, earlier, next_within, redrawn, still_there, turned_begun, turned_more}
use Rattle.outlines.proofs.front.Front.turn.Goals as goal

pub loop-number-init : goal.loop-number-init
loop-number-init c =
    let low = to_z w32 (of_z w32 c.args.low) in let high = to_z w32 (of_z w32 c.args.high) in
    let less : low <ℤ high = omega (arith, ints, c.if-low-high.false) in
    let cut : Front = record { pieces = c.cut-2.new.pieces; filling = c.args.self.now.filling } in
    let begins = c.in_ok-last.ensures.kept.kept c.in_ok-first.first low c.in_ok-first.ensures.place less in
    let ends = c.in_ok-last.ensures.place in
    let rising = c.in_ok-last.ensures.same.rising in
    let drawn = redrawn c.args.row c.args.self.now cut refl
    (record { same = λ i. c.in_ok-last.ensures.same.same i ∙ c.in_ok-first.ensures.same.same i; rising = rising }) c.requires.drawn in
    rw (to_z-of_z w32 c.args.row c.ranges.row)
    (turned_begun low high _ c.args.row c.in_ok-first.first c.in_ok-last.last cut begins ends (earlier _ _ _ low high rising begins ends less) drawn)

pub shift-requires-clause-fits : goal.shift-requires-clause-fits
shift-requires-clause-fits c d =
    let front = c.loop-number.self in
    let number = c.loop-number.number in
    let so_far = c.loop-number.invariant in
    let within = next_within _ _ _ _ _ _ number _ front so_far c.loop-number-test.true in
    let p = get_or front.pieces.items number d in
    let still = still_there _ _ _ _ _ _ number _ front so_far c.loop-number-test.true p (get_or_default front.pieces.items number p d (omega arith)) in
    let same : winding_at p.column c.cut-2.new.pieces.items ≡ winding_at p.column c.args.self.now.pieces.items = c.in_ok-last.ensures.same.same p.column ∙ c.in_ok-first.ensures.same.same p.column in
    rw (to_z-of_z w64 c.args.by c.ranges.by)
    (subst (λ w. FitsSigned w64 (w +ℤ c.args.by)) (sym (still.1 ∙ same)) (c.requires.fits p.column (let l = still.0 in omega (arith, ints))))

pub loop-number-preserved : goal.loop-number-preserved
loop-number-preserved c =
    turned_more _ _ _ _ _ _ c.loop-number.number _ c.loop-number.self c.loop-number.invariant c.loop-number-test.true c.shift.new.self c.in_ok-shift.ensures

pub join-requires-2-clause-number : goal.join-requires-2-clause-number
join-requires-2-clause-number c =
    let low = to_z w32 (of_z w32 c.args.low) in let high = to_z w32 (of_z w32 c.args.high) in
    let less : low <ℤ high = omega (arith, ints, c.if-low-high.false) in
    let place = (c.join.ensures.kept high c.loop-number.invariant.ends).kept c.in_ok-first.first low c.loop-number.invariant.begins less in
    let within = place.within in
    omega arith

pub returns : goal.returns
returns c =
    let cut : Front = record { pieces = c.cut-2.new.pieces; filling = c.args.self.now.filling } in
    let turned = c.loop-number.self in
    let after : Front = record { pieces = c.join-2.new.pieces; filling = turned.filling } in
    let so_far =
    rw (to_z-of_z w32 c.args.low c.ranges.low, to_z-of_z w32 c.args.high c.ranges.high, to_z-of_z w64 c.args.by c.ranges.by, to_z-of_z w32 c.args.row c.ranges.row)
    at c.loop-number.invariant in
    let bound = so_far.bound in
    let all : c.loop-number.number ≡ c.in_ok-last.last = omega arith in
    let turns = subst (λ n. IsTurnedTo c.args.low c.args.high c.args.by c.args.row c.in_ok-first.first c.in_ok-last.last n cut turned) all so_far in
    all_turned c.args.low c.args.high c.args.by c.args.row c.args.self.now cut turned after c.in_ok-first.first c.in_ok-last.last
    (λ i. c.in_ok-last.ensures.same.same i ∙ c.in_ok-first.ensures.same.same i) refl turns (λ i. c.join-2.ensures.same.same i ∙ c.join.ensures.same.same i) c.join-2.ensures.same.rising refl
