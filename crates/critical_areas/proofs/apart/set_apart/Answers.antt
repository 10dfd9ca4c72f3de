use Rattle.std.proofs.Common.{ℕ, ◌+◌, List, length, refl, subst, sym}
use Rattle.lists.proofs.Words.{IsPermutation, slice_get_read}
use Rattle.geo_core.specs.declared.plane.Labelled.{Labelled}
use Rattle.critical_areas.specs.inside.IslandsApart.{AreFirstApart}
use Rattle.critical_areas.proofs.IslandLaws.{apart_done, apart_permuted, large_more, none_apart_yet, small_more}
use Rattle.critical_areas.proofs.apart.set_apart.Goals as goal
use Rattle.critical_areas.proofs.apart.set_apart.Goals.{in-Some+in_ok-push-in-Some, in-None+in_ok-push-in-None}

pub loop-number-init : goal.loop-number-init
loop-number-init c = rw (c.new-small.ensures.items, c.new-large.ensures.items) (none_apart_yet c.args.islands.now)

pub loop-number-preserved : goal.loop-number-preserved
loop-number-preserved c =
    let islands = c.args.islands.now in
    let number = c.loop-number.number in
    let island = c.index-islands-number.result in
    let small = c.loop-number.small.items in
    let large = c.loop-number.large.items in
    let at = slice_get_read islands (length islands) number island refl c.loop-number-test.true c.index-islands-number.is in
    elim c.match-small_hull.branch [
      | in-Some+in_ok-push-in-Some w ↦
          let rect = w.in-Some.rect in
          rw (w.small-is, w.large-is)
          (subst (λ (list : List Labelled). AreFirstApart islands (number + 1) list large) (sym w.in_ok-push-in-Some.ensures.items)
          (small_more islands number small large island at c.loop-number.invariant rect (c.small_hull.ensures rect w.in-Some.is) (record { rect = rect; label = number }) refl refl))
      | in-None+in_ok-push-in-None w ↦
          rw (w.small-is, w.large-is)
          (subst (λ (list : List ℕ). AreFirstApart islands (number + 1) small list) (sym w.in_ok-push-in-None.ensures.items)
          (large_more islands number small large island at c.loop-number.invariant))
    ]

pub returns : goal.returns
returns c =
    let islands = c.args.islands.now in
    let small = c.loop-number.small.items in
    let large = c.loop-number.large.items in
    let all = apart_done islands c.loop-number.number small large c.loop-number-test.false c.loop-number.invariant in
    let order = subst (λ (list : List Labelled). IsPermutation list c.in_ok-small.small) c.deref.ensures.value c.in_ok-small.ensures in
    subst (λ (numbers : List ℕ). AreFirstApart islands (length islands) c.in_ok-small.small numbers) (sym c.from_vec.ensures)
    (apart_permuted islands (length islands) small c.in_ok-small.small large order all)
