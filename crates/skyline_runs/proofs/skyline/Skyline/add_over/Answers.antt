use Rattle.std.proofs.Common.{arith}
use Rattle.lists.proofs.Words.{ints}
use Rattle.skyline_runs.proofs.Adding.{added_at, added_free, added_more, added_none, added_whole, free_from_behind, free_from_none, next_active}
use Rattle.skyline_runs.proofs.Looking.{from_on_few, met_more}
use Rattle.skyline_runs.proofs.skyline.Skyline.add_over.Goals as goal

pub returns-in_default-clause-added : goal.returns-in_default-clause-added
returns-in_default-clause-added c = added_free c.args.self.now c.loop-column.self c.args.rect _ c.args.rect.x1 _ c.loop-column.invariant.added
    (free_from_none c.loop-column.self c.args.rect.x0 _ c.in_default.ensures.none)

pub returns-then-active-rect-clause-added : goal.returns-then-active-rect-clause-added
returns-then-active-rect-clause-added c = added_free c.args.self.now c.loop-column.self c.args.rect _ c.args.rect.x1 _ c.loop-column.invariant.added
    (free_from_behind c.loop-column.self c.args.rect.x0 _ c.in-Some.active.x1 (omega (arith, ints)) c.in-Some.ensures.behind)

pub meet-requires-clause-next : goal.meet-requires-clause-next
meet-requires-clause-next c = next_active c.args.self.now c.loop-column.self c.args.rect c.in-Some.active _ c.args.rect.x1 _ c.loop-column.invariant.added
    c.in-Some.ensures.is_active c.in-Some.ensures.before (omega (arith, ints)) c.in-Some.ensures.behind

pub loop-column-preserved : goal.loop-column-preserved
loop-column-preserved c =
    let before = c.in-Some.ensures.before in record {
      added = added_at c.args.self.now c.meet.new.self c.args.rect _ _ c.args.rect.x1 _ _
          (added_more c.args.self.now c.loop-column.self c.meet.new.self c.args.rect _ _ c.args.rect.x1 _ _ c.loop-column.invariant.added c.in_ok-end.ensures)
          (omega (arith, ints)) (omega (arith, ints));
      few = λ xs s left right x up_to.
          let more = c.saturating_add-met.ensures in
          let begins = ((c.loop-column.invariant.added.sides xs s left right).0).begins c.in-Some.active c.in-Some.ensures.is_active in
          met_more xs _ _ c.loop-column.column c.in-Some.active.x0 x
          (c.loop-column.invariant.few xs s left right c.loop-column.column (omega (arith, ints))) begins (omega (arith, ints)) (omega (arith, ints)) (omega arith);
    }

pub loop-column-init : goal.loop-column-init
loop-column-init c = let some = c.args.rect.across.some in record {
  added = added_none c.args.self.now c.args.rect _ _ c.requires.sound c.requires.below some (omega (arith, ints)) (omega (arith, ints));
  few = λ xs s left right x up_to. omega arith;
}

pub meet-requires-clause-below : goal.meet-requires-clause-below
meet-requires-clause-below c = c.loop-column.invariant.added.below

pub meet-requires-clause-from : goal.meet-requires-clause-from
meet-requires-clause-from c = let a = c.loop-column.invariant.added.looked in let b = c.in-Some.ensures.before in omega (arith, ints)

pub returns-clause-added : goal.returns-clause-added
returns-clause-added c = added_whole c.args.self.now c.loop-column.self c.args.rect _ c.args.rect.x1 _ c.loop-column.invariant.added (omega (arith, ints, c.loop-column-test.false))

pub loop-column-smaller : goal.loop-column-smaller
loop-column-smaller c = let before = c.in-Some.ensures.before in let least = c.in-Some.active.across.least in omega (arith, ints)

pub returns-in_default-clause-few : goal.returns-in_default-clause-few
returns-in_default-clause-few c = λ xs s left right.
    let few = c.loop-column.invariant.few xs s left right c.loop-column.column (omega (arith, ints)) in
    let all = from_on_few c.loop-column.column xs in omega arith

pub returns-then-active-rect-clause-few : goal.returns-then-active-rect-clause-few
returns-then-active-rect-clause-few c = λ xs s left right.
    let few = c.loop-column.invariant.few xs s left right c.loop-column.column (omega (arith, ints)) in
    let all = from_on_few c.loop-column.column xs in omega arith

pub returns-clause-few : goal.returns-clause-few
returns-clause-few c = λ xs s left right.
    let few = c.loop-column.invariant.few xs s left right c.loop-column.column (omega (arith, ints)) in
    let all = from_on_few c.loop-column.column xs in omega arith
