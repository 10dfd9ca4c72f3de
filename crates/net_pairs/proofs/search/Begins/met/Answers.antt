use Rattle.std.proofs.Common.{◌≡◌, ap, true, false, ℤ, not, ◌&&◌}
use Rattle.lists.proofs.Words.{le_z, lt_z}
use Rattle.net_pairs.specs.declared.weighted.Weighted.{Weighted}
use Rattle.net_pairs.specs.inside.Meetings.{crosses, meets_partly}
use Rattle.net_pairs.proofs.search.Begins.met.Goals as goal
use Rattle.net_pairs.proofs.search.Begins.met.Goals.{then-is_crossed_by+in_ok-push, else-is_crossed_by+then-is_partly_met_by+in_ok-push-2, else-is_crossed_by+else-is_partly_met_by}
use Rattle.lists.proofs.Filtering.{filter_ends, filter_leaves, filter_takes}

-- a span that crosses all columns does not count as meeting them in part
not_partly : (first last : ℤ) (x : Weighted) → true ≡ crosses first last x → false ≡ meets_partly first last x
not_partly first last x e = ap (λ b. not b && (le_z x.rect.x0 last && lt_z first x.rect.x1)) e

pub loop-span-preserved : goal.loop-span-preserved
loop-span-preserved c =
    let first = c.args.self.first in let last = c.args.self.last in
    let spans = c.args.spans.now in let i = c.loop-span.span-index in let x = c.span-item.result in
    let small = c.loop-span-test.true in let at = c.span-item.is in
    elim c.if-is_crossed_by.branch [
      | then-is_crossed_by+in_ok-push w ↦ (
        rw (w.across-is, w.in_ok-push.ensures.items) (filter_takes (crosses first last) spans i x _ small at w.if-is_crossed_by.ensures c.loop-span.invariant.0),
        rw w.partly-is (filter_leaves (meets_partly first last) spans i x _ small at (not_partly first last x w.if-is_crossed_by.ensures) c.loop-span.invariant.1),
      )
      | else-is_crossed_by+then-is_partly_met_by+in_ok-push-2 w ↦ (
        rw w.across-is (filter_leaves (crosses first last) spans i x _ small at w.if-is_crossed_by.ensures c.loop-span.invariant.0),
        rw (w.partly-is, w.in_ok-push-2.ensures.items) (filter_takes (meets_partly first last) spans i x _ small at w.if-is_partly_met_by.ensures c.loop-span.invariant.1),
      )
      | else-is_crossed_by+else-is_partly_met_by w ↦ (
        rw w.across-is (filter_leaves (crosses first last) spans i x _ small at w.if-is_crossed_by.ensures c.loop-span.invariant.0),
        rw w.partly-is (filter_leaves (meets_partly first last) spans i x _ small at w.if-is_partly_met_by.ensures c.loop-span.invariant.1),
      )
    ]

pub returns : goal.returns
returns c = record {
  across = filter_ends _ c.args.spans.now c.loop-span.span-index _ c.loop-span-test.false c.loop-span.invariant.0;
  partly = filter_ends _ c.args.spans.now c.loop-span.span-index _ c.loop-span-test.false c.loop-span.invariant.1;
}
