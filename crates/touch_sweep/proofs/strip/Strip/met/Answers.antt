use Rattle.std.proofs.Common.{◌≡◌, ap, true, false, ℤ, not, ◌&&◌}
use Rattle.lists.proofs.Words.{le_z, lt_z}
use Rattle.touch_sweep.specs.declared.numbered.Numbered.{Numbered}
use Rattle.touch_sweep.specs.inside.Strips.{crosses, meets_partly}
use Rattle.touch_sweep.proofs.strip.Strip.met.Goals as goal
use Rattle.touch_sweep.proofs.strip.Strip.met.Goals.{then-is_crossed_by+in_ok-push, else-is_crossed_by+then-is_partly_met_by+in_ok-push-2, else-is_crossed_by+else-is_partly_met_by}
use Rattle.lists.proofs.Filtering.{filter_ends, filter_leaves, filter_takes}

-- an entry that crosses all columns does not count as meeting them in part
not_partly : (low high : ℤ) (x : Numbered) → true ≡ crosses low high x → false ≡ meets_partly low high x
not_partly low high x e = ap (λ b. not b && (lt_z x.rect.x0 high && le_z low x.rect.x1)) e

pub loop-entry-preserved : goal.loop-entry-preserved
loop-entry-preserved c =
    let low = c.args.self.low in let high = c.args.self.high in
    let entries = c.args.entries.now in let i = c.loop-entry.entry-index in let x = c.entry-item.result in
    let small = c.loop-entry-test.true in let at = c.entry-item.is in
    elim c.if-is_crossed_by.branch [
      | then-is_crossed_by+in_ok-push w ↦ (
        rw (w.across-is, w.in_ok-push.ensures.items) (filter_takes (crosses low high) entries i x _ small at w.if-is_crossed_by.ensures c.loop-entry.invariant.0),
        rw w.partly-is (filter_leaves (meets_partly low high) entries i x _ small at (not_partly low high x w.if-is_crossed_by.ensures) c.loop-entry.invariant.1),
      )
      | else-is_crossed_by+then-is_partly_met_by+in_ok-push-2 w ↦ (
        rw w.across-is (filter_leaves (crosses low high) entries i x _ small at w.if-is_crossed_by.ensures c.loop-entry.invariant.0),
        rw (w.partly-is, w.in_ok-push-2.ensures.items) (filter_takes (meets_partly low high) entries i x _ small at w.if-is_partly_met_by.ensures c.loop-entry.invariant.1),
      )
      | else-is_crossed_by+else-is_partly_met_by w ↦ (
        rw w.across-is (filter_leaves (crosses low high) entries i x _ small at w.if-is_crossed_by.ensures c.loop-entry.invariant.0),
        rw w.partly-is (filter_leaves (meets_partly low high) entries i x _ small at w.if-is_partly_met_by.ensures c.loop-entry.invariant.1),
      )
    ]

pub returns : goal.returns
returns c = record {
  across = filter_ends _ c.args.entries.now c.loop-entry.entry-index _ c.loop-entry-test.false c.loop-entry.invariant.0;
  partly = filter_ends _ c.args.entries.now c.loop-entry.entry-index _ c.loop-entry-test.false c.loop-entry.invariant.1;
}
