use Rattle.std.proofs.Common.{ℤ, pos, ◌+ℤ◌, ◌∙◌, ap, inl, refl}
use Rattle.net_pairs.proofs.ChangeMoves.{lower_cells}
use Rattle.net_pairs.proofs.dense.push_lower.Goals as goal

pub returns : goal.returns
returns c =
    let rows = c.rows-rows.ensures in
    let columns = c.columns.ensures in
    let lower = c.lower_rows.ensures in
    let of = c.of-rect.ensures in
    inl (
      _,
      record {
        label = refl;
        weight = refl;
        cells = lower_cells c.args.window c.args.change.rect c.of-rect.result (of.left ∙ columns.low) (of.right ∙ columns.high)
            (ap (λ (y : ℤ). y +ℤ pos 1) of.bottom ∙ lower.low ∙ rows.low) (ap (λ (y : ℤ). y +ℤ pos 1) of.top ∙ lower.high ∙ rows.high);
      },
      c.in_ok-push.ensures.items,
    )
