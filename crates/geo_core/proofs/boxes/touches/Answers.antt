use Rattle.std.proofs.Common.{refl, inl, inr}
use Rattle.geo_core.proofs.IntervalLaws.{IntervalsTouch-overlap}
use Rattle.geo_core.proofs.RectLaws.{sides_of, touch_by_axis, touch_up, touch_across}
use Rattle.geo_core.proofs.boxes.touches.Goals as goal

pub returns-then-overlaps : goal.returns-then-overlaps
returns-then-overlaps c =
    let a = sides_of c.args.a c.columns-a_columns.result c.rows-a_rows.result c.columns-a_columns.ensures.low c.columns-a_columns.ensures.high c.rows-a_rows.ensures.low c.rows-a_rows.ensures.high in
    let b = sides_of c.args.b c.columns-b_columns.result c.rows-b_rows.result c.columns-b_columns.ensures.low c.columns-b_columns.ensures.high c.rows-b_rows.ensures.low c.rows-b_rows.ensures.high in (
      λ h. touch_up a b (c.if-overlaps.ensures.0 refl) (c.touches.ensures.0 h),
      λ t. c.touches.ensures.1 (elim (touch_by_axis a b t) [ inl k ↦ k.1 | inr k ↦ IntervalsTouch-overlap _ _ _ _ k.1 ]),
    )

pub returns-then-overlaps-2 : goal.returns-then-overlaps-2
returns-then-overlaps-2 c =
    let a = sides_of c.args.a c.columns-a_columns.result c.rows-a_rows.result c.columns-a_columns.ensures.low c.columns-a_columns.ensures.high c.rows-a_rows.ensures.low c.rows-a_rows.ensures.high in
    let b = sides_of c.args.b c.columns-b_columns.result c.rows-b_rows.result c.columns-b_columns.ensures.low c.columns-b_columns.ensures.high c.rows-b_rows.ensures.low c.rows-b_rows.ensures.high in (
      λ h. touch_across a b (c.touches-then-overlaps-2.ensures.0 h) (c.if-overlaps-2.ensures.0 refl),
      λ t. c.touches-then-overlaps-2.ensures.1 (elim (touch_by_axis a b t) [ inl k ↦ absurd (cc (c.if-overlaps.ensures.1 k.0)) | inr k ↦ k.0 ]),
    )

pub returns-else-overlaps-2 : goal.returns-else-overlaps-2
returns-else-overlaps-2 c =
    let a = sides_of c.args.a c.columns-a_columns.result c.rows-a_rows.result c.columns-a_columns.ensures.low c.columns-a_columns.ensures.high c.rows-a_rows.ensures.low c.rows-a_rows.ensures.high in
    let b = sides_of c.args.b c.columns-b_columns.result c.rows-b_rows.result c.columns-b_columns.ensures.low c.columns-b_columns.ensures.high c.rows-b_rows.ensures.low c.rows-b_rows.ensures.high in (
      λ h. absurd (cc h),
      λ t. elim (touch_by_axis a b t) [ inl k ↦ absurd (cc (c.if-overlaps.ensures.1 k.0)) | inr k ↦ absurd (cc (c.if-overlaps-2.ensures.1 k.1)) ],
    )
