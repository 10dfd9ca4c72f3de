use Rattle.half_boxes.proofs.FootprintLaws.{columns_hit, core_has, rows_hit}
use Rattle.half_boxes.proofs.footprints.core_of.Goals as goal

pub returns : goal.returns
returns c h = core_has c.args.zone c.args.side h _
    (rw (c.columns.ensures.low, c.columns.ensures.high) at (c.in_ok-columns.ensures.some h.u)) (rw (c.rows.ensures.low, c.rows.ensures.high) at (c.in_ok-rows.ensures.some h.v))

pub returns-in_err-columns : goal.returns-in_err-columns
returns-in_err-columns c = rw c.from_residual.ensures (λ h. (
  λ k. absurd k,
  λ all. (rw (c.columns.ensures.low, c.columns.ensures.high) at (c.in_err-columns.ensures.none h.u)) (columns_hit c.args.zone c.args.side h all),
))

pub returns-in_err-rows : goal.returns-in_err-rows
returns-in_err-rows c = rw c.from_residual-in_err-rows.ensures (λ h. (
  λ k. absurd k,
  λ all. (rw (c.rows.ensures.low, c.rows.ensures.high) at (c.in_err-rows.ensures.none h.v)) (rows_hit c.args.zone c.args.side h all),
))
