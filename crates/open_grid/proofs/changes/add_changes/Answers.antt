use Rattle.std.proofs.Common.{ap, rules, FitsSigned, w32}
use Rattle.lists.proofs.Words.{to_z-of_z}
use Rattle.half_boxes.specs.declared.span.HalfSpan.{HalfSpan}
use Rattle.severing.specs.Changes.{Passes, Reaches}
use Rattle.half_boxes.specs.HalfBoxes.{span_along}
use Rattle.open_grid.proofs.ChangeLaws.{as_read, gains_changes, passing_at, reaching_at}
use Rattle.open_grid.proofs.changes.add_changes.Goals as goal

pub returns : goal.returns
returns c =
    let span = span_along c.args.axis c.args.one in
    let side = c.args.side in
    let low_is = ap (λ (s : HalfSpan). s.low) c.span_along-span.ensures in
    let high_is = ap (λ (s : HalfSpan). s.high) c.span_along-span.ensures in
    let low_fits : FitsSigned w32 c.span_along-span.result.low = search rules in
    let high_fits : FitsSigned w32 c.span_along-span.result.high = search rules in
    let p : FitsSigned w32 c.first_reaching.result = search rules in
    let q : FitsSigned w32 c.first_passing.result = search rules in
    let r : FitsSigned w32 c.first_reaching-2.result = search rules in
    let s : FitsSigned w32 c.first_passing-2.result = search rules in
    gains_changes c.args.axis c.args.zone side c.args.one _ _ _ _ c.args.places.now.items _ _ _ c.add_inside-4.new.places.items
    (as_read (λ e. Reaches e side) span.low _ _ _ _ low_is (to_z-of_z w32 _ low_fits) (to_z-of_z w32 _ p) (reaching_at _ _ side c.first_reaching.ensures))
    (as_read (λ e. Passes e side) span.low _ _ _ _ low_is (to_z-of_z w32 _ low_fits) (to_z-of_z w32 _ q) (passing_at _ _ side c.first_passing.ensures))
    (as_read (λ e. Reaches e side) span.high _ _ _ _ high_is (to_z-of_z w32 _ high_fits) (to_z-of_z w32 _ r) (reaching_at _ _ side c.first_reaching-2.ensures))
    (as_read (λ e. Passes e side) span.high _ _ _ _ high_is (to_z-of_z w32 _ high_fits) (to_z-of_z w32 _ s) (passing_at _ _ side c.first_passing-2.ensures))
    c.in_ok-add_inside.ensures c.in_ok-add_inside-2.ensures c.in_ok-add_inside-3.ensures c.in_ok-add_inside-4.ensures
