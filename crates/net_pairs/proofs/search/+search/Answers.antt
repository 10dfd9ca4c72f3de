use Rattle.std.proofs.Common.{arith, not, ◌∙◌}
use Rattle.lists.proofs.Words.{on_ok_weaker}
use Rattle.net_pairs.specs.declared.weighted.Weighted.{Weighted}
use Rattle.net_pairs.specs.inside.Meetings.{begins_before, meets_partly}
use Rattle.net_pairs.proofs.MeetingLaws.{both_kinds, both_parts, by_row_filter, gains_no_points, gains_two}
use Rattle.net_pairs.proofs.search.+search.Goals as goal

pub sweep-requires : goal.sweep-requires
sweep-requires t c =
    let is = c.as_slice-spans.ensures.value ∙ c.in_ok-spans.ensures.partly in record {
      points = c.requires.points;
      spans = by_row_filter (meets_partly c.in-Some.begins.first c.in-Some.begins.last) c.args.spans.now _ is c.requires.spans;
    }

pub search-requires : goal.search-requires
search-requires t c =
    let is = c.as_slice-spans.ensures.value ∙ c.in_ok-spans.ensures.partly in
    let before_is = c.as_slice.ensures.value ∙ c.in_ok-before.ensures.before in (
      omega arith,
      (
        by_row_filter (begins_before c.middle.result.at) c.args.points.now _ before_is c.requires.points,
        by_row_filter (meets_partly c.in-Some.begins.first c.in-Some.begins.last) c.args.spans.now _ is c.requires.spans,
      ),
    )

pub search-requires-2 : goal.search-requires-2
search-requires-2 t c =
    let is = c.as_slice-spans.ensures.value ∙ c.in_ok-spans.ensures.partly in
    let behind_is = c.as_slice-2.ensures.value ∙ c.in_ok-before.ensures.behind in (
      omega arith,
      (
        by_row_filter (λ (point : Weighted). not (begins_before c.middle.result.at point)) c.args.points.now _ behind_is c.requires.points,
        by_row_filter (meets_partly c.in-Some.begins.first c.in-Some.begins.last) c.args.spans.now _ is c.requires.spans,
      ),
    )

pub returns-in_default : goal.returns-in_default
returns-in_default t c = gains_no_points c.args.window c.args.lesser c.args.points.now c.args.spans.now _ c.in_default.ensures.none

pub returns-then-points-le-FEW : goal.returns-then-points-le-FEW
returns-then-points-le-FEW t c =
    let is = c.as_slice-spans.ensures.value ∙ c.in_ok-spans.ensures.partly in
    on_ok_weaker c.sweep.result (gains_two _ _ _ (both_kinds c.args.window c.args.lesser c.args.points.now c.args.spans.now c.in-Some.begins.first c.in-Some.begins.last c.as_slice-spans.result.now is c.in-Some.ensures.some)
    c.in_ok-spans.ensures.across) c.sweep.ensures

pub returns : goal.returns
returns t c =
    let is = c.as_slice-spans.ensures.value ∙ c.in_ok-spans.ensures.partly in
    let before_is = c.as_slice.ensures.value ∙ c.in_ok-before.ensures.before in
    let behind_is = c.as_slice-2.ensures.value ∙ c.in_ok-before.ensures.behind in
    on_ok_weaker c.search-2.result (λ rest.
    gains_two _ _ _ (both_kinds c.args.window c.args.lesser c.args.points.now c.args.spans.now c.in-Some.begins.first c.in-Some.begins.last c.as_slice-spans.result.now is c.in-Some.ensures.some) c.in_ok-spans.ensures.across
    (gains_two _ _ _ (both_parts c.args.window c.args.lesser c.args.points.now c.as_slice-spans.result.now c.middle.result.at _ _ before_is behind_is) c.in_ok-search.ensures rest))
    c.search-2.ensures
