use Rattle.std.proofs.Common.{◌∙◌}
use Rattle.touch_sweep.specs.inside.Entries.{IsByRow}
use Rattle.touch_sweep.proofs.AcrossSteps.{is_before, is_behind, exact_across}
use Rattle.touch_sweep.proofs.SearchSteps.{IsByRow-filter}
use Rattle.touch_sweep.proofs.across.touching_across.Goals as goal

pub search-requires : goal.search-requires
search-requires c =
    let ordered : IsByRow c.as_slice-entries.result.now = rw c.as_slice-entries.ensures.value c.in_ok-entries.ensures.ordered in
    record {
      points = IsByRow-filter (is_before c.args.count) c.as_slice-entries.result.now _ (c.as_slice-before.ensures.value ∙ c.in_ok-before.ensures.before) ordered;
      spans = IsByRow-filter (is_behind c.args.count) c.as_slice-entries.result.now _ (c.as_slice-behind.ensures.value ∙ c.in_ok-before.ensures.behind) ordered;
    }

pub search-requires-2 : goal.search-requires-2
search-requires-2 c =
    let ordered : IsByRow c.as_slice-entries.result.now = rw c.as_slice-entries.ensures.value c.in_ok-entries.ensures.ordered in
    record {
      points = IsByRow-filter (is_behind c.args.count) c.as_slice-entries.result.now _ (c.as_slice-behind.ensures.value ∙ c.in_ok-before.ensures.behind) ordered;
      spans = IsByRow-filter (is_before c.args.count) c.as_slice-entries.result.now _ (c.as_slice-before.ensures.value ∙ c.in_ok-before.ensures.before) ordered;
    }

pub returns : goal.returns
returns c = exact_across c.args.rects.now c.args.count c.as_slice-entries.result.now c.as_slice-before.result.now c.as_slice-behind.result.now
    c.around-strip.result.low c.around-strip.result.high (rw c.as_slice-entries.ensures.value c.in_ok-entries.ensures.numbered) c.around-strip.ensures.within
    (c.as_slice-before.ensures.value ∙ c.in_ok-before.ensures.before) (c.as_slice-behind.ensures.value ∙ c.in_ok-before.ensures.behind)
    _ _ (rw c.new-pairs.ensures.items at c.in_ok-search.ensures) c.in_ok-search-2.ensures
