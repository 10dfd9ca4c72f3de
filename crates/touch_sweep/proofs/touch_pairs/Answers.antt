use Rattle.touch_sweep.specs.inside.Entries.{IsByRow}
use Rattle.touch_sweep.proofs.PairSteps.{exact_pairs}
use Rattle.touch_sweep.proofs.touch_pairs.Goals as goal

pub search-requires : goal.search-requires
search-requires c =
    let ordered : IsByRow c.as_slice-entries.result.now = rw c.as_slice-entries.ensures.value c.in_ok-entries.ensures.ordered in
    record { points = ordered; spans = ordered }

pub returns-clause-exact : goal.returns-clause-exact
returns-clause-exact c = exact_pairs c.args.rects.now c.as_slice-entries.result.now c.around-strip.result.low c.around-strip.result.high _ _
    (rw c.as_slice-entries.ensures.value c.in_ok-entries.ensures.numbered) c.around-strip.ensures.within (rw c.new-pairs.ensures.items at c.in_ok-search.ensures)
    c.in_order.ensures.same
