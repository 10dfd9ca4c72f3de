use Rattle.std.proofs.Common.{inl, inr, ap, ◌∙◌}
use Rattle.flatten.specs.inside.Surveys.{state_of}
use Rattle.flatten.proofs.LimitLaws.{at_offset, top_within, size_kept, deep_refused, large_refused}
use Rattle.flatten.proofs.size.check_size.Goals as goal

pub bounds-states-plan : goal.bounds-states-plan
bounds-states-plan c = rw c.as_slice-states.ensures.value (top_within c.requires.1)

pub bounds : goal.bounds
bounds c = rw c.as_slice-states.ensures.value (top_within c.requires.1)

pub returns-then-summary-gt-MOST_STEPS-clause-refused : goal.returns-then-summary-gt-MOST_STEPS-clause-refused
returns-then-summary-gt-MOST_STEPS-clause-refused c layer_map of =
    let done = rw c.as_slice-states.ensures.value at c.in-Done.is in
    let begins = at_offset c.args.structures.now c.args.plan.now.top c.index-structures-plan.result of.planned.chosen.0 in
    deep_refused of done _ begins c.if-summary-gt-MOST_STEPS.true

pub returns-then-summary-gt-MOST_SHAPES-clause-refused : goal.returns-then-summary-gt-MOST_SHAPES-clause-refused
returns-then-summary-gt-MOST_SHAPES-clause-refused c layer_map of =
    let done = rw c.as_slice-states.ensures.value at c.in-Done.is in
    let begins = at_offset c.args.structures.now c.args.plan.now.top c.index-structures-plan.result of.planned.chosen.0 in
    large_refused of done _ begins c.if-summary-gt-MOST_STEPS.false (inl c.if-summary-gt-MOST_SHAPES.true)

pub returns-then-summary-gt-MOST_POINTS-clause-refused : goal.returns-then-summary-gt-MOST_POINTS-clause-refused
returns-then-summary-gt-MOST_POINTS-clause-refused c layer_map of =
    let done = rw c.as_slice-states.ensures.value at c.in-Done.is in
    let begins = at_offset c.args.structures.now c.args.plan.now.top c.index-structures-plan.result of.planned.chosen.0 in
    large_refused of done _ begins c.if-summary-gt-MOST_STEPS.false (inr c.if-summary-gt-MOST_POINTS.true)

pub returns-else-summary-gt-MOST_POINTS-clause-kept : goal.returns-else-summary-gt-MOST_POINTS-clause-kept
returns-else-summary-gt-MOST_POINTS-clause-kept c layer_map of =
    let done = rw c.as_slice-states.ensures.value at c.in-Done.is in
    size_kept of done c.if-summary-gt-MOST_STEPS.false c.if-summary-gt-MOST_SHAPES.false c.if-summary-gt-MOST_POINTS.false

pub returns-in_default : goal.returns-in_default
returns-in_default c =
    let plan = c.requires.1.planned in
    let done = plan.done c.args.plan.now.top plan.chosen.0 in
    let same = c.as_slice-states.ensures.value in
    absurd (c.in_default.not-Done done.0 (ap (λ states. state_of states c.args.plan.now.top) same ∙ done.1))
