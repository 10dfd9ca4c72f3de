use Rattle.std.proofs.Common.{ℕ, arith, length, refl, subst, ◌+◌, ◌*◌, ◌≤◌, ◌≡◌}
use Rattle.skyline_runs.specs.inside.Skylines.{HaveSides}
use Rattle.skyline_runs.proofs.Looking.{looks_both}
use Rattle.skyline_runs.proofs.TwiceCovering.{gains_common}
use Rattle.skyline_runs.proofs.runs.add_to_both.Goals as goal

pub add_all-requires-clause-level : goal.add_all-requires-clause-level
add_all-requires-clause-level c = rw c.as_slice.ensures.value c.in_ok-parts.ensures.level

pub returns-clause-twice_cells : goal.returns-clause-twice_cells
returns-clause-twice_cells c = gains_common c.args.once.now c.args.twice.now c.add_all.new.self c.args.rect c.as_slice.result.now
    (rw c.as_slice.ensures.value c.in_ok-parts.ensures.cells) c.in_ok-over.ensures.cells

pub returns-clause-twice_sides : goal.returns-clause-twice_sides
returns-clause-twice_sides c = λ xs once twice left right. c.in_ok-over.ensures.sides xs twice
    (rw c.as_slice.ensures.value (c.in_ok-parts.ensures.sides xs once left right))

pub returns-clause-few : goal.returns-clause-few
returns-clause-few c = λ xs once twice left right.
    let sides : HaveSides xs c.as_slice.result.now = rw c.as_slice.ensures.value (c.in_ok-parts.ensures.sides xs once left right) in
    let as_many : length c.as_slice.result.now ≡ length c.in_ok-parts.parts.items = rw c.as_slice.ensures.value refl in
    let first = c.saturating_add.ensures in let second = c.saturating_add-2.ensures in
    looks_both (length xs) (length c.in_ok-parts.parts.items) c.in_ok-parts.met c.in_ok-over.over c.in_ok-looks.looks _
    (c.in_ok-parts.ensures.looks xs once) (c.in_ok-parts.ensures.few xs once)
    (subst (λ (n : ℕ). c.in_ok-over.over ≤ n * (length xs + 1)) as_many (c.in_ok-over.ensures.few xs twice sides))
    (c.in_ok-looks.ensures.few xs once left right) (omega arith)
