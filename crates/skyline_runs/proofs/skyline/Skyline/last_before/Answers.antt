use Rattle.std.proofs.Common.{arith}
use Rattle.lists.proofs.Words.{ints}
use Rattle.geo_core.specs.declared.plane.Rect.{Rect}
use Rattle.lists.proofs.Sorting.{not_less}
use Rattle.skyline_runs.proofs.Searches.{active_at, compares_less, found, less, nothing_behind}
use Rattle.skyline_runs.proofs.skyline.Skyline.last_before.Goals as goal

pub returns-clause-is_active : goal.returns-clause-is_active
returns-clause-is_active c =
    let entry = (c.range.ensures.in_range tt).3 _ _ c.in_ok-active.ensures.steps in
    active_at c.args.self.now _ c.in_ok-active.active.now c.requires entry.1

pub returns-clause-before : goal.returns-clause-before
returns-clause-before c =
    let entry = (c.range.ensures.in_range tt).3 _ _ c.in_ok-active.ensures.steps in
    let key = c.requires.by_column c.in_ok-active.field-0-0.now c.in_ok-active.active.now entry.1 in
    let before = less c.in_ok-active.field-0-0.now _ entry.0.1 in
    omega (arith, ints, key, before)

pub returns-clause-behind : goal.returns-clause-behind
returns-clause-behind c =
    let entry = (c.range.ensures.in_range tt).3 _ _ c.in_ok-active.ensures.steps in
    let last = (c.range.ensures.in_range tt).4 _ _ c.in_ok-active.ensures.steps in
    let key = c.requires.by_column c.in_ok-active.field-0-0.now c.in_ok-active.active.now entry.1 in
    nothing_behind c.args.self.now c.in_ok-active.active.now c.args.column c.requires (active_at c.args.self.now _ c.in_ok-active.active.now c.requires entry.1)
    (λ (q : Rect) at before.
    let most = not_less c.in_ok-active.field-0-0.now q.x0 (last q.x0 (tt, compares_less q.x0 _ (omega (arith, ints))) (found c.args.self.now q at)) in
    omega (arith, ints, key, most))
