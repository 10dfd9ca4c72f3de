use Rattle.std.proofs.Common.{◌<◌, ◌^◌, ◌∙◌, All, IfOk, Option, sym, subst}
use Rattle.lists.proofs.Words.{IfOk-weaker, eqb-true}
use Rattle.geo_core.specs.declared.plane.Rect.{Rect}
use Rattle.fault_model.specs.FaultNames.{cells_of_window}
use Rattle.area_parts.specs.AskedCounts.{AreCounted}
use Rattle.critical_areas.proofs.CountingLaws.{counted_small, none_counted, nothing_asked}
use Rattle.critical_areas.proofs.counting.amounts.Goals as goal

pub returns-in_default-clause-counted : goal.returns-in_default-clause-counted
returns-in_default-clause-counted g c =
    let parts = c.args.asked.parts.now in
    let questions = c.args.asked.questions.now in
    rw (c.in_default.is, c.in_ok-vec.ensures.items_if_clones_equal (λ y e. e)) (none_counted parts questions)

pub returns-then-is_empty-clause-counted : goal.returns-then-is_empty-clause-counted
returns-then-is_empty-clause-counted g c =
    rw c.new.ensures.items (nothing_asked c.args.asked.parts.now c.args.asked.questions.now (cells_of_window c.args.window) (eqb-true _ _ (sym c.is_empty.ensures ∙ c.if-is_empty.true)))

pub returns-clause-counted : goal.returns-clause-counted
returns-clause-counted g c =
    let asked = c.args.asked in
    subst (λ (w : Option Rect). IfOk c.amounts_over.result (λ amounts. AreCounted asked.parts.now (cells_of_window w) asked.questions.now amounts.items)) (sym c.in-Some.is)
    c.amounts_over.ensures

pub returns-clause-small : goal.returns-clause-small
returns-clause-small g c =
    let asked = c.args.asked in
    IfOk-weaker c.amounts_over.result (λ amounts. AreCounted asked.parts.now (cells_of_window c.args.window) asked.questions.now amounts.items) (λ amounts. All (λ n. n < 2 ^ 63) amounts.items)
    (λ amounts counted. counted_small asked.parts.now asked.questions.now c.args.window amounts.items counted)
    (returns-clause-counted g c)
