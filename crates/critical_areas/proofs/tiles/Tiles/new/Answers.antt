use Rattle.std.proofs.Common.{List, subst}
use Rattle.lists.proofs.Words.{AllZip, IsPermutation}
use Rattle.geo_core.specs.declared.plane.Rect.{Rect}
use Rattle.fault_model.specs.FaultNames.{IslandLists}
use Rattle.critical_areas.specs.declared.apart.Apart.{Apart}
use Rattle.critical_areas.specs.inside.Indexes.{HasItsOpens}
use Rattle.critical_areas.specs.inside.IslandsApart.{AreApart}
use Rattle.critical_areas.proofs.IndexLaws.{are_indexes, no_indexes}
use Rattle.critical_areas.proofs.tiles.Tiles.new.Goals as goal

-- one tile
pub invariant_of-result : goal.invariant_of-result
invariant_of-result c = rw (c.new.ensures.items, c.new-then-count-eq1.ensures.items, c.new-then-count-eq1-2.ensures.items, c.new-then-count-eq1-3.ensures.items) (no_indexes c.args.asked.parts.now c.args.asked.questions.now c.args.plan.window)

-- several
pub invariant_of-result-2 : goal.invariant_of-result-2
invariant_of-result-2 c =
    let asked = c.args.asked in
    let islands = c.in_ok-islands.islands.items in
    are_indexes asked.parts.now asked.questions.now c.args.plan.window islands c.in_ok-opens.opens.items c.in_ok-metals.metals.items c.in_ok-cuts.cuts.items
    (subst (λ (lists : List (List IslandLists)). AllZip AreApart lists islands) c.as_slice.ensures c.in_ok-islands.ensures)
    (subst (λ (apart : List Apart). AllZip (HasItsOpens asked.parts.now apart c.args.plan.window) asked.questions.now c.in_ok-opens.opens.items) c.deref.ensures.value c.in_ok-opens.ensures)
    c.in_ok-metals.ensures
    (subst (λ (lists : List (List Rect)). AllZip IsPermutation lists c.in_ok-cuts.cuts.items) c.as_slice-2.ensures c.in_ok-cuts.ensures)
