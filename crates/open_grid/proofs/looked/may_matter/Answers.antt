use Rattle.std.proofs.Common.{inl, inr, Bool, true, false, not, refl, sym, ◌∙◌, subst, IsTrue, ◌⊎◌, Some, ◌↔◌}
use Rattle.lists.proofs.Words.{false≢true}
use Rattle.half_boxes.specs.HalfBoxes.{LiesWithin}
use Rattle.half_boxes.specs.declared.boxes.HalfBox.{HalfBox}
use Rattle.open_grid.specs.inside.ZoneSteps.{MayNotMatter}
use Rattle.open_grid.proofs.BoxLaws.{far_across, far_up}
use Rattle.open_grid.proofs.looked.may_matter.Goals as goal

by_test : (b : Bool) (one core reach : HalfBox) → IsTrue b ↔ LiesWithin one core → IsTrue (not b) ⊎ MayNotMatter (Some core) reach one
by_test true one core reach tells = inr (inl (tells.0 refl))
by_test false one core reach tells = inl refl

pub returns-then-not-touches : goal.returns-then-not-touches
returns-then-not-touches c = inr (far_across c.args.core c.args.reach c.args.one (λ touch. false≢true (sym c.if-not-touches.true ∙ c.touches.ensures.1 touch)))

pub returns-then-not-touches-2 : goal.returns-then-not-touches-2
returns-then-not-touches-2 c = inr (far_up c.args.core c.args.reach c.args.one (λ touch. false≢true (sym c.if-not-touches-2.true ∙ c.touches-2.ensures.1 touch)))

pub returns-in-Some : goal.returns-in-Some
returns-in-Some c = subst (λ core. IsTrue (not c.is_within.result) ⊎ MayNotMatter core c.args.reach c.args.one) (sym c.in-Some.is)
    (by_test c.is_within.result c.args.one c.in-Some.core c.args.reach c.is_within.ensures)
