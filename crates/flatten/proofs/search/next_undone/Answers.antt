use Rattle.std.proofs.Common.{◌≡◌, inl, inr, sym, subst, take_all, ◌∙◌, arith, length, Contains}
use Rattle.lists.proofs.Containing.{Contains-take_cases}
use Rattle.flatten.specs.inside.Surveys.{AreDone}
use Rattle.flatten.proofs.search.next_undone.Goals as goal
use Rattle.flatten.proofs.search.next_undone.Goals.{in-Copies+in-Done, in_default}

pub bounds-states-target : goal.bounds-states-target
bounds-states-target c =
    c.requires.below c.in-Copies.reference c.in-Copies.target (subst (Contains c.args.parts.now) c.in-Copies.is (c.loop-place.place, c.loop-place-test.true, sym c.index-parts-place.is))

pub returns-in_default-states : goal.returns-in_default-states
returns-in_default-states c = record {
  none = tt;
  before = c.loop-place.invariant;
  leads = (c.in-Copies.reference, subst (Contains c.args.parts.now) c.in-Copies.is (c.loop-place.place, c.loop-place-test.true, sym c.index-parts-place.is));
  undone = c.in_default-states.not-Done;
}

pub loop-place-preserved : goal.loop-place-preserved
loop-place-preserved c reference target there =
    elim (Contains-take_cases c.args.parts.now c.loop-place.place c.index-parts-place.result _ c.loop-place-test.true there) [
      | inl before ↦ c.loop-place.invariant reference target before
      | inr here ↦ elim c.match-parts-place.branch [
        | in-Copies+in-Done w ↦
            let alike : w.in-Copies.target ≡ target = cc (here, w.in-Copies.is, c.index-parts-place.is) in
            (w.in-Done.field-0, rw alike at w.in-Done.is)
        | in_default w ↦ absurd (w.in_default.not-Copies reference target (c.index-parts-place.is ∙ here))
      ]
    ]

pub returns-clause-none : goal.returns-clause-none
returns-clause-none c =
    let parts = c.args.parts.now in
    subst (AreDone c.args.states.now) (take_all c.loop-place.place parts c.loop-place-test.false ∙ sym (take_all (length parts) parts (omega arith))) c.loop-place.invariant
