use Rattle.std.proofs.Common.{inl, inr, take, take_all, subst, sym, ◌∙◌, Contains}
use Rattle.lists.proofs.Words.{Contains-append_left, Contains-append_right, Contains-append_cases}
use Rattle.flatten.specs.inside.Marks.{targets_among}
use Rattle.flatten.proofs.GraphLaws.{only_there}
use Rattle.flatten.proofs.MarkLaws.{targets_more, there_of}
use Rattle.flatten.proofs.marks.mark_targets.Goals as goal

pub loop-element-preserved : goal.loop-element-preserved
loop-element-preserved c =
    let names = c.args.index.now in
    let front = targets_among names (take c.loop-element.element-index c.args.elements.now) in
    let more = targets_more names c.args.elements.now c.loop-element.element-index c.element-item.result c.loop-element-test.true c.element-item.is in
    let found = c.target_of.result in
    let value = c.target_of.ensures.value in
    let before = c.loop-element.invariant in
    let told = c.mark.ensures in
    record {
      kept = λ one h. told.kept one (before.kept one h);
      marked = λ one h. elim (Contains-append_cases front _ one (subst (λ l. Contains l one) more h)) [
        | inl earlier ↦ told.kept one (before.marked one earlier)
        | inr last ↦ told.marked one (value ∙ only_there _ one last)
      ];
      only = λ one h. elim (told.only one h) [
        | inl earlier ↦ elim (before.only one earlier) [
          | inl first ↦ inl first
          | inr there ↦ inr (subst (λ l. Contains l one) (sym more) (Contains-append_left front _ one there))
        ]
        | inr same ↦ inr (subst (λ l. Contains l one) (sym more) (Contains-append_right front _ one (there_of _ one (sym value ∙ same))))
      ];
    }

pub returns-clause-marked : goal.returns-clause-marked
returns-clause-marked c = rw (take_all c.loop-element.element-index c.args.elements.now c.loop-element-test.false) at c.loop-element.invariant.marked

pub returns-clause-only : goal.returns-clause-only
returns-clause-only c = rw (take_all c.loop-element.element-index c.args.elements.now c.loop-element-test.false) at c.loop-element.invariant.only
