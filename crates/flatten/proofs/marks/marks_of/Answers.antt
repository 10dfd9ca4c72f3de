use Rattle.std.proofs.Common.{◌≡◌, inl, inr, false, length, sym, ap, subst, ◌∙◌, arith, Contains}
use Rattle.lists.proofs.Words.{cases_lt, length-map, length-replicate}
use Rattle.flatten.specs.Structures.{targets_of}
use Rattle.flatten.specs.inside.Marks.{targets_among}
use Rattle.flatten.proofs.SearchLaws.{as_made}
use Rattle.flatten.proofs.MarkLaws.{all_from, from_all, targets_read}
use Rattle.flatten.proofs.marks.marks_of.Goals as goal
use Rattle.lists.proofs.Reading.{put_back}

pub mark_targets-requires : goal.mark_targets-requires
mark_targets-requires c =
    ap length c.requires ∙ length-map c.args.structures.now (λ structure. structure.name) ∙ sym c.loop-structure.invariant.long ∙ sym (ap length c.deref_mut.ensures.value)

pub loop-structure-preserved : goal.loop-structure-preserved
loop-structure-preserved c =
    let structures = c.args.structures.now in
    let i = c.loop-structure.structure-index in
    let elements = ap (targets_among c.args.index.now) c.as_slice.ensures in
    let targets = targets_read structures i c.structure-item.result c.loop-structure-test.true c.structure-item.is in
    let here : targets_of structures i ≡ targets_among c.args.index.now c.as_slice.result.now = rw (c.requires, c.as_slice.ensures) targets in
    let new = c.mark_targets.new.marks in
    let told = rw c.deref_mut.ensures.value at c.mark_targets.ensures in
    let same = put_back c.loop-structure.marks.len new c.loop-structure.marks.items (sym (c.mark_targets.auto.marks ∙ c.deref_mut.ensures.len)) in
    rw same (record {
      long = c.mark_targets.auto.marks ∙ ap length c.deref_mut.ensures.value ∙ c.loop-structure.invariant.long;
      marked = λ other one h there. elim (cases_lt other i) [
        | inl before ↦ told.kept one (c.loop-structure.invariant.marked other one before there)
        | inr last ↦ let at : other ≡ i = omega arith in told.marked one (subst (λ l. Contains l one) (ap (targets_of structures) at ∙ here) there)
      ];
      only = λ one marked. elim (told.only one marked) [
        | inl before ↦ let from = c.loop-structure.invariant.only one before in (from.0, omega (arith, from.1), from.2)
        | inr last ↦ (i, omega arith, subst (λ l. Contains l one) (sym here) last)
      ];
    })

pub returns-clause-marked : goal.returns-clause-marked
returns-clause-marked c one = (
  (λ marked. let from = c.loop-structure.invariant.only one marked in all_from c.args.structures.now from.0 one (omega (arith, from.1, c.loop-structure-test.false)) from.2),
  (λ there. let from = from_all c.args.structures.now one there in c.loop-structure.invariant.marked from.0 one (omega (arith, from.1, c.loop-structure-test.false)) from.2),
)

pub loop-structure-init : goal.loop-structure-init
loop-structure-init c = rw (c.in_ok-marks.ensures.items_if_clones_equal (λ y e. e)) (record {
  long = length-replicate (length c.args.structures.now) false;
  marked = λ other one h. absurd (omega arith);
  only = λ one marked. let none = as_made (length c.args.structures.now) one false in cc marked;
})
