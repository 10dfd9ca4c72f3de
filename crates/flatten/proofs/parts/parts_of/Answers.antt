use Rattle.std.proofs.Common.{take_all}
use Rattle.lists.proofs.Words.{enumerate_from, All-nil, length-enumerate_from}
use Rattle.first_refusal.specs.Answers.{gives}
use Rattle.first_refusal.specs.Checks.{all_hold}
use Rattle.first_refusal.proofs.AnswerLaws.{handed_on, out_of_memory}
use Rattle.first_refusal.proofs.JudgeLaws.{given, passed}
use Rattle.map_model.specs.MapNames.{layer_map_of}
use Rattle.flatten.specs.Structures.{references_in}
use Rattle.flatten.specs.inside.FollowedParts.{IsKnown, no_more}
use Rattle.flatten.specs.declared.fault.PlaceFault.TheVariants.{UnknownStructure}
use Rattle.flatten.proofs.FirstLaws.{refused_at, hold_at}
use Rattle.flatten.proofs.PartLaws.{one_element_more}
use Rattle.flatten.proofs.parts.parts_of.Goals as goal

pub loop-place-init : goal.loop-place-init
loop-place-init c = record {
  parts = rw c.in_ok-parts.ensures.items no_more;
  known = All-nil (IsKnown c.args.index.now);
}

pub returns-in_err-push_part : goal.returns-in_err-push_part
returns-in_err-push_part c =
    let within = rw c.as_slice-elements.ensures at c.loop-place-test.true in
    let is = rw c.as_slice-elements.ensures at c.index-elements-place.is in
    handed_on _ _ c.from_residual-in_err-push_part.result _ c.from_residual-in_err-push_part.ensures.1
    (refused_at references_in c.args.structure.now.elements c.loop-place.place c.index-elements-place.result within is (IsKnown c.args.index.now) c.loop-place.invariant.known
    (λ reference. UnknownStructure reference.at) _ _ c.in_err-push_part.field-0.0 c.in_err-push_part.ensures)

pub loop-place-preserved : goal.loop-place-preserved
loop-place-preserved c =
    let within = rw c.as_slice-elements.ensures at c.loop-place-test.true in
    let is = rw c.as_slice-elements.ensures at c.index-elements-place.is in
    let added = given c.in_ok-push_part.ensures in
    record {
      parts = rw added.1 (one_element_more c.args.index.now (layer_map_of c.args.map.now) c.args.structure.now.elements c.loop-place.place c.index-elements-place.result
          c.loop-place.parts.items added.0 within is c.loop-place.invariant.parts added.2);
      known = hold_at references_in c.args.structure.now.elements c.loop-place.place c.index-elements-place.result within is (IsKnown c.args.index.now) c.loop-place.invariant.known
          (passed c.in_ok-push_part.ensures);
    }

pub returns : goal.returns
returns c =
    let elements = c.args.structure.now.elements in
    let past = rw c.as_slice-elements.ensures at c.loop-place-test.false in
    let numbered = take_all c.loop-place.place (enumerate_from 0 elements) (rw (length-enumerate_from 0 elements) past) in
    gives (all_hold (rw (take_all c.loop-place.place elements past) at c.loop-place.invariant.known) (rw numbered at c.loop-place.invariant.parts))

pub returns-in_err-parts : goal.returns-in_err-parts
returns-in_err-parts c = out_of_memory _ _ c.from_residual.result c.from_residual.ensures.1
