use Rattle.std.proofs.Common.{take_all}
use Rattle.first_refusal.specs.Answers.{gives}
use Rattle.first_refusal.specs.Checks.{all_hold}
use Rattle.first_refusal.proofs.AnswerLaws.{handed_on, out_of_memory}
use Rattle.first_refusal.proofs.JudgeLaws.{given, passed}
use Rattle.lists.proofs.Words.{All-nil}
use Rattle.flatten.specs.Structures.{references_among}
use Rattle.flatten.specs.inside.FollowedParts.{IsKnown}
use Rattle.flatten.specs.declared.fault.PlaceFault.TheVariants.{UnknownStructure}
use Rattle.flatten.proofs.FirstLaws.{refused_at, hold_at}
use Rattle.flatten.proofs.parts.nodes_of.Goals as goal
use Rattle.lists.proofs.Pairing.{AllZip-more}

pub returns-in_err-parts : goal.returns-in_err-parts
returns-in_err-parts c = handed_on _ _ c.from_residual.result _ c.from_residual.ensures.1
    (refused_at (λ structure. references_among structure.elements) c.args.structures.now c.loop-structure.structure-index c.structure-item.result c.loop-structure-test.true c.structure-item.is
    (IsKnown c.args.index.now) c.loop-structure.invariant.known (λ reference. UnknownStructure reference.at) _ _ c.in_err-parts.field-0.0 c.in_err-parts.ensures)

pub loop-structure-preserved : goal.loop-structure-preserved
loop-structure-preserved c = record {
  nodes = rw c.in_ok-push.ensures.items (AllZip-more _ c.args.structures.now c.loop-structure.nodes.items c.loop-structure.structure-index c.structure-item.result c.in_ok-parts.parts
      c.loop-structure-test.true c.structure-item.is c.loop-structure.invariant.nodes (given c.in_ok-parts.ensures));
  known = hold_at (λ structure. references_among structure.elements) c.args.structures.now c.loop-structure.structure-index c.structure-item.result
      c.loop-structure-test.true c.structure-item.is (IsKnown c.args.index.now) c.loop-structure.invariant.known (passed c.in_ok-parts.ensures);
}

pub loop-structure-init : goal.loop-structure-init
loop-structure-init c = record {
  nodes = rw c.new-nodes.ensures.items tt;
  known = All-nil (IsKnown c.args.index.now);
}

pub returns : goal.returns
returns c =
    let all = take_all c.loop-structure.structure-index c.args.structures.now c.loop-structure-test.false in
    gives (all_hold (rw all at c.loop-structure.invariant.known) (rw all at c.loop-structure.invariant.nodes))

pub returns-in_err-push : goal.returns-in_err-push
returns-in_err-push c = out_of_memory _ _ c.from_residual-in_err-push.result c.from_residual-in_err-push.ensures.1
