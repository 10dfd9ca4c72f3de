use Rattle.std.proofs.Common.{ℕ, [], ◌++◌, ◌≡◌, ◌∙◌, drop, length, sym, subst, take}
use Rattle.first_refusal.specs.Answers.{gives}
use Rattle.first_refusal.specs.Checks.{all_hold}
use Rattle.first_refusal.proofs.AnswerLaws.{handed_on, out_of_memory}
use Rattle.first_refusal.proofs.JudgeLaws.{given, passed, unread}
use Rattle.lists.proofs.Reading.{put_back}
use Rattle.flatten.specs.inside.FollowedParts.{Nodes}
use Rattle.flatten.specs.inside.Prunings.{IsPruned}
use Rattle.flatten.proofs.PlacedLaws.{all_done, still_below, still_there, routes_behind_none}
use Rattle.flatten.proofs.PruningLaws.{pruned_layers}
use Rattle.flatten.proofs.placing.expanded.Goals as goal

pub prune-requires-clause-told : goal.prune-requires-clause-told
prune-requires-clause-told c = rw (c.as_mut_slice.ensures.value, c.as_slice.ensures.value) c.requires.2.planned.settled.are_true

pub prune-requires-clause-done : goal.prune-requires-clause-done
prune-requires-clause-done c = rw (c.as_mut_slice.ensures.value, c.as_slice.ensures.value) (all_done c.args.plan.now c.requires)

-- what is left after pruning is what is read then
pruned : {n : ℕ} {nodes slice new back : Nodes} → slice ≡ nodes → IsPruned slice new → back ≡ take n (new ++ drop (length new) nodes) → length new ≡ n → IsPruned nodes back
pruned {n} {nodes} {slice} {new} read is rest long = rw (rest, put_back n new nodes (sym long)) (subst (λ all. IsPruned all new) read is)

pub expand-requires-clause-followed : goal.expand-requires-clause-followed
expand-requires-clause-followed c = still_below c.args.plan.now c.requires
    (pruned c.as_mut_slice.ensures.value c.prune.ensures c.as_slice-nodes.ensures.value (c.prune.auto.nodes ∙ c.as_mut_slice.ensures.len))

pub expand-requires-clause-there : goal.expand-requires-clause-there
expand-requires-clause-there c = still_there c.args.plan.now c.requires
    (pruned c.as_mut_slice.ensures.value c.prune.ensures c.as_slice-nodes.ensures.value (c.prune.auto.nodes ∙ c.as_mut_slice.ensures.len))

pub returns-in_err-expand : goal.returns-in_err-expand
returns-in_err-expand c =
    let is = pruned c.as_mut_slice.ensures.value c.prune.ensures c.as_slice-nodes.ensures.value (c.prune.auto.nodes ∙ c.as_mut_slice.ensures.len) in
    let told = rw (c.at_top.ensures.left, routes_behind_none c.args.plan.now c.requires is 256) at (c.in_err-expand.ensures [] c.at_top.ensures.moves) in
    handed_on _ _ c.from_residual-in_err-expand.result _ c.from_residual-in_err-expand.ensures.1 (unread _ _ _ _ _ c.in_err-expand.field-0.0 told)

pub returns : goal.returns
returns c =
    let is = pruned c.as_mut_slice.ensures.value c.prune.ensures c.as_slice-nodes.ensures.value (c.prune.auto.nodes ∙ c.as_mut_slice.ensures.len) in
    let told = rw (c.at_top.ensures.left, routes_behind_none c.args.plan.now c.requires is 256, c.in_ok-placed.ensures.items) at (c.in_ok-expand.ensures [] c.at_top.ensures.moves) in
    gives (all_hold (passed told) (λ layer_map have. given told layer_map (pruned_layers c.args.plan.now.nodes.items c.as_slice-nodes.result.now is layer_map have)))

pub returns-in_err-placed : goal.returns-in_err-placed
returns-in_err-placed c = out_of_memory _ _ c.from_residual.result c.from_residual.ensures.1
