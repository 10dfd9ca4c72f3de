use Rattle.std.proofs.Common.{[], ◌∷◌, List, ℕ, sym, subst, Contains}
use Rattle.layer_map.specs.LayerChecks.{has_name, has_new_name}
use Rattle.lists.proofs.Mapping.{Contains-map}
use Rattle.layer_map.specs.inside.ReadLayers.{written_name}
use Rattle.first_refusal.proofs.AnswerLaws.{out_of_memory}
use Rattle.first_refusal.proofs.JudgeLaws.{fails_first}
use Rattle.layer_map.proofs.EachLaws.{fails_second, passes_each}
use Rattle.layer_map.proofs.FindLaws.{found, none_stands, stands}
use Rattle.layer_map.proofs.SeenLaws.{name_among}
use Rattle.layer_map.proofs.layer_items.add_name.Goals as goal

pub returns-in-None : goal.returns-in-None
returns-in-None c known earlier seen = fails_first _ _ _ has_name _ (none_stands c.in-None.ensures)

pub returns-then-has_name : goal.returns-then-has_name
returns-then-has_name c known earlier seen =
    let there = found c.in-Some.ensures in
    let among = rw c.deref.ensures.value at (c.has_name.ensures.0 c.if-has_name.true) in
    fails_second _ _ _ has_name has_new_name [] (stands there) (λ new. new (rw (seen, there.written) (Contains-map written_name c.args.names.now.items c.in-Some.name among)))

pub returns-in_ok-push-in-Some : goal.returns-in_ok-push-in-Some
returns-in_ok-push-in-Some c known earlier seen =
    let there = found c.in-Some.ensures in
    let is_new : Contains c.args.names.now.items c.in-Some.name → ⊥ =
    λ among. cc (c.has_name.ensures.1 (subst (λ (names : List (List ℕ)). Contains names c.in-Some.name) (sym c.deref.ensures.value) among), c.if-has_name.false) in
    passes_each _ (has_name ∷ has_new_name ∷ []) (stands there, ((λ h. is_new (name_among c.args.names.now.items c.in-Some.name (rw (seen, there.written) at h))), tt))
    (record { there = there.written; is_new = is_new; added = c.in_ok-push-in-Some.ensures.items })

pub returns-in_err-push-in-Some : goal.returns-in_err-push-in-Some
returns-in_err-push-in-Some c known earlier seen = out_of_memory _ _ c.from_residual.result c.from_residual.ensures.1
