-- where a layer is refused that a task names
use Rattle.std.proofs.Common.{ℕ, zero, suc, ◌≤◌, ◌<◌, ◌≡◌, ◌↔◌, arith, List, length, refl, sym, ap, subst, Option, lit≤}
use Rattle.first_refusal.specs.Outcomes.{refused, reads, lacks, stops, goes_on}
use Rattle.command_line.specs.RequestLimits.{IsWithinLimits}
use Rattle.command_line.specs.Requests.{Ask}
use Rattle.command_line.specs.declared.request.Request.{Request}
use Rattle.command_line.specs.declared.task.Task.{Task}
use Rattle.command_line.specs.declared.task.Task.TheVariants.{Regions}
use Rattle.map_model.specs.MapNames.{LayerMap}
use Rattle.questions.specs.declared.kind.Kind.{Kind}
use Rattle.critarea_core.specs.Contents.{Contents}
use Rattle.critarea_core.specs.Inquiries.{IsLayerNamed, IsLayerOfName, RegionComesTo}
use Rattle.run_inputs.specs.declared.query.Query.TheVariants.{Region as for_region}
use Rattle.critarea_core.specs.Refusals.{no_such_layer}
use Rattle.critarea_core.specs.Verdict.{IsVerdict}
use Rattle.run_inputs.specs.declared.refusal.Refusal.{Refusal}
use Rattle.run_laws.specs.ListedSizes.{LacksLayer}
use Rattle.run_laws.proofs.NameLaws.{TaskComesTo, task_outcome}
use Rattle.run_laws.proofs.SizeLaws.{number_within, size_at}
use Rattle.run_laws.proofs.StageLaws.{IsOfLack, no_layout_refuses_so, no_map_refuses_so}

module _ (kind : Kind) (name : List ℕ) where
  -- where no layer is the first of the name there is none of the name
  none_below : (layer_map : LayerMap) → ((number : ℕ) → IsLayerNamed layer_map kind name number → ⊥)
      → (n number : ℕ) → number < n → IsLayerOfName layer_map kind name number → ⊥
  none_below layer_map none zero number below is = absurd (omega (arith, below))
  none_below layer_map none (suc n) number below is =
      none number (record { has_name = is; first = λ other before. none_below layer_map none n other (omega (arith, before, below)) })

  module _ (number : ℕ) (some : 1 ≤ number) where
    abbrev IsLacking : LayerMap → Type 0
    IsLacking layer_map = (number ≤ length layer_map.sizes) × ((layer : ℕ) → IsLayerOfName layer_map kind name layer → ⊥)

    lacking : (layer_map : LayerMap) → IsLacking layer_map → RegionComesTo layer_map kind name number (refused no_such_layer)
    lacking layer_map is =
        let found = size_at layer_map number some is.0 in
        goes_on {v = found.0} (reads found.1) (lacks (λ query are. is.1 are.number are.is_named.has_name))

    lacked : (layer_map : LayerMap) (refusal : Refusal) → refusal ≡ no_such_layer
        → RegionComesTo layer_map kind name number (refused refusal) → IsLacking layer_map
    lacked layer_map refusal e (stops (lacks none)) = let numbers : 48 ≡ 49 = ap (λ (r : Refusal). r.number) e in absurd (omega (arith, numbers))
    lacked layer_map refusal e (goes_on {v = size} (reads numbered) (lacks none)) =
        let never = λ (layer : ℕ) (named : IsLayerNamed layer_map kind name layer).
        none (for_region kind layer size) (record { number = layer; is_named = named; is_asked = refl }) in
        (number_within layer_map number size numbered, λ layer is. none_below layer_map never (suc layer) layer (omega arith) is)

    module _ (layout map_name : List ℕ) (top : Option (List ℕ)) (contents : Contents) where
      abbrev task : Task
      task = Regions layout map_name top kind name number

      refuses : LacksLayer (contents.map map_name) kind name number → TaskComesTo contents task (refused no_such_layer)
      refuses is = goes_on {v = is.layer_map} is.comes (stops (lacking is.layer_map (is.listed, is.lacking)))

      is_lack : (refusal : Refusal) → refusal ≡ no_such_layer → IsOfLack refusal.number
      is_lack refusal e = subst (λ (r : Refusal). IsOfLack r.number) (sym e) (lit≤ tt, lit≤ tt)

      refused_so : (refusal : Refusal) → refusal ≡ no_such_layer → TaskComesTo contents task (refused refusal)
          → LacksLayer (contents.map map_name) kind name number
      refused_so refusal e (stops comes) = absurd (no_map_refuses_so (contents.map map_name) refusal comes (is_lack refusal e))
      refused_so refusal e (goes_on {v = layer_map} comes (stops lack)) =
          let is = lacked layer_map refusal e lack in record { layer_map = layer_map; comes = comes; listed = is.0; lacking = is.1 }
      refused_so refusal e (goes_on comes (goes_on fits of_layout)) = absurd (no_layout_refuses_so _ _ _ _ refusal of_layout (is_lack refusal e))

pub lacking_layer_is_refused : (words : List (List ℕ)) (request : Request) (layout map : List ℕ) (top : Option (List ℕ)) (kind : Kind)
    (layer : List ℕ) (number : ℕ) (contents : Contents) → Ask words request → request.task ≡ Regions layout map top kind layer number
    → IsVerdict words contents (refused no_such_layer) ↔ LacksLayer (contents.map map) kind layer number
lacking_layer_is_refused words request layout map top kind layer number contents asks e =
    let some = (subst IsWithinLimits e request.task_limits).least in
    let verdict = task_outcome words request (Regions layout map top kind layer number) asks e contents (refused no_such_layer) in (
      λ is. refused_so kind layer number some layout map top contents no_such_layer refl (verdict.0 is),
      λ lacks. verdict.1 (refuses kind layer number some layout map top contents lacks),
    )
