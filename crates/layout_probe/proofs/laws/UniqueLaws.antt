-- a cell has one probe at most
use Rattle.std.proofs.Common.{ℕ, ◌≡◌, refl, sym, ap, subst, ◌∙◌, arith, inl, inr, Option, Some, None, List}
use Rattle.first_refusal.specs.Laws.{IsUnique}
use Rattle.geo_core.specs.declared.plane.Cell.{Cell}
use Rattle.fault_model.specs.FaultNames.{Cut}
use Rattle.map_model.specs.MapNames.{LayerMap, MappedLayer}
use Rattle.questions.specs.Questions.{metal_layers}
use Rattle.net_extract.specs.Cuts.{cuts_of}
use Rattle.near_index.specs.Nearest.{IsNoLater, found_label}
use Rattle.near_index.specs.declared.nearest.Near.{Near}
use Rattle.near_index.specs.declared.nearest.Nearest.{Nearest}
use Rattle.layout_nets.proofs.laws.BesideLaws.{one_beside}
use Rattle.layout_nets.proofs.laws.StartLaws.{starts_agree}
use Rattle.layout_probe.specs.NearestNets.{AreNearestNets, IsNearestOfNets}
use Rattle.layout_probe.specs.Probe.{IsProbe, IsToldOf}
use Rattle.layout_probe.specs.declared.metal_near.MetalNear.{MetalNear}

same_near : (one other : Near) → IsNoLater one other.distance other.label → IsNoLater other one.distance one.label → one ≡ other
same_near one other (inl p) (inl q) = absurd (omega arith)
same_near one other (inl p) (inr q) = let e = q.0 in absurd (omega arith)
same_near one other (inr p) (inl q) = let e = p.0 in absurd (omega arith)
same_near one other (inr p) (inr q) =
    let at : ℕ → ℕ → Near = λ d n. record { distance = d; label = n } in
    let k = p.1 in
    let m = q.1 in
    let number : one.label ≡ other.label = omega arith in
    ap (λ d. at d one.label) p.0 ∙ ap (at other.distance) number

module _ (covers : ℕ → Cell → Type 0) (cuts : List Cut) (m : ℕ) (c : Cell) where
  module _ (starts : List Cell) where
    same_nearest : (except : Option ℕ) (one other : Option Near) → IsNearestOfNets covers cuts m starts c except one → IsNearestOfNets covers cuts m starts c except other → one ≡ other
    same_nearest except None None p q = refl
    same_nearest except None (Some near) p q = absurd (p near.label q.distance.reached.of_net.half q.other q.distance.reached.of_net.of_net)
    same_nearest except (Some near) None p q = absurd (q near.label p.distance.reached.of_net.half p.other p.distance.reached.of_net.of_net)
    same_nearest except (Some near) (Some other) p q = ap Some (same_near near other (p.first other.distance other.label q.other q.distance) (q.first near.distance near.label p.other p.distance))

  pub nearest_agree : (one other : Nearest) → AreNearestNets covers cuts m c one → AreNearestNets covers cuts m c other → one ≡ other
  nearest_agree one other p q =
      let starts : p.starts ≡ q.starts = starts_agree covers cuts m p.starts q.starts p.are_starts q.are_starts in
      let make : Option Near → Option Near → Nearest = λ f s. record { first = f; second = s } in
      let first : one.first ≡ other.first = same_nearest q.starts None one.first other.first (subst (λ cs. IsNearestOfNets covers cuts m cs c None one.first) starts p.first) q.first in
      let here = subst (λ cs. IsNearestOfNets covers cuts m cs c (found_label one.first) one.second) starts p.second in
      let second : one.second ≡ other.second =
      same_nearest q.starts (found_label other.first) one.second other.second (subst (λ f. IsNearestOfNets covers cuts m q.starts c (found_label f) one.second) first here) q.second in
      ap (λ f. make f one.second) first ∙ ap (make other.first) second

module _ (layer_map : LayerMap) (covers : ℕ → Cell → Type 0) (c : Cell) where
  same_told : (metal : ℕ × MappedLayer) (one other : MetalNear) → IsToldOf layer_map covers c metal one → IsToldOf layer_map covers c metal other → one ≡ other
  same_told metal one other p q =
      let make : List ℕ → Nearest → MetalNear = λ l n. record { layer = l; nearest = n } in
      ap (λ l. make l one.nearest) (p.layer ∙ sym q.layer) ∙ ap (make other.layer) (nearest_agree covers (cuts_of layer_map) metal.0 c one.nearest other.nearest p.nearest q.nearest)

  -- so a cell has one probe
  pub probes_agree : IsUnique (IsProbe layer_map covers c)
  probes_agree one other a b = one_beside (IsToldOf layer_map covers c) same_told (metal_layers layer_map) one other a b
