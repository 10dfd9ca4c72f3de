-- areas of an odd side are those of an even neighbour
use Rattle.std.proofs.Common.{ℕ, ◌+◌, ◌/◌, ◌≤◌, ◌≡◌, ◌↔◌, subst, arith, Contains, List}
use Rattle.geo_core.specs.declared.plane.Cell.{Cell}
use Rattle.fault_model.specs.FaultNames.{Cut, IsShort, IsViaBlock, Tally}
use Rattle.fault_model.proofs.FaultLaws.{block_at, short_at}
use Rattle.fault_model.proofs.TallyLaws.{Tally-same_all}
use Rattle.map_model.specs.MapNames.{LayerMap}
use Rattle.net_extract.specs.Cuts.{cuts_of, terminal_cuts_of}
use Rattle.questions.specs.declared.kind.Kind.TheVariants.{Open, Short, Via}
use Rattle.area_parts.specs.FaultKinds.{IsFault}
use Rattle.critarea_core.proofs.laws.OddSideLaws.{vias_open_alike}

-- what holds of the same cells has the same tally
tallies_alike : {P Q : Cell → Type 0} (cells : List Cell) (n : ℕ) → ((c : Cell) → P c ↔ Q c) → Tally P cells n ↔ Tally Q cells n
tallies_alike cells n same = (Tally-same_all cells n same, Tally-same_all cells n (λ c. ((same c).1, (same c).0)))

module _ (layer_map : LayerMap) (covers : ℕ → Cell → Type 0) (cells : List Cell) (number k n : ℕ) where
  pub short_areas : 1 ≤ k → Tally (IsFault layer_map covers Short number (k + k + 1)) cells n ↔ Tally (IsFault layer_map covers Short number (k + k)) cells n
  short_areas some = tallies_alike cells n (λ c.
      let half : (k + k + 1) / 2 + (k + k + 1) / 2 ≡ k + k = omega arith in
      subst (λ s. IsShort covers (cuts_of layer_map) number (k + k + 1) c ↔ IsShort covers (cuts_of layer_map) number s c) half
      (short_at covers (cuts_of layer_map) (k + k + 1) (omega arith) number c))

  pub open_areas : Tally (IsFault layer_map covers Open number (k + k + 1)) cells n ↔ Tally (IsFault layer_map covers Open number (k + k + 2)) cells n
  open_areas = tallies_alike cells n (vias_open_alike covers (terminal_cuts_of layer_map) (λ d. Contains layer_map.terminals (number, d)) number k)

  blocked_alike : (cut : Cut) (c : Cell) → IsViaBlock covers cut (k + k + 1) c ↔ IsViaBlock covers cut (k + k + 2) c
  blocked_alike cut c =
      let half : (k + k + 1 + 1) / 2 + (k + k + 1 + 1) / 2 ≡ k + k + 2 = omega arith in
      subst (λ s. IsViaBlock covers cut (k + k + 1) c ↔ IsViaBlock covers cut s c) half (block_at covers (k + k + 1) (omega arith) cut c)

  pub block_areas : Tally (IsFault layer_map covers Via number (k + k + 1)) cells n ↔ Tally (IsFault layer_map covers Via number (k + k + 2)) cells n
  block_areas = tallies_alike cells n (λ c. (
    λ f. (f.0, f.1, f.2, (blocked_alike f.0 c).0 f.3),
    λ f. (f.0, f.1, f.2, (blocked_alike f.0 c).1 f.3),
  ))
