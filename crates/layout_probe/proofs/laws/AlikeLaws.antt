-- what is covered alike has the same probe of each cell
use Rattle.std.proofs.Common.{ℕ, List, Option, None, Some, [], ◌∷◌, ◌↔◌}
use Rattle.lists.proofs.Words.{AllZip}
use Rattle.geo_core.specs.declared.plane.Cell.{Cell}
use Rattle.geo_core.specs.declared.plane.Half.{Half}
use Rattle.fault_model.specs.FaultNames.{Cut, IsSameNetOn}
use Rattle.fault_model.proofs.AlikeLaws.{IsOn-alike, net_more}
use Rattle.map_model.specs.MapNames.{LayerMap, MappedLayer}
use Rattle.questions.specs.Questions.{metal_layers}
use Rattle.net_extract.specs.Cuts.{cuts_of}
use Rattle.near_index.specs.Nearest.{found_label}
use Rattle.near_index.specs.declared.nearest.Near.{Near}
use Rattle.near_index.specs.declared.nearest.Nearest.{Nearest}
use Rattle.layout_nets.specs.NetNumbers.{AreNetStarts, AreOfOneNet, IsNetStart, IsOfNet}
use Rattle.layout_probe.specs.NearestNets.{AreNearestNets, HasNetWithin, IsNearestOfNets, IsNetDistance}
use Rattle.layout_probe.specs.Probe.{IsProbe, IsToldOf}
use Rattle.layout_probe.specs.declared.metal_near.MetalNear.{MetalNear}

-- what covers at least as much has at least the same half squares of one net
module _ (one other : ℕ → Cell → Type 0) (more : (m : ℕ) (c : Cell) → one m c → other m c) (cuts : List Cut) (m : ℕ) where
  on_net_more : (p q : Half) → IsSameNetOn one cuts m p q → IsSameNetOn other cuts m p q
  on_net_more p q net = net_more one other more cuts (record { metal = m; half = p }) (record { metal = m; half = q }) net

  one_net_more : (c d : Cell) → AreOfOneNet one cuts m c d → AreOfOneNet other cuts m c d
  one_net_more c d of = record { one = of.one; other = of.other; in_one = of.in_one; in_other = of.in_other; same = on_net_more of.one of.other of.same }

  of_net_more : (starts : List Cell) (number : ℕ) (h : Half) → IsOfNet one cuts m starts number h → IsOfNet other cuts m starts number h
  of_net_more starts number h of = record { start = of.start; at = of.at; corner = of.corner; in_start = of.in_start; same = on_net_more of.corner h of.same }

  within_more : (starts : List Cell) (c : Cell) (by number : ℕ) → HasNetWithin one cuts m starts c by number → HasNetWithin other cuts m starts c by number
  within_more starts c by number has = record {
    cell = has.cell;
    of_net = record { half = has.of_net.half; lies = has.of_net.lies; of_net = of_net_more starts number has.of_net.half has.of_net.of_net };
    near = has.near;
  }

-- what covers the same has the same nets and the same distances
module _ (one other : ℕ → Cell → Type 0) (there : (m : ℕ) (c : Cell) → one m c → other m c) (back : (m : ℕ) (c : Cell) → other m c → one m c) (cuts : List Cut) (m : ℕ) where
  start_follows : (c : Cell) → IsNetStart one cuts m c → IsNetStart other cuts m c
  start_follows c start = record { covered = there m c start.covered; first = λ d of. start.first d (one_net_more other one back cuts m c d of) }

  distance_follows : (starts : List Cell) (c : Cell) (distance number : ℕ) → IsNetDistance one cuts m starts c distance number → IsNetDistance other cuts m starts c distance number
  distance_follows starts c distance number is = record {
    reached = within_more one other there cuts m starts c distance number is.reached;
    least = λ less small has. is.least less small (within_more other one back cuts m starts c less number has);
  }

module _ (one other : ℕ → Cell → Type 0) (same : (m : ℕ) (c : Cell) → one m c ↔ other m c) (cuts : List Cut) (m : ℕ) where
  there : (n : ℕ) (c : Cell) → one n c → other n c
  there n c = (same n c).0

  back : (n : ℕ) (c : Cell) → other n c → one n c
  back n c = (same n c).1

  starts_follow : (starts : List Cell) → AreNetStarts one cuts m starts → AreNetStarts other cuts m starts
  starts_follow starts are = record {
    rising = are.rising;
    all = λ c. (λ among. start_follows one other there back cuts m c ((are.all c).0 among), λ start. (are.all c).1 (start_follows other one back there cuts m c start));
  }

  nearest_of_follows : (starts : List Cell) (c : Cell) (except : Option ℕ) (near : Option Near) → IsNearestOfNets one cuts m starts c except near
      → IsNearestOfNets other cuts m starts c except near
  nearest_of_follows starts c except None none = λ number h apart of. none number h apart (of_net_more other one back cuts m starts number h of)
  nearest_of_follows starts c except (Some near) is = record {
    other = is.other;
    distance = distance_follows one other there back cuts m starts c near.distance near.label is.distance;
    first = λ distance number apart at. is.first distance number apart (distance_follows other one back there cuts m starts c distance number at);
  }

  pub nearest_follow : (c : Cell) (nearest : Nearest) → AreNearestNets one cuts m c nearest → AreNearestNets other cuts m c nearest
  nearest_follow c nearest are = record {
    starts = are.starts;
    are_starts = starts_follow are.starts are.are_starts;
    all_numbered = λ h on. let found = are.all_numbered h (IsOn-alike (back m) h on) in (found.0, of_net_more one other there cuts m are.starts found.0 h found.1);
    first = nearest_of_follows are.starts c None nearest.first are.first;
    second = nearest_of_follows are.starts c (found_label nearest.first) nearest.second are.second;
  }

module _ (one other : ℕ → Cell → Type 0) (same : (m : ℕ) (c : Cell) → one m c ↔ other m c) (layer_map : LayerMap) (c : Cell) where
  each_follows : (metals : List (ℕ × MappedLayer)) (told : List MetalNear) → AllZip (IsToldOf layer_map one c) metals told → AllZip (IsToldOf layer_map other c) metals told
  each_follows [] [] h = tt
  each_follows [] (item ∷ told) h = absurd h
  each_follows (metal ∷ metals) [] h = absurd h
  each_follows (metal ∷ metals) (item ∷ told) h =
      (record { layer = h.0.layer; nearest = nearest_follow one other same (cuts_of layer_map) metal.0 c item.nearest h.0.nearest }, each_follows metals told h.1)

  pub probes_follow : (told : List MetalNear) → IsProbe layer_map one c told → IsProbe layer_map other c told
  probes_follow told are = each_follows (metal_layers layer_map) told are
