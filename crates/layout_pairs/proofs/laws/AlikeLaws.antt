-- what is covered alike has the same pairs of nets
use Rattle.std.proofs.Common.{ℕ, List, [], ◌∷◌, ◌↔◌}
use Rattle.lists.proofs.Words.{AllZip}
use Rattle.geo_core.specs.declared.plane.Cell.{Cell}
use Rattle.geo_core.specs.declared.plane.Half.{Half}
use Rattle.fault_model.specs.FaultNames.{Cut, IsCovered, IsSameNetOn, cells_of_window}
use Rattle.fault_model.proofs.AlikeLaws.{net_more}
use Rattle.fault_model.proofs.TallyLaws.{Tally-same_all}
use Rattle.fault_model.proofs.WindowLaws.{IsWindowOf-same}
use Rattle.map_model.specs.MapNames.{LayerMap, MappedLayer, reach_of, side_by}
use Rattle.questions.specs.Questions.{metal_layers}
use Rattle.net_extract.specs.Cuts.{cuts_of}
use Rattle.gauges.specs.declared.pair_row.PairRow.{PairRow}
use Rattle.layout_nets.specs.NetNumbers.{AreNetStarts, AreOfOneNet, IsNetStart, IsOfNet}
use Rattle.layout_pairs.specs.PairAreas.{ArePairRows, ArePairsOn, TouchesNets}

-- what covers at least as much has at least the same half squares of one net
module _ (one other : ℕ → Cell → Type 0) (more : (m : ℕ) (c : Cell) → one m c → other m c) (cuts : List Cut) (m : ℕ) where
  on_net_more : (p q : Half) → IsSameNetOn one cuts m p q → IsSameNetOn other cuts m p q
  on_net_more p q net = net_more one other more cuts (record { metal = m; half = p }) (record { metal = m; half = q }) net

  one_net_more : (c d : Cell) → AreOfOneNet one cuts m c d → AreOfOneNet other cuts m c d
  one_net_more c d of = record { one = of.one; other = of.other; in_one = of.in_one; in_other = of.in_other; same = on_net_more of.one of.other of.same }

  of_net_more : (starts : List Cell) (number : ℕ) (h : Half) → IsOfNet one cuts m starts number h → IsOfNet other cuts m starts number h
  of_net_more starts number h of =
      record { start = of.start; at = of.at; corner = of.corner; in_start = of.in_start; same = on_net_more of.corner h of.same }

  touches_more : (side : ℕ) (starts : List Cell) (a b : ℕ) (c : Cell) → TouchesNets one cuts m side starts a b c → TouchesNets other cuts m side starts a b c
  touches_more side starts a b c t = record {
    half_of_one = t.half_of_one;
    half_of_other = t.half_of_other;
    of_one = of_net_more starts a t.half_of_one t.of_one;
    of_other = of_net_more starts b t.half_of_other t.of_other;
    one_hit = t.one_hit;
    other_hit = t.other_hit;
  }

-- what covers the same has the same nets and the same pairs
module _ (one other : ℕ → Cell → Type 0) (same : (m : ℕ) (c : Cell) → one m c ↔ other m c) where
  there : (m : ℕ) (c : Cell) → one m c → other m c
  there m c = (same m c).0

  back : (m : ℕ) (c : Cell) → other m c → one m c
  back m c = (same m c).1

  start_follows : (cuts : List Cut) (m : ℕ) (c : Cell) → IsNetStart one cuts m c → IsNetStart other cuts m c
  start_follows cuts m c start = record { covered = there m c start.covered; first = λ d of. start.first d (one_net_more other one back cuts m c d of) }

  start_leads : (cuts : List Cut) (m : ℕ) (c : Cell) → IsNetStart other cuts m c → IsNetStart one cuts m c
  start_leads cuts m c start = record { covered = back m c start.covered; first = λ d of. start.first d (one_net_more one other there cuts m c d of) }

  starts_follow : (cuts : List Cut) (m : ℕ) (starts : List Cell) → AreNetStarts one cuts m starts → AreNetStarts other cuts m starts
  starts_follow cuts m starts are = record {
    rising = are.rising;
    all = λ c. (λ among. start_follows cuts m c ((are.all c).0 among), λ start. (are.all c).1 (start_leads cuts m c start));
  }

  pairs_on_follow : (cuts : List Cut) (m side : ℕ) (cells : List Cell) (pairs : List (ℕ × ℕ × ℕ)) → ArePairsOn one cuts m side cells pairs → ArePairsOn other cuts m side cells pairs
  pairs_on_follow cuts m side cells pairs are = record {
    starts = are.starts;
    are_starts = starts_follow cuts m are.starts are.are_starts;
    area = are.area;
    tallies = λ a b lesser known. Tally-same_all cells (are.area a b)
        (λ c. (touches_more one other there cuts m side are.starts a b c, touches_more other one back cuts m side are.starts a b c)) (are.tallies a b lesser known);
    exact = are.exact;
    rising = are.rising;
  }

  module _ (layer_map : LayerMap) (size : ℕ) where
    each_follows : (cells : List Cell) (metals : List (ℕ × MappedLayer)) (pairs : List (List (ℕ × ℕ × ℕ)))
        → AllZip (λ metal. ArePairsOn one (cuts_of layer_map) metal.0 (side_by layer_map.measure size) cells) metals pairs
        → AllZip (λ metal. ArePairsOn other (cuts_of layer_map) metal.0 (side_by layer_map.measure size) cells) metals pairs
    each_follows cells [] [] h = tt
    each_follows cells [] (p ∷ ps) h = absurd h
    each_follows cells (m ∷ ms) [] h = absurd h
    each_follows cells (m ∷ ms) (p ∷ ps) h = (pairs_on_follow (cuts_of layer_map) m.0 (side_by layer_map.measure size) cells p h.0, each_follows cells ms ps h.1)

    -- what is covered alike has the same rows of pairs
    pairs_follow_on : (rows : List PairRow) → ArePairRows layer_map one size rows → ArePairRows layer_map other size rows
    pairs_follow_on rows are = record {
      window = are.window;
      is_window = IsWindowOf-same (IsCovered one) (IsCovered other) (λ c. (λ v. (v.0, there v.0 c v.1), λ v. (v.0, back v.0 c v.1))) (reach_of layer_map) are.window are.is_window;
      pairs = are.pairs;
      each = each_follows (cells_of_window are.window) (metal_layers layer_map) are.pairs are.each;
      rows_are = are.rows_are;
    }

-- the same, by the map first
pub pairs_follow : (layer_map : LayerMap) (one other : ℕ → Cell → Type 0) → ((m : ℕ) (c : Cell) → one m c ↔ other m c) → (size : ℕ) (rows : List PairRow)
    → ArePairRows layer_map one size rows → ArePairRows layer_map other size rows
pairs_follow layer_map one other same size rows are = pairs_follow_on one other same layer_map size rows are
