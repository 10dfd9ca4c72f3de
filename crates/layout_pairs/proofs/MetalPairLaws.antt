-- the pairs of a metal, from its pieces
use Rattle.std.proofs.Common.{ℕ, ◌/◌, ◌<◌, ◌≤◌, List, [], arith, ◌↔◌, length}
use Rattle.lists.proofs.Containing.{Contains-none}
use Rattle.geo_core.specs.declared.plane.Cell.{Cell}
use Rattle.geo_core.specs.declared.plane.Labelled.{Labelled}
use Rattle.geo_core.specs.declared.plane.Rect.{Rect}
use Rattle.fault_model.specs.FaultNames.{Cut, cells_of}
use Rattle.fault_model.proofs.TallyLaws.{Tally-same_all, Tally-some}
use Rattle.net_numbers.specs.FirstCells.{IsNumbered}
use Rattle.net_pairs.specs.Pairs.{ArePairAreas, TouchesBoth}
use Rattle.area_parts.specs.AreaParts.{ArePiecesOf}
use Rattle.layout_pairs.specs.PairAreas.{ArePairsOn, TouchesNets}
use Rattle.layout_pairs.specs.inside.NumberedPairs.{AreCountedPairs, AreNumberedPairs, IsCountedPair}
use Rattle.layout_pairs.proofs.AreaTallies.{area, area_is, listed_area}
use Rattle.layout_nets.proofs.laws.NetStartLaws.{number_below}
use Rattle.layout_nets.proofs.laws.NumberedNets.{NumbersKeepCells}
use Rattle.layout_nets.proofs.laws.PieceNets.{starts_are}
use Rattle.layout_pairs.proofs.TouchingLaws.{touches_is, touches_none}

-- ---- what is counted

-- defects of side 1 touch no two pieces by half of their side
pub none_at_one : (numbered : List Labelled) (side : ℕ) (window : Rect) → side < 2 → ArePairAreas numbered (side / 2) window []
none_at_one numbered side window small = record {
  exact = λ one other count. (
    λ c. absurd (Contains-none c),
    λ is.
        let found = Tally-some (cells_of window) count is.some is.tally in
        absurd (touches_none numbered (side / 2) one found.0 (omega arith) found.2.touches_one),
  );
  rising = λ i j d less small. absurd (omega arith);
}

module _ (side : ℕ) (pieces numbered : List Labelled) (is : IsNumbered pieces numbered) where
  -- the areas over a window are counts of its cells
  pub pairs_over : (window : Rect) (pairs : List (ℕ × ℕ × ℕ)) → ArePairAreas numbered (side / 2) window pairs → AreNumberedPairs side (cells_of window) pieces pairs
  pairs_over window pairs are = record {
    numbered = numbered;
    is_numbered = is;
    counted = λ one other count. (
      λ c. let area = (are.exact one other count).0 c in record { lesser = area.lesser; some = area.some; tally = area.tally },
      λ h. (are.exact one other count).1 (record { lesser = h.lesser; some = h.some; tally = h.tally }),
    );
    rising = are.rising;
  }

  -- without cells there are no pairs
  pub pairs_of_none : AreNumberedPairs side [] pieces []
  pairs_of_none = record {
    numbered = numbered;
    is_numbered = is;
    counted = λ one other count. (
      λ c. absurd (Contains-none c),
      λ h. let found = Tally-some [] count h.some h.tally in absurd (Contains-none found.1),
    );
    rising = λ i j d less small. absurd (omega arith);
  }

-- ---- what it comes to for nets

module _ (covers : ℕ → Cell → Type 0) (cuts : List Cut) (m side : ℕ) (cells : List Cell) (pieces : List Labelled) (pairs : List (ℕ × ℕ × ℕ)) (are : ArePiecesOf covers cuts m pieces) (some : 1 ≤ side)
    (made : AreNumberedPairs side cells pieces pairs) (kept : NumbersKeepCells pieces made.numbered made.is_numbered) where
  abbrev starts : List Cell
  starts = made.is_numbered.cells

  abbrev Touches : ℕ → ℕ → Cell → Type 0
  Touches = TouchesNets covers cuts m side starts

  same : (one other : ℕ) → one < other → (c : Cell) → TouchesBoth made.numbered (side / 2) one other c ↔ Touches one other c
  same one other less = touches_is covers cuts m pieces made.numbered made.is_numbered are kept side some one other (λ e. omega arith)

  same_back : (one other : ℕ) → one < other → (c : Cell) → Touches one other c ↔ TouchesBoth made.numbered (side / 2) one other c
  same_back one other less c = let both = same one other less c in (both.1, both.0)

  by_nets : AreCountedPairs Touches cells pairs
  by_nets one other count = (
    λ c.
        let is = (made.counted one other count).0 c in
        record { lesser = is.lesser; some = is.some; tally = Tally-same_all cells count (same one other is.lesser) is.tally },
    λ h. (made.counted one other count).1 (record { lesser = h.lesser; some = h.some; tally = Tally-same_all cells count (same_back one other h.lesser) h.tally }),
  )

  -- the greater number is that of a net
  below_all : (one other count : ℕ) → IsCountedPair Touches cells one other count → other < length starts
  below_all one other count is =
      let found = Tally-some cells count is.some is.tally in
      number_below covers cuts m starts other found.2.half_of_other found.2.of_other

  pub pairs_are : ArePairsOn covers cuts m side cells pairs
  pairs_are = record {
    starts = starts;
    are_starts = starts_are covers cuts m pieces are starts made.is_numbered.are_first;
    area = area Touches cells pairs by_nets;
    tallies = λ one other less below. area_is Touches cells pairs by_nets one other less;
    exact = λ one other count. let listed = listed_area Touches cells pairs by_nets one other count in (
      λ c. let h = listed.0 c in (h.0, below_all one other count ((by_nets one other count).0 c), h.1, h.2),
      λ h. listed.1 (h.0, h.2, h.3),
    );
    rising = made.rising;
  }
