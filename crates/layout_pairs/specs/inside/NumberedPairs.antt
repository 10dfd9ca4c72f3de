-- what is counted for a metal from its pieces
use Rattle.std.specs.Prelude.{ℕ, List, AllPairs, Contains, ◌≡◌, ◌<◌, ◌/◌, ◌↔◌}
use Rattle.lists.specs.Words.{AllZip}
use Rattle.geo_core.specs.declared.plane.Cell.{Cell}
use Rattle.geo_core.specs.declared.plane.Labelled.{Labelled}
use Rattle.fault_model.specs.FaultNames.{Tally}
use Rattle.map_model.specs.declared.layers.Metal.{Metal}
use Rattle.net_numbers.specs.FirstCells.{IsNumbered}
use Rattle.net_pairs.specs.Pairs.{IsBefore, TouchesBoth}
use Rattle.pair_report.specs.declared.tables.MetalPairs.{MetalPairs}

-- the lesser of the two numbers comes first, and so many of the cells, of which there is one, are of both
pub record IsCountedPair (IsOfBoth : ℕ → ℕ → Cell → Type 0) (cells : List Cell) (one other count : ℕ) : Type 0 where
  pub lesser : one < other
  pub some : 0 < count
  pub tally : Tally (IsOfBoth one other) cells count

-- the list has each two numbers with the count of their cells, and nothing else
abbrev pub AreCountedPairs : (ℕ → ℕ → Cell → Type 0) → List Cell → List (ℕ × ℕ × ℕ) → Type 0
AreCountedPairs IsOfBoth cells pairs =
    (one other count : ℕ) → Contains pairs (one, other, count) ↔ IsCountedPair IsOfBoth cells one other count

-- the pairs of a metal, in their order: at how many of the cells a defect touches pieces of two numbers, which the labels of the
-- pieces have by their first cells
pub record AreNumberedPairs (side : ℕ) (cells : List Cell) (pieces : List Labelled) (pairs : List (ℕ × ℕ × ℕ)) : Type 0 where
  pub numbered : List Labelled
  pub is_numbered : IsNumbered pieces numbered
  pub counted : AreCountedPairs (TouchesBoth numbered (side / 2)) cells pairs
  pub rising : AllPairs IsBefore pairs

-- the name of the metal
abbrev pub IsNamedAs : Metal → MetalPairs → Type 0
IsNamedAs metal made = made.layer ≡ metal.name

-- for each metal, which has pieces of its own, its name and its pairs, in order
pub record AreMadeFor (metals : List Metal) (pieces : List (List Labelled)) (side : ℕ) (cells : List Cell) (made : List MetalPairs) : Type 0 where
  pub named : AllZip IsNamedAs metals made
  pub paired : AllZip (λ of_metal item. AreNumberedPairs side cells of_metal item.pairs) pieces made
