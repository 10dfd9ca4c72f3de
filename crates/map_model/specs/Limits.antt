-- the numbers that a map may have
use Rattle.std.specs.Prelude.{ℕ, ◌≡◌, ◌≤◌, List, length, All}
use Rattle.std.specs.List.Sorted.{IsStrictlyIncreasing}
use Rattle.map_model.specs.Measures.{greatest_size}
use Rattle.map_model.specs.declared.measure.Measure.{Measure}

-- the number is a size by this measure: a radius of 1 to 1,000,000, or a side of 1 to 2,000,000
pub record IsSize (measure : Measure) (size : ℕ) : Type 0 where
  pub least : 1 ≤ size
  pub most : size ≤ greatest_size measure

-- the numbers are the sizes of a map by this measure: 1 to 32 sizes, each greater than the one before
pub record AreSizes (measure : Measure) (sizes : List ℕ) : Type 0 where
  pub some : 1 ≤ length sizes
  pub few : length sizes ≤ 32
  pub each : All (IsSize measure) sizes
  pub rising : IsStrictlyIncreasing sizes

-- the numbers are the weights of so many sizes: as many, each at most 1,000,000,000
pub record AreWeights (count : ℕ) (weights : List ℕ) : Type 0 where
  pub as_many : length weights ≡ count
  pub each : All (λ weight. weight ≤ 1000000000) weights

-- the numbers are a layer and a datatype of GDSII: each at most 65,535
pub record IsPair (pair : ℕ × ℕ) : Type 0 where
  pub layer : pair.0 ≤ 65535
  pub datatype : pair.1 ≤ 65535

-- the pairs are those of one layer of a map: 1 to 16 pairs
pub record ArePairs (pairs : List (ℕ × ℕ)) : Type 0 where
  pub some : 1 ≤ length pairs
  pub few : length pairs ≤ 16
  pub each : All IsPair pairs
