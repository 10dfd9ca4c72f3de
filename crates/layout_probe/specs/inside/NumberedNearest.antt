-- what is found for a metal from its pieces
use Rattle.std.specs.Prelude.{List, ◌≡◌}
use Rattle.lists.specs.Words.{AllZip}
use Rattle.geo_core.specs.declared.plane.Cell.{Cell}
use Rattle.geo_core.specs.declared.plane.Labelled.{Labelled}
use Rattle.map_model.specs.declared.layers.Metal.{Metal}
use Rattle.near_index.specs.Nearest.{IsNearestTwo}
use Rattle.near_index.specs.declared.nearest.Nearest.{Nearest}
use Rattle.net_numbers.specs.FirstCells.{IsNumbered}
use Rattle.layout_probe.specs.declared.metal_near.MetalNear.{MetalNear}

-- the nearest two of the numbers that the labels of the pieces have by their first cells
pub record AreNearestNumbers (pieces : List Labelled) (c : Cell) (nearest : Nearest) : Type 0 where
  pub numbered : List Labelled
  pub is_numbered : IsNumbered pieces numbered
  pub two : IsNearestTwo numbered c nearest

-- the name of the metal
abbrev pub IsNamedAs : Metal → MetalNear → Type 0
IsNamedAs metal told = told.layer ≡ metal.name

-- for each metal, which has pieces of its own, its name and its nearest two numbers, in order
pub record AreFoundFor (metals : List Metal) (pieces : List (List Labelled)) (c : Cell) (told : List MetalNear) : Type 0 where
  pub named : AllZip IsNamedAs metals told
  pub found : AllZip (λ of_metal item. AreNearestNumbers of_metal c item.nearest) pieces told
