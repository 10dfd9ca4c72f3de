-- what each refusal of a placement tells of the library, whatever else is wrong with it
use Rattle.std.specs.Prelude.{ℕ, List, [], ◌≡◌, ◌<◌, ◌⊎◌, length, Contains, Option, None, MatchOption}
use Rattle.library_model.specs.Names.{names_of, place_of}
use Rattle.library_model.specs.declared.element.Reference.{Reference}
use Rattle.library_model.specs.declared.library.Structure.{Structure}
use Rattle.map_model.specs.MapNames.{LayerMap}
use Rattle.flatten.specs.Structures.{all_references, offset_of, target_of}
use Rattle.flatten.specs.ReferenceChains.{StartsChain, IsEndless}
use Rattle.flatten.specs.Tops.{IsTop, IsUnnamed}
use Rattle.flatten.specs.Routes.{Route, point_count}
use Rattle.flatten.specs.Placements.{PlacesInRange, placed_routes}
use Rattle.flatten.specs.declared.fault.PlaceFault.{PlaceFault}
use Rattle.flatten.specs.declared.fault.PlaceFault.TheVariants.{UnknownStructure, Cycle, NoTop, ManyTops, TooDeep, TooManyShapes}
use Rattle.flatten.specs.declared.fault.PlaceFault.TheVariants.{OutOfRange, Memory}

-- no reference leads to this structure, and none leads to this earlier one
pub record IsSecondTop (structures : List Structure) (earlier one : ℕ) : Type 0 where
  pub there : one < length structures
  pub unnamed : IsUnnamed structures one
  pub earlier_unnamed : IsUnnamed structures earlier
  pub before : earlier < one

-- a chain from the structure has more than 256 references
pub record IsDeep (structures : List Structure) (top : ℕ) : Type 0 where
  pub references : ℕ
  pub more : 256 < references
  pub chain : StartsChain structures references top

-- what the fault tells, which shows at the offset of a reference, a structure or a shape
abbrev pub Tells : List Structure → LayerMap → Option (List ℕ) → PlaceFault → Type 0
Tells structures layer_map wanted (UnknownStructure at) =
    (reference : Reference) × Contains (all_references structures) reference × (reference.at ≡ at) × (target_of structures reference ≡ None)
Tells structures layer_map wanted (Cycle at) = (one : ℕ) × (one < length structures) × (offset_of structures one ≡ at)
    × IsEndless structures one
Tells structures layer_map wanted NoTop = MatchOption wanted (structures ≡ []) (λ name. place_of (names_of structures) name ≡ None)
Tells structures layer_map wanted (ManyTops at) = (wanted ≡ None) × (earlier : ℕ) × (one : ℕ) × (offset_of structures one ≡ at)
    × IsSecondTop structures earlier one
Tells structures layer_map wanted (TooDeep at) = (top : ℕ) × IsTop structures wanted top × (offset_of structures top ≡ at)
    × IsDeep structures top
Tells structures layer_map wanted (TooManyShapes at) =
    (top : ℕ) × IsTop structures wanted top × (offset_of structures top ≡ at)
    × ((1000000 < length (placed_routes structures layer_map top))
    ⊎ (8000000 < point_count (placed_routes structures layer_map top)))
Tells structures layer_map wanted (OutOfRange at) =
    (top : ℕ) × IsTop structures wanted top
    × (route : Route) × Contains (placed_routes structures layer_map top) route × (route.shape.at ≡ at) × (PlacesInRange route → ⊥)
Tells structures layer_map wanted Memory = ⊥
