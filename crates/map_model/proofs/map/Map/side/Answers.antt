use Rattle.std.proofs.Common.{◌≡◌, ℕ, ◌<◌, List, get_or, length, subst, sym}
use Rattle.geo_core.specs.Bounds.{IsSide}
use Rattle.map_model.specs.MapNames.{side_by}
use Rattle.map_model.specs.declared.map.Map.{Map}
use Rattle.map_model.proofs.laws.MeasureLaws.{size_is_side}
use Rattle.map_model.proofs.map.Map.side.Goals as goal

-- the size is one of the map
at : (given : Map) (sizes : List ℕ) (k : ℕ) → sizes ≡ given.sizes → k < length given.sizes → IsSide (side_by given.measure (get_or sizes k 0))
at given sizes k read below =
    subst (λ (xs : List ℕ). IsSide (side_by given.measure (get_or xs k 0))) (sym read)
    (size_is_side given.measure (get_or given.sizes k 0) (given.are_sizes.each k 0 below))

pub side-requires : goal.side-requires
side-requires c = record { small = (at c.args.self.now _ c.args.k c.as_slice.ensures c.requires.below).most }

pub returns-clause-within : goal.returns-clause-within
returns-clause-within c = subst IsSide (sym c.side.ensures) (at c.args.self.now _ c.args.k c.as_slice.ensures c.requires.below)
