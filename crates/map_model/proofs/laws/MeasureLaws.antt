-- sizes as sides
use Rattle.std.proofs.Common.{ℕ, arith}
use Rattle.geo_core.specs.Bounds.{IsSide}
use Rattle.map_model.specs.MapNames.{IsSize, side_by}
use Rattle.map_model.specs.declared.measure.Measure.{Measure}
use Rattle.map_model.specs.declared.measure.Measure.TheVariants.{Radius, Side}

pub size_is_side : (measure : Measure) (size : ℕ) → IsSize measure size → IsSide (side_by measure size)
size_is_side Radius size is = let least = is.least in let most = is.most in record { least = omega arith; most = omega arith }
size_is_side Side size is = let least = is.least in let most = is.most in record { least = least; most = most }
