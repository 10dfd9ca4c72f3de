-- the sizes of a document: what measures them, which its version says, and what stands at their key
use Rattle.std.specs.Prelude.{ℕ, pos, Bool, true, false, ◌==◌, List, codes, Option, Some}
use Rattle.toml.specs.Data.{Data, Members, integer, get_member}
use Rattle.map_model.specs.declared.measure.Measure.{Measure}
use Rattle.map_model.specs.declared.measure.Measure.TheVariants.{Radius, Side}
use Rattle.layer_map.specs.Values.{version_in}

-- sides where this is so, and else radii
abbrev pub sides_if : Bool → Measure
sides_if true = Side
sides_if false = Radius

-- what measures the sizes where this stands at `version`: sides where it is the whole number 2, and else radii
abbrev pub measured_by : Option Data → Measure
measured_by (Some (integer (pos number))) = sides_if (number == 2)
measured_by _ = Radius

-- what measures the sizes of the document
abbrev pub measure_of : Members → Measure
measure_of document = measured_by (version_in document)

-- the key of sizes that are measured so
abbrev pub sizes_key : Measure → List ℕ
sizes_key Radius = codes "radii"
sizes_key Side = codes "sides"

-- what stands at the key of the document's sizes
abbrev pub sizes_in : Members → Option Data
sizes_in document = get_member (sizes_key (measure_of document)) document
