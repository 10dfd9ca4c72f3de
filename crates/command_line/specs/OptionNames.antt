-- the options of the command, their names, and the numbers that they take
use Rattle.std.specs.Prelude.{ℕ, List, Option, Some, None, codes}
use Rattle.command_line.specs.declared.option_name.OptionName.{OptionName}
use Rattle.command_line.specs.declared.option_name.OptionName.TheVariants.{Map, Top, Tile, Workers, Layer, Datatype, Radius, Generate, Pairs, Probe}
use Rattle.command_line.specs.declared.option_name.OptionName.TheVariants.{Regions}
use Rattle.command_line.specs.declared.range.NumberRange.{NumberRange}

-- a text, as its bytes
abbrev pub Text : Type 0
Text = List ℕ

-- the name of the option, as it stands behind two dashes
abbrev pub name_of : OptionName → Text
name_of Map = codes "map"
name_of Top = codes "top"
name_of Tile = codes "tile"
name_of Workers = codes "workers"
name_of Layer = codes "layer"
name_of Datatype = codes "datatype"
name_of Radius = codes "radius"
name_of Generate = codes "generate"
name_of Pairs = codes "pairs"
name_of Probe = codes "probe"
name_of Regions = codes "regions"

-- the numbers that the option takes, where its value is a number
abbrev pub range_of : OptionName → Option NumberRange
range_of Map = None
range_of Top = None
range_of Tile = Some (record { least = 1; most = 1000000000 })
range_of Workers = Some (record { least = 1; most = 64 })
range_of Layer = Some (record { least = 0; most = 65535 })
range_of Datatype = Some (record { least = 0; most = 65535 })
range_of Radius = Some (record { least = 1; most = 1000000 })
range_of Generate = Some (record { least = 1; most = 500 })
range_of Pairs = Some (record { least = 1; most = 32 })
range_of Probe = None
range_of Regions = None
