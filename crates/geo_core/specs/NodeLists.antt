-- lists of a counting tree's nodes
use Rattle.std.specs.Prelude.{ℕ, pos, List, replicate}
use Rattle.geo_core.specs.declared.counts.Node.{Node}

-- this many nodes that have counted nothing
abbrev pub zeros : ℕ → List Node
zeros n = replicate n (record { count = 0; once = pos 0; twice = pos 0 })
