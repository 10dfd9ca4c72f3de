use Rattle.net_pairs.specs.inside.Beside.{AreKeptTo}
use Rattle.net_pairs.proofs.beside.beside_others.Given as goal

abbrev pub invariant-loop-zone : goal.invariant-loop-zone
invariant-loop-zone l = AreKeptTo l.zones l.zone-index l.kept.items
