use Rattle.layer_map.proofs.SearchLaws.{NoneBefore}
use Rattle.layer_map.proofs.items.metal_named.Given as goal

abbrev pub invariant-loop-number : goal.invariant-loop-number
invariant-loop-number l = NoneBefore (λ metal. metal.name) l.metals l.name l.number
