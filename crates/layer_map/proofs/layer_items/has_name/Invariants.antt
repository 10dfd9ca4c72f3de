use Rattle.layer_map.proofs.SearchLaws.{NoneBefore}
use Rattle.layer_map.proofs.layer_items.has_name.Given as goal

abbrev pub invariant-loop-other : goal.invariant-loop-other
invariant-loop-other l = NoneBefore (λ other. other) l.names l.name l.other-index
