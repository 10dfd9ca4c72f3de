use Rattle.layer_map.proofs.SearchLaws.{NoneBefore}
use Rattle.layer_map.proofs.values.has_text.Given as goal

abbrev pub invariant-loop-other : goal.invariant-loop-other
invariant-loop-other l = NoneBefore (λ text. text.now) l.texts l.text l.other-index
