use Rattle.std.proofs.Common.{string_bytes, All, Contains}
use Rattle.layer_map.specs.inside.ReadValues.{texts_of}
use Rattle.layer_map.proofs.values.has_only.Given as goal

abbrev pub invariant-loop-key : goal.invariant-loop-key
invariant-loop-key l = All (λ key. Contains (texts_of l.known) (string_bytes key.now)) l.yielded
