use Rattle.remnants.proofs.PlaceLaws.{AreKeptTo}
use Rattle.remnants.proofs.keeping.kept_at.Given as goal

abbrev pub invariant-loop-place : goal.invariant-loop-place
invariant-loop-place l = AreKeptTo l.fixed l.places l.numbers l.place-index l.kept.items
