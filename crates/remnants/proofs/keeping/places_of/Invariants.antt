use Rattle.remnants.proofs.PlaceLaws.{ArePlacesTo}
use Rattle.remnants.proofs.keeping.places_of.Given as goal

abbrev pub invariant-loop-number : goal.invariant-loop-number
invariant-loop-number l = ArePlacesTo l.outer l.fixed l.number l.places.items l.numbers.items
