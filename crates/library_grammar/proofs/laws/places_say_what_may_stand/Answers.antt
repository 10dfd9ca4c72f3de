use Rattle.library_grammar.proofs.laws.Places.{may_stand_where_next}
use Rattle.library_grammar.proofs.laws.places_say_what_may_stand.Goals as goal

pub returns : goal.returns
returns c = may_stand_where_next
