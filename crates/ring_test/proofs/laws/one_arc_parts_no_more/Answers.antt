use Rattle.ring_test.proofs.AnchorLaws.{lost_parts, one_arc_parts, parted_reaches, untouched_parts_none}
use Rattle.ring_test.proofs.laws.one_arc_parts_no_more.Goals as goal

pub returns-clause-untouched : goal.returns-clause-untouched
returns-clause-untouched c island hole anchored untouched severed = untouched_parts_none island anchored hole untouched severed

pub returns-clause-one_arc : goal.returns-clause-one_arc
returns-clause-one_arc c island hole anchored some two arc = (one_arc_parts island anchored hole some arc, lost_parts island hole two)

pub returns-clause-many : goal.returns-clause-many
returns-clause-many c island hole anchored some spared severed = (parted_reaches island anchored hole severed, λ arc. spared (one_arc_parts island anchored hole some arc severed))
