use Rattle.flatten.proofs.LimitLaws.{top_within}
use Rattle.flatten.proofs.placing.shape_count.Goals as goal

pub bounds : goal.bounds
bounds c = rw c.as_slice-states.ensures.value (top_within c.requires.2)

pub bounds-states-plan : goal.bounds-states-plan
bounds-states-plan c = rw c.as_slice-states.ensures.value (top_within c.requires.2)
