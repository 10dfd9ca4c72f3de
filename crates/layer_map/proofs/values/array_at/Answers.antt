use Rattle.layer_map.proofs.values.array_at.Goals as goal

pub returns-clause-array : goal.returns-clause-array
returns-clause-array c = rw c.value_at.ensures at c.array_in.ensures.array

pub returns-clause-refused : goal.returns-clause-refused
returns-clause-refused c = rw c.value_at.ensures at c.array_in.ensures.refused
