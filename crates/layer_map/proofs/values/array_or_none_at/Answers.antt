use Rattle.std.proofs.Common.{rules}
use Rattle.layer_map.proofs.ValueLaws.{values_in-array}
use Rattle.layer_map.proofs.values.array_or_none_at.Goals as goal

pub returns-in-Some-as_array-clause-items : goal.returns-in-Some-as_array-clause-items
returns-in-Some-as_array-clause-items c = values_in-array _ c.as_slice.result.now (search rules)
