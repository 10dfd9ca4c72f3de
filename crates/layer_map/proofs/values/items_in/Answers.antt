use Rattle.std.proofs.Common.{rules, sym}
use Rattle.layer_map.proofs.ValueLaws.{values_in-array}
use Rattle.layer_map.proofs.values.items_in.Goals as goal

pub returns-in-Some-as_array : goal.returns-in-Some-as_array
returns-in-Some-as_array c = sym (values_in-array _ c.as_slice.result.now (search rules))
