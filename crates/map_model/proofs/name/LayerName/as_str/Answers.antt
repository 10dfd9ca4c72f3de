use Rattle.map_model.proofs.NameLaws.{name_is_text}
use Rattle.map_model.proofs.name.LayerName.as_str.Goals as goal

pub returns-in-Err : goal.returns-in-Err
returns-in-Err c = absurd (c.in-Err.ensures.cases.0 (name_is_text c.as_slice.result.now c.as_slice.ensures.valid))
