use Rattle.std.proofs.Common.{◌∙◌, Some, ap}
use Rattle.layer_map.proofs.ReferenceLaws.{name_there, no_text_there}
use Rattle.layer_map.proofs.layer_items.name_at.Goals as goal

pub returns-in-None : goal.returns-in-None
returns-in-None c = no_text_there _ _ c.in-None.ensures

pub returns-in-Some : goal.returns-in-Some
returns-in-Some c = name_there _ c.as_bytes.result.now c.new.result (ap Some c.as_bytes.ensures.value ∙ c.in-Some.ensures) c.new.ensures.name c.new.ensures.valid
