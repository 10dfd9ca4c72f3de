use Rattle.run_laws.proofs.LayerLaws.{lacking_layer_is_refused}
use Rattle.run_laws.proofs.StageLaws.{no_layer_lacks}
use Rattle.run_laws.proofs.lacking_layers_are_refused.Goals as goal

pub returns-clause-regions : goal.returns-clause-regions
returns-clause-regions c = lacking_layer_is_refused

pub returns-clause-others : goal.returns-clause-others
returns-clause-others c words request contents refusal asks none verdict = no_layer_lacks words contents request refusal asks verdict none
