use Rattle.run_laws.proofs.SizeLaws.{pairs_size_is_refused, region_size_is_refused}
use Rattle.run_laws.proofs.StageLaws.{no_size_lacks}
use Rattle.run_laws.proofs.lacking_sizes_are_refused.Goals as goal

pub returns-clause-pairs : goal.returns-clause-pairs
returns-clause-pairs c words request layout map top number sizes contents asks e =
    pairs_size_is_refused words request layout map top contents asks number sizes e

pub returns-clause-regions : goal.returns-clause-regions
returns-clause-regions c words request layout map top kind layer number sizes contents asks e =
    region_size_is_refused words request layout map top contents asks kind layer number sizes e

pub returns-clause-others : goal.returns-clause-others
returns-clause-others c words request contents refusal asks none verdict = no_size_lacks words contents request refusal asks verdict none
