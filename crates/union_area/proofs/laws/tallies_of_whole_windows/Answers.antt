use Rattle.union_area.proofs.laws.PartLaws.{few_tallied, whole_tally}
use Rattle.union_area.proofs.laws.tallies_of_whole_windows.Goals as goal

pub returns-clause-whole : goal.returns-clause-whole
returns-clause-whole g c = whole_tally

pub returns-clause-small : goal.returns-clause-small
returns-clause-small g c = few_tallied
