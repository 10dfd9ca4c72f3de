use Rattle.severing.proofs.RemovalLaws.{parted_grows}
use Rattle.severing.proofs.laws.boxes_and_defects_sever.Goals as goal

pub returns-clause-defects : goal.returns-clause-defects
returns-clause-defects c island one s at more = parted_grows more

pub returns-clause-boxes : goal.returns-clause-boxes
returns-clause-boxes c island one s at more = parted_grows more
