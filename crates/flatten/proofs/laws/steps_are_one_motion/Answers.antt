use Rattle.flatten.proofs.OneMotion.{one_motion}
use Rattle.flatten.proofs.laws.steps_are_one_motion.Goals as goal

pub returns : goal.returns
returns c = one_motion
