use Rattle.tile_plan.proofs.laws.SeamLaws.{same_label, same_two_labels}
use Rattle.tile_plan.proofs.laws.near_pieces_decide_labels.Goals as goal

pub returns-clause-labels : goal.returns-clause-labels
returns-clause-labels c = same_label

pub returns-clause-two_labels : goal.returns-clause-two_labels
returns-clause-two_labels c = same_two_labels
