use Rattle.classes.proofs.ClassLaws.{classes_agree}
use Rattle.classes.proofs.classes_agree.Goals as goal

pub returns : goal.returns
returns c = classes_agree
