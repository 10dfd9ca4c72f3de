use Rattle.net_numbers.proofs.NumberLaws.{labels_told}
use Rattle.net_numbers.proofs.laws.numbers_tell_labels.Goals as goal

pub returns : goal.returns
returns c = λ pieces numbered p q own is. labels_told pieces numbered own is p q
