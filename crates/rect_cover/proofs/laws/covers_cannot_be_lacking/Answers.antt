use Rattle.rect_cover.proofs.LackLaws.{covers_cannot_lack}
use Rattle.rect_cover.proofs.laws.covers_cannot_be_lacking.Goals as goal

pub returns : goal.returns
returns c = covers_cannot_lack
