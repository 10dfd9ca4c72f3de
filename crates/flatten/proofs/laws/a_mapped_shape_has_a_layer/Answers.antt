use Rattle.flatten.proofs.LayerLaws.{is_mapped-is}
use Rattle.flatten.proofs.laws.a_mapped_shape_has_a_layer.Goals as goal

pub returns : goal.returns
returns c = is_mapped-is
