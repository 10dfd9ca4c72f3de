use Rattle.map_model.proofs.NameLaws.{padded}
use Rattle.map_model.proofs.name.LayerName.new.Goals as goal

pub invariant_of-result : goal.invariant_of-result
invariant_of-result c = rw c.copy_from_slice.ensures.after (padded c.args.name.now (c.is_name.ensures.0 c.if-not-is_name.false))
