use Rattle.std.proofs.Common.{◌+◌, arith}
use Rattle.fault_model.proofs.SizeLaws.{swallowed, touched}
use Rattle.critarea_core.proofs.laws.odd_sides_have_whole_cells.Goals as goal

pub returns : goal.returns
returns c k at d touch = (swallowed (k + k + 1) k (omega arith) (omega arith) at d).1 ((touched (k + k + 1) k (omega arith) (omega arith) (omega arith) at d).0 touch)
