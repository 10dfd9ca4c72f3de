use Rattle.std.proofs.Common.{◌/◌, arith}
use Rattle.fault_model.proofs.SizeLaws.{footprint_near}
use Rattle.fault_model.proofs.sizes.footprints_come_near.Goals as goal

pub returns : goal.returns
returns c rect s at h = footprint_near rect s (s / 2) h (omega arith) (omega arith) at
