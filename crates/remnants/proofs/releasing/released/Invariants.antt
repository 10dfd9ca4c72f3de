use Rattle.std.proofs.Common.{◌++◌, take}
use Rattle.remnants.proofs.ReleaseLaws.{AreReleasedTo}
use Rattle.remnants.proofs.releasing.released.Given as goal

abbrev pub invariant-loop-one : goal.invariant-loop-one
invariant-loop-one l = AreReleasedTo l.listed (l.boxes.by_columns.items ++ l.boxes.by_rows.items) (take l.one-index l.loose) l.released.items
