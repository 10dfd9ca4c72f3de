-- a tally over a list of cells cannot be lacking
use Rattle.std.proofs.Common.{suc, List, [], ◌∷◌}
use Rattle.first_refusal.specs.Laws.{CannotLack}
use Rattle.fault_model.specs.FaultNames.{Tally, none, hit, miss}
use Rattle.geo_core.specs.declared.plane.Cell.{Cell}

pub tally_cannot_lack : (P : Cell → Type 0) (cells : List Cell) → CannotLack (Tally P cells)
tally_cannot_lack P [] lacks = lacks 0 none
tally_cannot_lack P (c ∷ cs) lacks =
    tally_cannot_lack P cs (λ n tally. let never : P c → ⊥ = λ holds. lacks (suc n) (hit holds tally) in lacks n (miss never tally))
