use Rattle.std.proofs.Common.{[], ◌∷◌}
use Rattle.layer_map.specs.MapChecks.{has_weights}
use Rattle.first_refusal.proofs.AnswerLaws.{out_of_memory}
use Rattle.first_refusal.proofs.JudgeLaws.{fails_first}
use Rattle.layer_map.proofs.EachLaws.{passes_each}
use Rattle.layer_map.proofs.FindLaws.{found, none_stands, stands}
use Rattle.layer_map.proofs.sizes.read_weights.Goals as goal

pub returns-in-None : goal.returns-in-None
returns-in-None c many = fails_first _ _ _ has_weights [] (none_stands (rw (c.in-None.is, many) at c.in_ok-weights.ensures))

pub returns-in-Some : goal.returns-in-Some
returns-in-Some c many =
    let there = found (rw c.in-Some.is at c.in_ok-weights.ensures) in
    passes_each _ (has_weights ∷ []) (stands (rw many at there), tt) (rw c.from_vec.ensures there)

pub returns-in_err-weights : goal.returns-in_err-weights
returns-in_err-weights c many = out_of_memory _ _ c.from_residual.result c.from_residual.ensures.1
