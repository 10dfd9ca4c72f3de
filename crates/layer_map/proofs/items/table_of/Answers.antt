use Rattle.std.proofs.Common.{[], refl, sym}
use Rattle.layer_map.specs.ItemChecks.{has_known_keys, is_table, table_checks}
use Rattle.first_refusal.proofs.JudgeLaws.{fails_first}
use Rattle.layer_map.proofs.EachLaws.{fails_second, passes_each}
use Rattle.layer_map.proofs.FindLaws.{not_some}
use Rattle.toml.proofs.Lines.{data_of_table}
use Rattle.layer_map.proofs.items.table_of.Goals as goal

pub returns-in-None : goal.returns-in-None
returns-in-None c = fails_first _ _ _ is_table _ (not_some _ c.in-None.ensures)

pub returns-then-not-has_only : goal.returns-then-not-has_only
returns-then-not-has_only c =
    rw (data_of_table _ _ (sym c.in-Some.ensures)) (fails_second _ _ _ is_table has_known_keys [] refl (λ all. cc (c.has_only.ensures.1 all, c.if-not-has_only.true)))

pub returns-else-not-has_only : goal.returns-else-not-has_only
returns-else-not-has_only c = rw (data_of_table _ _ (sym c.in-Some.ensures)) (passes_each _ table_checks (refl, (c.has_only.ensures.0 c.if-not-has_only.false, tt)) refl)
