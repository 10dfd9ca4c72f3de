use Rattle.std.proofs.Common.{[], ◌∷◌, sym}
use Rattle.toml.proofs.Lines.{data_of_table}
use Rattle.toml.specs.Data.{table}
use Rattle.toml.specs.View.{table_view}
use Rattle.layer_map.specs.CutChecks.{ends_differ, of_lower, of_upper}
use Rattle.layer_map.specs.ItemChecks.{reference_checks}
use Rattle.first_refusal.proofs.AnswerLaws.{handed_on}
use Rattle.first_refusal.proofs.JudgeLaws.{fails_first, given}
use Rattle.layer_map.proofs.CutLaws.{one_end, two_ends}
use Rattle.layer_map.proofs.EachLaws.{part_fails, part_holds, passes_each}
use Rattle.layer_map.proofs.FindLaws.{not_some}
use Rattle.layer_map.proofs.cuts.read_ends.Goals as goal

pub returns-in_err-lower-in-Some-clause-judged : goal.returns-in_err-lower-in-Some-clause-judged
returns-in_err-lower-in-Some-clause-judged c items earlier have differ some =
    rw (data_of_table _ _ (sym c.in-Some.ensures)) (handed_on _ _ c.from_residual.result c.in_err-lower-in-Some.field-0.0 c.from_residual.ensures.1
    (part_fails of_lower reference_checks _ (c.in_err-lower-in-Some.ensures items have)))

pub returns-in_err-upper-in-Some-clause-judged : goal.returns-in_err-upper-in-Some-clause-judged
returns-in_err-upper-in-Some-clause-judged c items earlier have differ some =
    rw (data_of_table _ _ (sym c.in-Some.ensures)) (handed_on _ _ c.from_residual-in_err-upper-in-Some.result c.in_err-upper-in-Some.field-0.0 c.from_residual-in_err-upper-in-Some.ensures.1
    (part_holds of_lower reference_checks _ (c.in_ok-lower-in-Some.ensures items have) (part_fails of_upper reference_checks _ (c.in_err-upper-in-Some.ensures items have))))

pub returns-then-lower-upper-clause-judged : goal.returns-then-lower-upper-clause-judged
returns-then-lower-upper-clause-judged c items earlier have differ some =
    let lower = c.in_ok-lower-in-Some.ensures items have in
    let upper = c.in_ok-upper-in-Some.ensures items have in
    rw (data_of_table _ _ (sym c.in-Some.ensures)) (part_holds of_lower reference_checks _ lower (part_holds of_upper reference_checks _ upper
    (fails_first _ _ _ ends_differ [] (λ differ. differ (one_end c.args.metals.now (table (table_view c.in-Some.table.now)) (given lower) (given upper) c.if-lower-upper.true)))))

pub returns-else-lower-upper-clause-judged : goal.returns-else-lower-upper-clause-judged
returns-else-lower-upper-clause-judged c items earlier have differ some =
    let lower = c.in_ok-lower-in-Some.ensures items have in
    let upper = c.in_ok-upper-in-Some.ensures items have in
    let apart = two_ends c.args.metals.now (table (table_view c.in-Some.table.now)) (given lower) (given upper) differ c.if-lower-upper.false in
    rw (data_of_table _ _ (sym c.in-Some.ensures)) (part_holds of_lower reference_checks _ lower (part_holds of_upper reference_checks _ upper
    (passes_each _ (ends_differ ∷ []) (apart, tt) (record { lower = given lower; upper = given upper }))))

pub returns-in-None-clause-judged : goal.returns-in-None-clause-judged
returns-in-None-clause-judged c items earlier have differ some = absurd (not_some _ c.in-None.ensures some)
