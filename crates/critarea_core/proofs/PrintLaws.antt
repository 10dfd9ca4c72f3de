-- texts that are due
use Rattle.std.proofs.Common.{ℕ, ◌≡◌, List, [], ◌++◌, map, ap, ◌∙◌, Result, Ok, Err, OnOk, OnErr}
use Rattle.questions.specs.declared.row.Row.{Row}
use Rattle.gauges.specs.GaugeViews.{GaugeView, AreTold, texts_after, texts_of}
use Rattle.gauges.proofs.laws.Told.{texts_gained}
use Rattle.report.specs.Report.{report_text}
use Rattle.critarea_core.specs.Outputs.{whole_report}

-- the text that was written, with what the gauges print once they are told
pub whole_text : {Gauge : Type 0} (view : Gauge → GaugeView Row) (rows : List Row) (old new lent : List Gauge) (none written all : List ℕ) → none ≡ [] → written ≡ none ++ report_text rows
    → AreTold rows (map view old) (map view new) → lent ≡ new → all ≡ written ++ texts_of (map view lent) → all ≡ whole_report rows (map view old)
whole_text view rows old new lent none written all empty is told same gained =
    texts_gained view rows old new lent written all told same gained ∙ ap (λ text. text ++ texts_after rows (map view old)) (is ∙ ap (λ text. text ++ report_text rows) empty)

-- what holds anyhow holds where there is a text
pub on_ok : {T E P : Type 0} (result : Result T E) → P → OnOk result P
on_ok (Ok text) p = p
on_ok (Err why) p = tt

-- what holds where there is a text, or where there is none, and what follows from it
pub on_ok_then : {T E P Q : Type 0} (result : Result T E) → (P → Q) → OnOk result P → OnOk result Q
on_ok_then (Ok text) then p = then p
on_ok_then (Err why) then p = tt

pub on_err_then : {T E P Q : Type 0} (result : Result T E) → (P → Q) → OnErr result P → OnErr result Q
on_err_then (Ok text) then p = tt
on_err_then (Err why) then p = then p
