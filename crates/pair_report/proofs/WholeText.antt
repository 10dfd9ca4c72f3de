-- the lines of rows, how many they are, and what gauges print that were told of them
use Rattle.std.proofs.Common.{ℕ, List, ◌++◌, ◌≡◌, ap, append_assoc, codes, length, map, ◌∙◌}
use Rattle.lists.proofs.Words.{flat_map}
use Rattle.lists.specs.Words.{decimal}
use Rattle.report.specs.Gains.{Gains}
use Rattle.gauges.specs.GaugeViews.{GaugeView, texts_after, texts_of}
use Rattle.gauges.specs.declared.pair_row.PairRow.{PairRow}
use Rattle.gauges.proofs.laws.Told.{texts_gained}
use Rattle.pair_report.specs.PairReport.{pair_line, whole_pair_text}
use Rattle.pair_report.specs.inside.Reporting.{AreReported}

regroup : (a b c d e f : List ℕ) → ((a ++ b) ++ ((c ++ d) ++ e)) ++ f ≡ a ++ ((((b ++ c) ++ d) ++ e) ++ f)
regroup a b c d e f = simp append_assoc

pub whole_text : {Gauge : Type 0} (view : Gauge → GaugeView PairRow) (rows : List PairRow) (count : ℕ) (old new lent : List Gauge) (start lines counted all : List ℕ)
    → AreReported rows (map view old) (map view new) start lines → count ≡ length rows → Gains lines counted (codes "pairs " ++ decimal count ++ codes "\n")
    → lent ≡ new → Gains counted all (texts_of (map view lent)) → Gains start all (whole_pair_text rows (map view old))
whole_text view rows count old new lent start lines counted all reported number counts same printed =
    texts_gained view rows old new lent counted all reported.told same printed
    ∙ ap (λ bytes. bytes ++ texts_after rows (map view old))
    (counts ∙ ap (λ n. lines ++ (codes "pairs " ++ decimal n ++ codes "\n")) number
    ∙ ap (λ bytes. bytes ++ (codes "pairs " ++ decimal (length rows) ++ codes "\n")) reported.written)
    ∙ regroup start (flat_map pair_line rows) (codes "pairs ") (decimal (length rows)) (codes "\n") (texts_after rows (map view old))
