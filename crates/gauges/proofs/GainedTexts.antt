-- bytes that gain the texts of gauges, one after the other
use Rattle.std.proofs.Common.{ℕ, ◌≡◌, ◌<◌, ◌≤◌, ◌+◌, List, [], ◌∷◌, ◌++◌, length, get_or, take, drop, map, sym, ap, ◌∙◌, append_assoc}
use Rattle.std.proofs.lemmas.List.{append-nil, drop_more, take_all, take-append-drop, map-append}
use Rattle.std.proofs.Math.Seq.{take-append_seam}
use Rattle.lists.proofs.Reading.{gained_more, taken_more}
use Rattle.lists.proofs.Words.{flat_map, flat_map-append}
use Rattle.report.specs.Gains.{Gains, GainsPrefix}
use Rattle.gauges.specs.GaugeViews.{GaugeView, text_of, texts_of}

-- the first part of a text behind another one
pub prefix_behind : (old mid new front text rest all : List ℕ) → Gains old mid front → GainsPrefix mid new text → front ++ (text ++ rest) ≡ all → GainsPrefix old new all
prefix_behind old mid new front text rest all gained some whole =
    let part : List ℕ = take some.0 text in
    let left : List ℕ = drop some.0 text ++ rest in
    let parted : (front ++ part) ++ left ≡ all =
    append_assoc front part left ∙ ap (λ l. front ++ l) (sym (append_assoc part (drop some.0 text) rest) ∙ ap (λ l. l ++ rest) (take-append-drop some.0 text)) ∙ whole in (
      length (front ++ part),
      some.1 ∙ ap (λ l. l ++ part) gained ∙ append_assoc old front part
          ∙ ap (λ l. old ++ l) (sym (take-append_seam (front ++ part) left) ∙ ap (take (length (front ++ part))) parted),
    )

-- the texts of all gauges: of those before one, its own, and of those behind it
pub texts_parted : {Gauge Row : Type 0} (view : Gauge → GaugeView Row) (gauges : List Gauge) (i : ℕ) (x : Gauge) → i < length gauges → x ≡ get_or gauges i x
    → texts_of (map view (take i gauges)) ++ (text_of (view x) ++ texts_of (map view (drop (i + 1) gauges))) ≡ texts_of (map view gauges)
texts_parted view gauges i x more is =
    let behind : drop i gauges ≡ x ∷ drop (i + 1) gauges = drop_more gauges i x more ∙ ap (λ y. y ∷ drop (i + 1) gauges) (sym is) in
    sym (flat_map-append text_of (map view (take i gauges)) (map view (x ∷ drop (i + 1) gauges)))
    ∙ ap (flat_map text_of) (sym (map-append view (take i gauges) (x ∷ drop (i + 1) gauges)))
    ∙ ap (λ l. texts_of (map view (take i gauges ++ l))) (sym behind)
    ∙ ap (λ l. texts_of (map view l)) (take-append-drop i gauges)

-- bytes that gained the texts of the gauges before one, and then its own
pub texts_next : {Gauge Row : Type 0} (view : Gauge → GaugeView Row) (gauges : List Gauge) (i : ℕ) (x : Gauge) (old mid new : List ℕ) → i < length gauges → x ≡ get_or gauges i x
    → Gains old mid (texts_of (map view (take i gauges))) → Gains mid new (text_of (view x)) → Gains old new (texts_of (map view (take (i + 1) gauges)))
texts_next view gauges i x old mid new more is before own =
    let front : List ℕ = texts_of (map view (take i gauges)) in
    gained_more old mid new front (text_of (view x)) (texts_of (map view (take (i + 1) gauges))) before own
    (ap (λ l. front ++ l) (sym (append-nil (text_of (view x)))) ∙ sym (flat_map-append text_of (map view (take i gauges)) (view x ∷ []))
    ∙ ap (flat_map text_of) (sym (map-append view (take i gauges) (x ∷ []))) ∙ ap (λ l. texts_of (map view l)) (sym (taken_more gauges i x more is)))

-- and those of all, where none is left
pub texts_whole : {Gauge Row : Type 0} (view : Gauge → GaugeView Row) (gauges : List Gauge) (i : ℕ) (old new : List ℕ) → length gauges ≤ i
    → Gains old new (texts_of (map view (take i gauges))) → Gains old new (texts_of (map view gauges))
texts_whole view gauges i old new all gained = gained ∙ ap (λ l. old ++ texts_of (map view l)) (take_all i gauges all)
