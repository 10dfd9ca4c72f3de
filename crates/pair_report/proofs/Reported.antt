-- rows that are reported one after the other
use Rattle.std.proofs.Common.{ℕ, List, [], ◌∷◌, ◌++◌, ◌+◌, ◌<◌, ◌≤◌, ◌≡◌, ap, drop, get_or, length, map, refl, subst, sym, take, take_all, ◌∙◌}
use Rattle.lists.proofs.Reading.{flat_map_next, gained_more}
use Rattle.lists.proofs.Words.{append-nil, flat_map, flat_map-append}
use Rattle.std.proofs.lemmas.List.{take-append-drop}
use Rattle.gauges.specs.GaugeViews.{GaugeView, AreToldPrefixes}
use Rattle.gauges.specs.declared.pair_row.PairRow.{PairRow}
use Rattle.gauges.proofs.laws.Told.{told_more_rows, told_some_more, told_some_of_more, untold}
use Rattle.pair_report.specs.PairReport.{pair_line}
use Rattle.pair_report.specs.inside.Reporting.{AreReported}

pub reported_none : (gauges : List (GaugeView PairRow)) (bytes : List ℕ) → AreReported [] gauges gauges bytes bytes
reported_none gauges bytes = record { told = untold gauges; written = sym (append-nil bytes) }

reported_on : (rows more : List PairRow) (old mid new : List (GaugeView PairRow)) (before between after : List ℕ)
    → AreReported rows old mid before between → AreReported more mid new between after → AreReported (rows ++ more) old new before after
reported_on rows more old mid new before between after first second = record {
  told = told_more_rows rows more old mid new first.told second.told;
  written = gained_more before between after (flat_map pair_line rows) (flat_map pair_line more) (flat_map pair_line (rows ++ more)) first.written second.written
      (sym (flat_map-append pair_line rows more));
}

-- things that stand for rows, of which those before some place were reported
module _ {X : Type 0} (rows_of : X → List PairRow) (xs : List X) (i : ℕ) where
  abbrev so_far : List PairRow
  so_far = flat_map rows_of (take i xs)

  one_more : (x : X) → i < length xs → x ≡ get_or xs i x → so_far ++ rows_of x ≡ flat_map rows_of (take (i + 1) xs)
  one_more x more is = flat_map_next rows_of xs i x so_far (so_far ++ rows_of x) more is refl refl

  -- the rows of the next one are reported
  pub next_reported : (x : X) (old mid new : List (GaugeView PairRow)) (before between after : List ℕ) → i < length xs → x ≡ get_or xs i x
      → AreReported so_far old mid before between → AreReported (rows_of x) mid new between after → AreReported (flat_map rows_of (take (i + 1) xs)) old new before after
  next_reported x old mid new before between after more is first second =
      subst (λ rows. AreReported rows old new before after) (one_more x more is)
      (reported_on so_far (rows_of x) old mid new before between after first second)

  -- one of its rows is refused
  pub next_refused : (all : List X) (x : X) (old mid new : List (GaugeView PairRow)) (before between : List ℕ) → xs ≡ all → i < length xs → x ≡ get_or xs i x
      → AreReported so_far old mid before between → AreToldPrefixes (rows_of x) mid new → AreToldPrefixes (flat_map rows_of all) old new
  next_refused all x old mid new before between same more is first second =
      let rest : List PairRow = flat_map rows_of (drop (i + 1) xs) in
      let whole : (so_far ++ rows_of x) ++ rest ≡ flat_map rows_of xs =
      ap (λ rows. rows ++ rest) (one_more x more is) ∙ sym (flat_map-append rows_of (take (i + 1) xs) (drop (i + 1) xs))
      ∙ ap (flat_map rows_of) (take-append-drop (i + 1) xs) in
      subst (λ l. AreToldPrefixes (flat_map rows_of l) old new) same
      (subst (λ rows. AreToldPrefixes rows old new) whole
      (told_some_of_more (so_far ++ rows_of x) rest old new (told_some_more so_far (rows_of x) old mid new first.told second)))

  -- none is left
  pub all_reported : (old new : List (GaugeView PairRow)) (before after : List ℕ) → length xs ≤ i → AreReported so_far old new before after
      → AreReported (flat_map rows_of xs) old new before after
  all_reported old new before after past done =
      subst (λ l. AreReported (flat_map rows_of l) old new before after) (take_all i xs past) done

-- a row for each thing is the one row of each, one behind the other
pub each_a_row : {X : Type 0} (row_of : X → PairRow) (xs : List X) → flat_map (λ x. row_of x ∷ []) xs ≡ map row_of xs
each_a_row row_of [] = refl
each_a_row row_of (x ∷ xs) = ap (λ rows. row_of x ∷ rows) (each_a_row row_of xs)

-- things that stand for one row each
module _ {X : Type 0} (row_of : X → PairRow) (xs all : List X) (i : ℕ) where
  abbrev row_so_far : List PairRow
  row_so_far = flat_map (λ x. row_of x ∷ []) (take i xs)

  pub next_row_reported : (x : X) (row : PairRow) (old mid new : List (GaugeView PairRow)) (before between after : List ℕ)
      → i < length xs → x ≡ get_or xs i x → row ≡ row_of x → AreReported row_so_far old mid before between → AreReported (row ∷ []) mid new between after
      → AreReported (flat_map (λ y. row_of y ∷ []) (take (i + 1) xs)) old new before after
  next_row_reported x row old mid new before between after more is made first second =
      next_reported (λ y. row_of y ∷ []) xs i x old mid new before between after more is first (subst (λ r. AreReported (r ∷ []) mid new between after) made second)

  pub next_row_refused : (x : X) (row : PairRow) (old mid new : List (GaugeView PairRow)) (before between : List ℕ)
      → xs ≡ all → i < length xs → x ≡ get_or xs i x → row ≡ row_of x → AreReported row_so_far old mid before between → AreToldPrefixes (row ∷ []) mid new
      → AreToldPrefixes (map row_of all) old new
  next_row_refused x row old mid new before between same more is made first second =
      subst (λ rows. AreToldPrefixes rows old new) (each_a_row row_of all)
      (next_refused (λ y. row_of y ∷ []) xs i all x old mid new before between same more is first (subst (λ r. AreToldPrefixes (r ∷ []) mid new) made second))

  pub all_rows_reported : (old new : List (GaugeView PairRow)) (before after : List ℕ) → xs ≡ all → length xs ≤ i → AreReported row_so_far old new before after
      → AreReported (map row_of all) old new before after
  all_rows_reported old new before after same past done =
      subst (λ rows. AreReported rows old new before after) (each_a_row row_of all)
      (subst (λ l. AreReported (flat_map (λ y. row_of y ∷ []) l) old new before after) same (all_reported (λ y. row_of y ∷ []) xs i old new before after past done))
