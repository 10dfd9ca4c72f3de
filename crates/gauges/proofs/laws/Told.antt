-- what gauges have seen and print that have been told rows, some of the rows or none
use Rattle.std.proofs.Common.{ℕ, Result, Ok, Err, OnErr, ◌≡◌, ◌+◌, List, [], ◌∷◌, ◌++◌, length, map, take, drop, refl, sym, ap, ◌∙◌, append_assoc}
use Rattle.std.proofs.lemmas.List.{append-nil, take-append-drop}
use Rattle.std.proofs.Math.Seq.{take-append_seam, take-append-add, take-length}
use Rattle.lists.specs.Words.{AllZip}
use Rattle.gauges.specs.GaugeViews.{GaugeView, IsTold, IsToldPrefix, AreTold, AreToldPrefixes, texts_of, texts_after}

-- ---- one gauge

module _ {Row : Type 0} where
  told_nothing : (gauge : GaugeView Row) → IsTold [] gauge gauge
  told_nothing gauge = record { seen = sym (append-nil gauge.seen); text = refl }

  unchanged : (old new : GaugeView Row) → IsTold [] old new → new ≡ old
  unchanged old new told =
      let with_rows : List Row → GaugeView Row = λ rows. record { seen = rows; text = new.text } in
      let with_text : (List Row → List ℕ) → GaugeView Row = λ text. record { seen = old.seen; text = text } in
      ap with_rows (told.seen ∙ append-nil old.seen) ∙ ap with_text told.text

  told_on : (rows more : List Row) (old mid new : GaugeView Row) → IsTold rows old mid → IsTold more mid new → IsTold (rows ++ more) old new
  told_on rows more old mid new first second = record {
    seen = second.seen ∙ ap (λ seen. seen ++ more) first.seen ∙ append_assoc old.seen rows more;
    text = second.text ∙ first.text;
  }

  -- a gauge that was told all of the rows was told the first few of them
  told_prefix : (rows : List Row) (old new : GaugeView Row) → IsTold rows old new → IsToldPrefix rows old new
  told_prefix rows old new told =
      (length rows, record { seen = told.seen ∙ ap (λ some. old.seen ++ some) (sym (take-length rows)); text = told.text })

  told_prefix_on : (rows more : List Row) (old mid new : GaugeView Row) → IsTold rows old mid → IsToldPrefix more mid new → IsToldPrefix (rows ++ more) old new
  told_prefix_on rows more old mid new first second =
      let on : IsTold (rows ++ take second.0 more) old new = told_on rows (take second.0 more) old mid new first second.1 in
      (length rows + second.0, record { seen = on.seen ∙ ap (λ some. old.seen ++ some) (sym (take-append-add rows more second.0)); text = on.text })

  -- the first few rows are the first few of more rows
  prefix_of_more : (rows more : List Row) (old new : GaugeView Row) → IsToldPrefix rows old new → IsToldPrefix (rows ++ more) old new
  prefix_of_more rows more old new some =
      let part : List Row = take some.0 rows in
      let whole : part ++ (drop some.0 rows ++ more) ≡ rows ++ more =
      sym (append_assoc part (drop some.0 rows) more) ∙ ap (λ l. l ++ more) (take-append-drop some.0 rows) in
      let same : part ≡ take (length part) (rows ++ more) = sym (take-append_seam part (drop some.0 rows ++ more)) ∙ ap (take (length part)) whole in
      (length part, record { seen = some.1.seen ∙ ap (λ l. old.seen ++ l) same; text = some.1.text })

-- ---- many

-- what becomes of each gauge
module _ {Row : Type 0} (R S : GaugeView Row → GaugeView Row → Type 0) (each : (old new : GaugeView Row) → R old new → S old new) where
  of_each : (old new : List (GaugeView Row)) → AllZip R old new → AllZip S old new
  of_each [] [] all = tt
  of_each [] (y ∷ ys) all = absurd all
  of_each (x ∷ xs) [] all = absurd all
  of_each (x ∷ xs) (y ∷ ys) all = (each x y all.0, of_each xs ys all.1)

-- and what becomes of it in two steps
module _ {Row : Type 0} (R S T : GaugeView Row → GaugeView Row → Type 0) (both : (old mid new : GaugeView Row) → R old mid → S mid new → T old new) where
  of_both : (old mid new : List (GaugeView Row)) → AllZip R old mid → AllZip S mid new → AllZip T old new
  of_both [] [] [] first second = tt
  of_both [] [] (z ∷ zs) first second = absurd second
  of_both [] (y ∷ ys) new first second = absurd first
  of_both (x ∷ xs) [] new first second = absurd first
  of_both (x ∷ xs) (y ∷ ys) [] first second = absurd second
  of_both (x ∷ xs) (y ∷ ys) (z ∷ zs) first second = (both x y z first.0 second.0, of_both xs ys zs first.1 second.1)

module _ {Row : Type 0} where
  -- gauges that nobody has told anything
  pub untold : (gauges : List (GaugeView Row)) → AreTold [] gauges gauges
  untold [] = tt
  untold (x ∷ xs) = (told_nothing x, untold xs)

  pub untold_same : (old new : List (GaugeView Row)) → AreTold [] old new → new ≡ old
  untold_same [] [] told = refl
  untold_same [] (y ∷ ys) told = absurd told
  untold_same (x ∷ xs) [] told = absurd told
  untold_same (x ∷ xs) (y ∷ ys) told = ap (λ (g : GaugeView Row). g ∷ ys) (unchanged x y told.0) ∙ ap (λ gs. x ∷ gs) (untold_same xs ys told.1)

  pub untold_prefixes : (rows : List Row) (gauges : List (GaugeView Row)) → AreToldPrefixes rows gauges gauges
  untold_prefixes rows [] = tt
  untold_prefixes rows (x ∷ xs) = ((0, told_nothing x), untold_prefixes rows xs)

  -- gauges that are told rows, and then more
  pub told_more_rows : (rows more : List Row) (old mid new : List (GaugeView Row)) → AreTold rows old mid → AreTold more mid new → AreTold (rows ++ more) old new
  told_more_rows rows more = of_both (IsTold rows) (IsTold more) (IsTold (rows ++ more)) (told_on rows more)

  -- and then perhaps not all of those
  pub told_some_more : (rows more : List Row) (old mid new : List (GaugeView Row)) → AreTold rows old mid → AreToldPrefixes more mid new → AreToldPrefixes (rows ++ more) old new
  told_some_more rows more = of_both (IsTold rows) (IsToldPrefix more) (IsToldPrefix (rows ++ more)) (told_prefix_on rows more)

  -- or none of those
  pub told_some_of_more : (rows more : List Row) (old new : List (GaugeView Row)) → AreToldPrefixes rows old new → AreToldPrefixes (rows ++ more) old new
  told_some_of_more rows more = of_each (IsToldPrefix rows) (IsToldPrefix (rows ++ more)) (prefix_of_more rows more)

  pub told_prefixes : (rows : List Row) (old new : List (GaugeView Row)) → AreTold rows old new → AreToldPrefixes rows old new
  told_prefixes rows = of_each (IsTold rows) (IsToldPrefix rows) (told_prefix rows)

-- ---- what they print

module _ {Row : Type 0} where
  -- what they print follows from what was known of them before
  pub texts_of-told : (rows : List Row) (old new : List (GaugeView Row)) → AreTold rows old new → texts_of new ≡ texts_after rows old
  texts_of-told rows [] [] told = refl
  texts_of-told rows [] (y ∷ ys) told = absurd told
  texts_of-told rows (x ∷ xs) [] told = absurd told
  texts_of-told rows (x ∷ xs) (y ∷ ys) told =
      ap (λ (text : List Row → List ℕ). text y.seen ++ texts_of ys) told.0.text ∙ ap (λ seen. x.text seen ++ texts_of ys) told.0.seen
      ∙ ap (λ texts. x.text (x.seen ++ rows) ++ texts) (texts_of-told rows xs ys told.1)

  -- and bytes that gained what they print now, gained that
  pub texts_gained : {Gauge : Type 0} (view : Gauge → GaugeView Row) (rows : List Row) (old new printed : List Gauge) (before after : List ℕ)
      → AreTold rows (map view old) (map view new) → printed ≡ new → after ≡ before ++ texts_of (map view printed) → after ≡ before ++ texts_after rows (map view old)
  texts_gained view rows old new printed before after told same gained =
      gained ∙ ap (λ gauges. before ++ texts_of (map view gauges)) same ∙ ap (λ text. before ++ text) (texts_of-told rows (map view old) (map view new) told)

  -- each prints for each list of rows what it printed
  pub some_told_keep_texts : (rows : List Row) (old new : List (GaugeView Row)) → AreToldPrefixes rows old new → map (λ (g : GaugeView Row). g.text) new ≡ map (λ (g : GaugeView Row). g.text) old
  some_told_keep_texts rows [] [] told = refl
  some_told_keep_texts rows [] (y ∷ ys) told = absurd told
  some_told_keep_texts rows (x ∷ xs) [] told = absurd told
  some_told_keep_texts rows (x ∷ xs) (y ∷ ys) told =
      ap (λ (text : List Row → List ℕ). text ∷ map (λ (g : GaugeView Row). g.text) ys) told.0.1.text ∙ ap (λ texts. x.text ∷ texts) (some_told_keep_texts rows xs ys told.1)

  pub told_keep_texts : (rows : List Row) (old new : List (GaugeView Row)) → AreTold rows old new → map (λ (g : GaugeView Row). g.text) new ≡ map (λ (g : GaugeView Row). g.text) old
  told_keep_texts rows old new told = some_told_keep_texts rows old new (told_prefixes rows old new told)

-- where there is an error, and anyway
pub on_err : {T E P : Type 0} (r : Result T E) → P → OnErr r P
on_err (Ok v) p = tt
on_err (Err e) p = p
