-- what gauges have been told, one after the other
use Rattle.std.proofs.Common.{ℕ, zero, suc, ◌≡◌, ◌<◌, ◌≤◌, ◌+◌, List, [], ◌∷◌, ◌++◌, length, get_or, take, drop, map, set, refl, sym, ap, ◌∙◌, subst, arith, add-one}
use Rattle.std.proofs.lemmas.List.{take_more_set, drop-set-lt, take_all, drop_all, drop_more, take-append-drop, append-nil, map-append, drop-set, take-set}
use Rattle.lists.proofs.Pairing.{AllZip-append, AllZip-push}
use Rattle.gauges.specs.GaugeViews.{GaugeView, IsTold, IsToldPrefix, AreTold, AreToldPrefixes}
use Rattle.gauges.proofs.laws.Told.{told_prefixes, untold_prefixes}

-- a gauge has been told so many of the rows, from the first one on
abbrev pub IsToldSome : {Gauge Row : Type 0} → (Gauge → GaugeView Row) → List Row → ℕ → Gauge → Gauge → Type 0
IsToldSome view rows count old new = IsTold (take count rows) (view old) (view new)

-- the gauges below a number have been told the rows, and the others are as they were
pub record AreToldBelow {Gauge Row : Type 0} (view : Gauge → GaugeView Row) (rows : List Row) (old new : List Gauge) (count : ℕ) : Type 0 where
  pub told : AreTold rows (map view (take count old)) (map view (take count new))
  pub others : drop count new ≡ drop count old

module _ {A : Type 0} where
  -- the item at a number, and the items behind it
  take_next : (items rest : List A) (i : ℕ) (x : A) → drop i items ≡ x ∷ rest → take (suc i) items ≡ take i items ++ x ∷ []
  take_next [] rest zero x e = cc e
  take_next (y ∷ items) rest zero x e = let same : y ≡ x = cc e in ap (λ (z : A). z ∷ []) same
  take_next [] rest (suc i) x e = cc e
  take_next (y ∷ items) rest (suc i) x e = ap (λ (l : List A). y ∷ l) (take_next items rest i x e)

  drop_next : (items rest : List A) (i : ℕ) (x : A) → drop i items ≡ x ∷ rest → drop (suc i) items ≡ rest
  drop_next [] rest zero x e = cc e
  drop_next (y ∷ items) rest zero x e = cc e
  drop_next [] rest (suc i) x e = cc e
  drop_next (y ∷ items) rest (suc i) x e = drop_next items rest i x e

module _ {Gauge Row : Type 0} (view : Gauge → GaugeView Row) (rows : List Row) where
  pub told_none : (gauges : List Gauge) → AreToldBelow view rows gauges gauges 0
  told_none gauges = record { told = tt; others = refl }

  -- each of them was told the rows
  pub told_all : (old new : List Gauge) (count : ℕ) → length new ≤ count → AreToldBelow view rows old new count → AreTold rows (map view old) (map view new)
  told_all old new count all below =
      let none_new : drop count new ≡ [] = drop_all count new all in
      let none_old : drop count old ≡ [] = sym below.others ∙ none_new in
      let whole_old : take count old ≡ old = sym (append-nil (take count old)) ∙ ap (λ l. take count old ++ l) (sym none_old) ∙ take-append-drop count old in
      subst (λ l. AreTold rows (map view l) (map view new)) whole_old
      (subst (λ l. AreTold rows (map view (take count old)) (map view l)) (take_all count new all) below.told)

  -- what is at a number and behind it, in both lists
  left_over : (old new : List Gauge) (i : ℕ) (x : Gauge) → i < length new → drop i new ≡ drop i old → drop i old ≡ get_or new i x ∷ drop (i + 1) new
  left_over old new i x more same = sym same ∙ drop_more new i x more

  -- the next gauge is told the rows
  pub told_more : (old new : List Gauge) (i : ℕ) (x y : Gauge) → i < length new → IsTold rows (view (get_or new i x)) (view y)
      → AreToldBelow view rows old new i → AreToldBelow view rows old (set new i y) (i + 1)
  told_more old new i x y more told below =
      let item : Gauge = get_or new i x in
      let left : drop i old ≡ item ∷ drop (i + 1) new = left_over old new i x more below.others in
      let olds : map view (take (i + 1) old) ≡ map view (take i old) ++ view item ∷ [] =
      rw add-one (ap (map view) (take_next old (drop (i + 1) new) i item left) ∙ map-append view (take i old) (item ∷ [])) in
      let news : map view (take (i + 1) (set new i y)) ≡ map view (take i new) ++ view y ∷ [] =
      ap (map view) (take_more_set new i y more) ∙ map-append view (take i new) (y ∷ []) in
      record {
        told = rw (olds, news) (AllZip-push (IsTold rows) (map view (take i old)) (map view (take i new)) (view item) (view y) below.told told);
        others = drop-set-lt (i + 1) new i y (omega arith) ∙ sym (ap (λ n. drop n old) (add-one i) ∙ drop_next old (drop (i + 1) new) i item left);
      }

  -- the next gauge is told some of the rows, and those behind it none
  pub told_until : (old new : List Gauge) (i : ℕ) (x y : Gauge) → i < length new → IsToldPrefix rows (view (get_or new i x)) (view y)
      → AreToldBelow view rows old new i → AreToldPrefixes rows (map view old) (map view (set new i y))
  told_until old new i x y more told below =
      let item : Gauge = get_or new i x in
      let rest : List Gauge = drop (i + 1) new in
      let olds : map view old ≡ map view (take i old) ++ view item ∷ map view rest =
      ap (map view) (sym (take-append-drop i old) ∙ ap (λ l. take i old ++ l) (left_over old new i x more below.others)) ∙ map-append view (take i old) (item ∷ rest) in
      let news : map view (set new i y) ≡ map view (take i new) ++ view y ∷ map view rest =
      ap (map view) (sym (take-append-drop i (set new i y)) ∙ ap (λ l. l ++ drop i (set new i y)) (take-set new i y) ∙ ap (λ l. take i new ++ l) (drop-set new i y more))
      ∙ map-append view (take i new) (y ∷ rest) in
      subst (λ l. AreToldPrefixes rows l (map view (set new i y))) (sym olds)
      (subst (λ l. AreToldPrefixes rows (map view (take i old) ++ view item ∷ map view rest) l) (sym news)
      (AllZip-append (IsToldPrefix rows) (map view (take i old)) (view item ∷ map view rest) (map view (take i new)) (view y ∷ map view rest)
      (told_prefixes rows (map view (take i old)) (map view (take i new)) below.told)
      (told, untold_prefixes rows (map view rest))))
