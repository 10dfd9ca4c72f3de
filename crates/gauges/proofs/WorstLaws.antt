-- the first row with the greatest area, told by its place in the list
use Rattle.std.proofs.Common.{◌≡◌, ◌<◌, ◌≤◌, Bool, true, false, nat_le, Some, List, [], ◌∷◌, ◌++◌, find, All, Contains, refl, sym, ap, ◌∙◌, subst, arith, leb-true, inl, inr, codes}
use Rattle.std.proofs.lemmas.List.Sums.{AllPass-from_list_all, list_all-from_AllPass}
use Rattle.std.specs.Option.{option_map_or}
use Rattle.lists.proofs.Words.{All-append, All-cons, All-contains, All-head, All-nil, All-tail, All-weaker, Contains-append_right, cases_Bool, cases_lt, le-leb}
use Rattle.lists.proofs.Containing.{Contains-head}
use Rattle.gauges.specs.WorstText.{IsFirstWorst, is_worst, worst_line, worst_of, worst_text}
use Rattle.gauges.specs.declared.pair_row.PairRow.{PairRow}

-- the first item that passes, behind items that fail
find_behind : {A : Type 0} (p : A → Bool) (front : List A) (x : A) (back : List A) → All (λ y. p y ≡ false) front → p x ≡ true → find p (front ++ x ∷ back) ≡ Some x
find_behind p [] x back fail pass = rw pass refl
find_behind p (y ∷ front) x back fail pass =
    rw (All-head (λ z. p z ≡ false) y front fail) (find_behind p front x back (All-tail (λ z. p z ≡ false) y front fail) pass)

-- the first worst row is the one that is found
pub first_worst_found : (rows : List PairRow) (worst : PairRow) → IsFirstWorst rows worst → worst_of rows ≡ Some worst
first_worst_found rows worst h =
    ap (find (is_worst rows)) h.parts ∙ find_behind (is_worst rows) h.front worst h.back
    (All-weaker (λ other. other.area < worst.area) (λ other. is_worst rows other ≡ false) fails h.front h.lesser) passes
  where
    all_within : All (λ other. nat_le other.area worst.area ≡ true) rows
    all_within =
        subst (All (λ other. nat_le other.area worst.area ≡ true)) (sym h.parts)
        (All-append (λ other. nat_le other.area worst.area ≡ true) h.front (worst ∷ h.back)
        (All-weaker (λ other. other.area < worst.area) (λ other. nat_le other.area worst.area ≡ true) (λ other less. le-leb other.area worst.area (omega arith)) h.front h.lesser)
        (All-cons (λ other. nat_le other.area worst.area ≡ true) worst h.back (le-leb worst.area worst.area (omega arith))
        (All-weaker (λ other. other.area ≤ worst.area) (λ other. nat_le other.area worst.area ≡ true) (λ other most. le-leb other.area worst.area most) h.back h.no_greater)))

    passes : is_worst rows worst ≡ true
    passes = list_all-from_AllPass (λ other. nat_le other.area worst.area) rows all_within

    among : Contains rows worst
    among = subst (λ xs. Contains xs worst) (sym h.parts) (Contains-append_right h.front (worst ∷ h.back) worst (Contains-head worst h.back))

    fails : (other : PairRow) → other.area < worst.area → is_worst rows other ≡ false
    fails other less = elim (cases_Bool (is_worst rows other)) [
      | inl e ↦
          let below : nat_le worst.area other.area ≡ true =
          All-contains (λ x. nat_le x.area other.area ≡ true) rows worst (AllPass-from_list_all (λ x. nat_le x.area other.area) rows e) among in
          let under : worst.area ≤ other.area = leb-true worst.area other.area below in absurd (omega arith)
      | inr e ↦ e
    ]

pub first_worst_told : (rows : List PairRow) (worst : PairRow) → IsFirstWorst rows worst → worst_text rows ≡ worst_line worst
first_worst_told rows worst h = ap (λ found. option_map_or worst_line found (codes "worst none\n")) (first_worst_found rows worst h)

pub one_first_worst : (rows : List PairRow) (worst other : PairRow) → IsFirstWorst rows worst → IsFirstWorst rows other → worst ≡ other
one_first_worst rows worst other h g =
    let both : Some worst ≡ Some other = sym (first_worst_found rows worst h) ∙ first_worst_found rows other g in cc

-- where there are rows, one is the first worst
pub some_first_worst : (row : PairRow) (rows : List PairRow) → (worst : PairRow) × IsFirstWorst (row ∷ rows) worst
some_first_worst row [] = (row, record { front = []; back = []; parts = refl; lesser = All-nil (λ other. other.area < row.area); no_greater = All-nil (λ other. other.area ≤ row.area) })
some_first_worst row (next ∷ rows) =
    let (worst, h) = some_first_worst next rows in
    elim (cases_lt row.area worst.area) [
      | inl less ↦ (
        worst,
        record {
          front = row ∷ h.front;
          back = h.back;
          parts = ap (λ xs. row ∷ xs) h.parts;
          lesser = All-cons (λ other. other.area < worst.area) row h.front less h.lesser;
          no_greater = h.no_greater;
        },
      )
      | inr most ↦ (
        row,
        record {
          front = [];
          back = next ∷ rows;
          parts = refl;
          lesser = All-nil (λ other. other.area < row.area);
          no_greater =
              subst (All (λ other. other.area ≤ row.area)) (sym h.parts)
              (All-append (λ other. other.area ≤ row.area) h.front (worst ∷ h.back)
              (All-weaker (λ other. other.area < worst.area) (λ other. other.area ≤ row.area) (λ other below. omega arith) h.front h.lesser)
              (All-cons (λ other. other.area ≤ row.area) worst h.back most
              (All-weaker (λ other. other.area ≤ worst.area) (λ other. other.area ≤ row.area) (λ other below. omega arith) h.back h.no_greater)));
        },
      )
    ]
