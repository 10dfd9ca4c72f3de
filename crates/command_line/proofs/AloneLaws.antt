-- options of which one alone is given
use Rattle.std.proofs.Common.{ℕ, ◌+◌, ◌-◌, ◌<◌, arith, length, take, take_all, drop, get_or, List, [], ◌∷◌, ◌++◌, ◌≡◌, ◌≢◌, ◌∙◌, ◌⊎◌, inl, inr, sym}
use Rattle.std.proofs.Common.{ap, refl, All, Contains, subst}
use Rattle.lists.proofs.Containing.{Contains-head}
use Rattle.lists.proofs.Words.{All-append, All-cons, All-contains, All-head, All-nil, All-tail, All-weaker, Contains-append_right, drop_more}
use Rattle.lists.proofs.Words.{length-drop, take-append-drop}
use Rattle.command_line.specs.declared.option_name.OptionName.{OptionName}
use Rattle.command_line.specs.inside.Readings.{IsFirstGiven, IsGivenAlone}
use Rattle.command_line.specs.OptionNames.{Text}

-- what stands between two parts of a list is in it
pub between_is_listed : (names : List OptionName) (name : OptionName) (before behind : List OptionName) → names ≡ before ++ name ∷ behind
    → Contains names name
between_is_listed names name before behind are =
    subst (λ ns. Contains ns name) (sym are) (Contains-append_right before (name ∷ behind) name (Contains-head name behind))

module _ (values : OptionName → List Text) where
  abbrev IsLeftOut : OptionName → Type 0
  IsLeftOut name = values name ≡ []

  -- none of these options is given, or one of them is the first that is
  pub none_or_first : (names : List OptionName)
      → All IsLeftOut names ⊎ ((name : OptionName) × (behind : List OptionName) × IsFirstGiven values names name behind)
  none_or_first [] = inl (All-nil IsLeftOut)
  none_or_first (x ∷ xs) = go (values x) refl (none_or_first xs) where
    go : (texts : List Text) → values x ≡ texts
        → All IsLeftOut xs ⊎ ((name : OptionName) × (behind : List OptionName) × IsFirstGiven values xs name behind)
        → All IsLeftOut (x ∷ xs) ⊎ ((name : OptionName) × (behind : List OptionName) × IsFirstGiven values (x ∷ xs) name behind)
    go [] none (inl all) = inl (All-cons IsLeftOut x xs none all)
    go [] none (inr (name, behind, first)) = inr (
      name,
      behind,
      record {
        before = x ∷ first.before;
        are = ap (λ names. x ∷ names) first.are;
        none_before = All-cons IsLeftOut x first.before none first.none_before;
        given = first.given;
      },
    )
    go (text ∷ more) some _ =
        inr (x, xs, record { before = []; are = refl; none_before = All-nil IsLeftOut; given = λ none. let s = sym some ∙ none in cc s })

  -- the option at this number, where those before it are left out
  pub first_at : (names : List OptionName) (k : ℕ) (d : OptionName) → k < length names → All IsLeftOut (take k names) → values (get_or names k d) ≢ []
      → IsFirstGiven values names (get_or names k d) (take (length names - (k + 1)) (drop (k + 1) names))
  first_at names k d within none some =
      let rest : take (length names - (k + 1)) (drop (k + 1) names) ≡ drop (k + 1) names =
      take_all (length names - (k + 1)) (drop (k + 1) names) (omega (arith, length-drop (k + 1) names)) in
      record {
        before = take k names;
        are = sym (take-append-drop k names) ∙ ap (λ l. take k names ++ l) (drop_more names k d within ∙ ap (λ l. get_or names k d ∷ l) (sym rest));
        none_before = none;
        given = some;
      }

  pub first_is_listed : (names : List OptionName) (name : OptionName) (behind : List OptionName) → IsFirstGiven values names name behind
      → Contains names name
  first_is_listed names name behind first = between_is_listed names name first.before behind first.are

  -- an option that is given stands behind another in no two ways of cutting a list in which one alone is given
  one_place : (name : OptionName) (behind : List OptionName) → All IsLeftOut behind → (before : List OptionName) → All IsLeftOut before
      → (asked also : OptionName) (left right : List OptionName) → before ++ name ∷ behind ≡ left ++ asked ∷ right → Contains right also
      → values asked ≢ [] → values also ≢ [] → ⊥
  one_place name behind none [] front asked also [] right e listed one other =
      let same : right ≡ behind = cc e in other (All-contains IsLeftOut behind also none (subst (λ ns. Contains ns also) same listed))
  one_place name behind none [] front asked also (y ∷ left) right e listed one other =
      let rest : behind ≡ left ++ asked ∷ right = cc e in
      one (All-contains IsLeftOut behind asked none (between_is_listed behind asked left right rest))
  one_place name behind none (x ∷ before) front asked also [] right e listed one other =
      let same : x ≡ asked = cc e in one (subst IsLeftOut same (All-head IsLeftOut x before front))
  one_place name behind none (x ∷ before) front asked also (y ∷ left) right e listed one other =
      let rest : before ++ name ∷ behind ≡ left ++ asked ∷ right = cc e in
      one_place name behind none before (All-tail IsLeftOut x before front) asked also left right rest listed one other

  module _ (names : List OptionName) (name : OptionName) (alone : IsGivenAlone values names name) where
    -- where one alone is given, no two are
    pub no_two : (asked also : OptionName) (before behind : List OptionName) → names ≡ before ++ asked ∷ behind → Contains behind also
        → values asked ≢ [] → values also ≢ [] → ⊥
    no_two asked also before behind are =
        one_place name alone.behind alone.none_behind alone.first.before alone.first.none_before asked also before behind (sym alone.first.are ∙ are)

    abbrev IsOther : OptionName → Type 0
    IsOther option = option ≢ name → values option ≡ []

    -- and each other is left out
    pub others_left_out : (other : OptionName) → Contains names other → other ≢ name → values other ≡ []
    others_left_out other listed = All-contains IsOther names other (subst (All IsOther) (sym alone.first.are) all) listed where
      is_other : (names : List OptionName) → All IsLeftOut names → All IsOther names
      is_other = All-weaker IsLeftOut IsOther (λ _ none _. none)

      all : All IsOther (alone.first.before ++ name ∷ alone.behind)
      all = All-append IsOther alone.first.before (name ∷ alone.behind) (is_other alone.first.before alone.first.none_before)
          (All-cons IsOther name alone.behind (λ differs. absurd (differs refl)) (is_other alone.behind alone.none_behind))
