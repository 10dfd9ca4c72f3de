-- the names of kinds, by their numbers
use Rattle.std.proofs.Common.{◌≡◌, ℕ, ◌<◌, ◌≤◌, zero, suc, true, List, [], ◌∷◌, get_or, refl, arith, Option, Some, None, map, nat_lt, option_copied}
use Rattle.lists.proofs.Words.{Bor, range_with_len, list_all, ltb-true, get_or-map-range_with_len, All-contains, AllPass-from_list_all, eqb-true}
use Rattle.std.proofs.lemmas.Map.Views.{Contains-from_lookup}
use Rattle.gds_records.specs.KindNames.{kind_names, name_of_kind}

-- texts that are read from a list
pub text_read : (texts : List (Option (Bor (List ℕ)))) (n : ℕ) (d : Option (Bor (List ℕ))) → option_copied (get_or texts n d) ≡ get_or (map option_copied texts) n (option_copied d)
text_read [] n d = refl
text_read (text ∷ texts) zero d = refl
text_read (text ∷ texts) (suc n) d = text_read texts n d

pub name_read : (n k : ℕ) (d : Option (List ℕ)) → n ≡ k → n < 60 → get_or (map name_of_kind (range_with_len 0 60)) n d ≡ name_of_kind k
name_read n k d e h = get_or-map-range_with_len name_of_kind 0 60 n k d h (omega arith)

-- the names are those of these numbers alone
names_are_low : list_all (λ (row : ℕ × List ℕ). nat_lt row.0 60) kind_names ≡ true
unfolding kind_names
names_are_low = refl

none_above : (k : ℕ) (o : Option (List ℕ)) → 60 ≤ k → name_of_kind k ≡ o → None ≡ o
none_above k None h e = refl
none_above k (Some name) h e =
    let low = All-contains (λ (row : ℕ × List ℕ). nat_lt row.0 60 ≡ true) kind_names (k, name)
    (AllPass-from_list_all (λ (row : ℕ × List ℕ). nat_lt row.0 60) kind_names names_are_low) (Contains-from_lookup eqb-true k name kind_names e) in
    absurd (omega (arith, ltb-true k 60 low))

pub no_name_above : (n k : ℕ) → n ≡ k → 60 ≤ n → None ≡ name_of_kind k
no_name_above n k e h = none_above k (name_of_kind k) (omega arith) refl
