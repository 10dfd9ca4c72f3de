-- Names by their places, as a test of names finds them.
use Rattle.std.proofs.Common.{◌≡◌, ◌≢◌, ◌↔◌, ℕ, ◌<◌, ◌≤◌, ◌+◌, Bool, true, false, cond, ◌||◌, not, List, [], ◌∷◌, ◌++◌, map, length, get_or, Option, Contains, IsTrue, take, if◌then◌else◌, refl, sym}
use Rattle.std.proofs.Common.{ap, subst, ◌∙◌, true≢false, arith, length-append}
use Rattle.lists.proofs.Words.{position, list_any, prefix_len, get_or-map, get_or-take, length-map, length-take-le, map-append, take_more, all_pairs_push, Contains-from_any, get_or_from_slice_get}
use Rattle.lists.proofs.Words.{slice_get-get_or}
use Rattle.std.specs.Cmp.Lexicographic.{nat_list_eq_equiv}
use Rattle.std.proofs.lemmas.Map.Views.{list_any-from_Contains}
use Rattle.lists.specs.Differing.{AreDifferent}
use Rattle.library_model.specs.Names.{names_of, place_of}
use Rattle.library_model.specs.declared.library.Structure.{Structure}
use Rattle.library_model.proofs.laws.Names.{is_name, is_name-true}

-- A test of what owns the names finds what the test of the names finds.
module _ {V : Type 0} (text : V → List ℕ) (test : List ℕ → Bool) where
  pub list_any-texts : (owners : List V) → list_any (λ v. test (text v)) owners ≡ list_any test (map text owners)
  list_any-texts [] = refl
  list_any-texts (v ∷ owners) = ap (λ b. test (text v) || b) (list_any-texts owners)

  prefix_len-texts : (owners : List V) → prefix_len (λ v. not (test (text v))) owners ≡ prefix_len (λ n. not (test n)) (map text owners)
  prefix_len-texts [] = refl
  prefix_len-texts (v ∷ owners) = ap (λ n. cond (not (test (text v))) (1 + n) 0) (prefix_len-texts owners)

  pub position-texts : (owners : List V) → position (λ v. test (text v)) owners ≡ position test (map text owners)
  position-texts owners = rw (prefix_len-texts owners, length-map owners text) refl

-- what the test finds, and what it does not find
pub found_name : (name : List ℕ) (names : List (List ℕ)) → list_any (is_name name) names ≡ true → Contains names name
found_name name names = Contains-from_any is_name-true name names

pub name_not_found : (name : List ℕ) (names : List (List ℕ)) → list_any (is_name name) names ≡ false → Contains names name → ⊥
name_not_found name names none there = true≢false (sym (list_any-from_Contains nat_list_eq_equiv name names there) ∙ none)

-- one name more
pub one_name_more : (names : List (List ℕ)) (name : List ℕ) → AreDifferent names → (Contains names name → ⊥) → AreDifferent (names ++ name ∷ [])
one_name_more names name differ fresh = all_pairs_push (λ one other. one ≢ other) names name differ (λ k d h e. fresh (k, h, get_or_from_slice_get names k _ name (slice_get-get_or names k d h) ∙ e))

-- What a search among owners of names answers.
module _ {V : Type 0} (text : V → List ℕ) (name : List ℕ) (owners : List V) where
  pub place_found : (answer : Option ℕ) → answer ≡ position (λ v. is_name name (text v)) owners → answer ≡ place_of (map text owners) name
  place_found answer is = is ∙ position-texts text (is_name name) owners

  -- what is answered of whether the name is there
  pub is_there : list_any (λ v. is_name name (text v)) owners ≡ true → Contains (map text owners) name
  is_there found = found_name name (map text owners) (sym (list_any-texts text (is_name name) owners) ∙ found)

  pub is_not_there : list_any (λ v. is_name name (text v)) owners ≡ false → Contains (map text owners) name → ⊥
  is_not_there none = name_not_found name (map text owners) (sym (list_any-texts text (is_name name) owners) ∙ none)

  -- An owner of the name is put last unless there is one already, and the answer is whether it was put there.
  module _ (owner : V) (new : List V) (is_new : Bool) (owns : text owner ≡ name) (answer : is_new ≡ not (list_any (λ v. is_name (text owner) (text v)) owners))
      (put : new ≡ (if list_any (λ v. is_name (text owner) (text v)) owners then owners else owners ++ owner ∷ [])) where
    answers : is_new ≡ not (list_any (λ v. is_name name (text v)) owners)
    answers = rw (← owns) answer

    puts : new ≡ (if list_any (λ v. is_name name (text v)) owners then owners else owners ++ owner ∷ [])
    puts = rw (← owns) put

    pub known_with : is_new ≡ false → Contains (map text owners) name
    known_with old = is_there (by (list_any (λ v. is_name name (text v)) owners) (sym answers ∙ old))
      where
        by : (b : Bool) → not b ≡ false → b ≡ true
        by true e = refl
        by false e = absurd (true≢false e)

    pub fresh_with : IsTrue is_new ↔ (Contains (map text owners) name → ⊥)
    fresh_with = by (list_any (λ v. is_name name (text v)) owners) refl
      where
        by : (b : Bool) → list_any (λ v. is_name name (text v)) owners ≡ b → IsTrue is_new ↔ (Contains (map text owners) name → ⊥)
        by true e = (λ t. absurd (true≢false (sym t ∙ answers ∙ ap not e)), λ fresh. absurd (fresh (is_there e)))
        by false e = (λ t. is_not_there e, λ fresh. answers ∙ ap not e)

    pub names_with : map text new ≡ (if is_new then map text owners ++ name ∷ [] else map text owners)
    names_with = by (list_any (λ v. is_name name (text v)) owners) refl
      where
        by : (b : Bool) → list_any (λ v. is_name name (text v)) owners ≡ b → map text new ≡ (if is_new then map text owners ++ name ∷ [] else map text owners)
        by true e = rw (answers, puts, e) refl
        by false e = rw (answers, puts, e, map-append text owners (owner ∷ []), owns) refl

    pub names_with_differ : AreDifferent (map text owners) → AreDifferent (map text new)
    names_with_differ differ = by is_new refl
      where
        by : (b : Bool) → is_new ≡ b → AreDifferent (map text new)
        by true e = rw (names_with, e) (one_name_more (map text owners) name differ (fresh_with.0 e))
        by false e = rw (names_with, e) differ

    pub count_with : length new ≤ length owners + 1
    count_with = by (list_any (λ v. is_name name (text v)) owners) refl
      where
        by : (b : Bool) → list_any (λ v. is_name name (text v)) owners ≡ b → length new ≤ length owners + 1
        by true e = omega (arith, ap length (rw e at puts))
        by false e = omega (arith, ap length (rw e at puts), length-append owners (owner ∷ []))

-- The name of the next structure is new, and so it is put behind those of the structures before it.
module _ (structures : List Structure) (i : ℕ) (s : Structure) (differ : AreDifferent (names_of structures)) (more : i < length structures)
    (next : s ≡ get_or structures i s) where
  stands_at : (d : List ℕ) → get_or (names_of structures) i d ≡ s.name
  stands_at d = get_or-map (λ structure. structure.name) structures i s d more ∙ ap (λ structure. structure.name) (sym next)

  pub name_is_new : Contains (names_of (take i structures)) s.name → ⊥
  name_is_new there =
      let before : there.0 < i = omega (arith, there.1, length-map (take i structures) (λ structure. structure.name), length-take-le i structures (omega arith)) in
      differ there.0 i s.name before (omega (arith, length-map structures (λ structure. structure.name)))
      (at_front there.0 before ∙ there.2 ∙ sym (stands_at s.name))
    where
      at_front : (k : ℕ) → k < i → get_or (names_of structures) k s.name ≡ get_or (names_of (take i structures)) k s.name
      at_front k h = rw (
        get_or-map (λ structure. structure.name) structures k s s.name (omega arith),
        get_or-map (λ structure. structure.name) (take i structures) k s s.name
            (omega (arith, length-take-le i structures (omega arith))),
        get_or-take i structures k s h,
      ) refl

  pub next_name : (now new : List (List ℕ)) (is_new : Bool) → now ≡ names_of (take i structures) → (IsTrue is_new ↔ (Contains now s.name → ⊥))
      → new ≡ (if is_new then now ++ s.name ∷ [] else now) → new ≡ names_of (take (i + 1) structures)
  next_name now new is_new is fresh put =
      let yes : is_new ≡ true = fresh.1 (λ there. name_is_new (subst (λ names. Contains names s.name) is there)) in
      rw (put, yes, is, take_more structures i s more, ← next, map-append (λ structure. structure.name) (take i structures) (s ∷ [])) refl
