-- whether via clusters are terminals, as a document says it
use Rattle.std.proofs.Common.{◌≡◌, ℕ, Bool, true, false, not, ◌==◌, List, [], ◌∷◌, get_or, codes, Option, Some, None, Ok, Err, refl, sym, ap, ◌∙◌, subst, Contains}
use Rattle.std.proofs.lemmas.Map.Lookups.{exact_bytes}
use Rattle.std.specs.Cmp.Lexicographic.{slice_cmp}
use Rattle.std.specs.Ordering.{match_ordering, nat_cmp}
use Rattle.lists.proofs.Words.{All-contains, AllPass-from_list_all, Equal, Greater, Less, Ordering, same_Some}
use Rattle.lists.proofs.Containing.{Contains-head, Contains-tail}
use Rattle.first_refusal.proofs.JudgeLaws.{Judges, fails_first}
use Rattle.toml.specs.Data.{Data, Members, as_bool, boolean, get_member, member, no_members}
use Rattle.map_model.specs.declared.measure.Measure.TheVariants.{Radius}
use Rattle.layer_map.specs.DocumentSizes.{measure_of}
use Rattle.layer_map.specs.MapChecks.{Holds, IsTruthOrNone, contacts_are_truth, fault_of, has_known_keys, last_checks, map_keys}
use Rattle.layer_map.specs.Values.{contacts_in, keys_in, truth_in}
use Rattle.layer_map.specs.declared.fault.MapFault.TheVariants.{Memory}
use Rattle.layer_map.proofs.EachLaws.{passes_each}
use Rattle.layer_map.proofs.FindLaws.{not_some}

-- a value of which `as_bool` gives a truth value is that truth value
truth_is : (d : Data) (truth : Bool) → Some truth ≡ as_bool d → d ≡ boolean truth
truth_is (boolean b) truth h = ap boolean (sym (same_Some _ _ h))
truth_is other truth h = cc h

-- a truth value, something else, or nothing stands at `contacts`
module _ (document : Members) where
  pub truth_stands : (d : Data) (truth : Bool) → Some d ≡ contacts_in document → Some truth ≡ as_bool d
      → Judges Memory (Holds document) last_checks fault_of (λ contacts. contacts ≡ truth_in (contacts_in document)) (Ok truth)
  truth_stands d truth there is =
      let at : contacts_in document ≡ Some (boolean truth) = sym there ∙ ap Some (truth_is d truth is) in
      passes_each (Holds document) last_checks (rw at refl, tt) (rw at refl)

  pub no_truth_stands : (d : Data) → Some d ≡ contacts_in document → None ≡ as_bool d
      → Judges Memory (Holds document) last_checks fault_of (λ contacts. contacts ≡ truth_in (contacts_in document)) (Err (fault_of contacts_are_truth))
  no_truth_stands d there none = fails_first (Holds document) fault_of _ contacts_are_truth [] (λ is. not_some (as_bool d) none (subst IsTruthOrNone (sym there) is))

  pub nothing_stands : None ≡ contacts_in document → Judges Memory (Holds document) last_checks fault_of (λ contacts. contacts ≡ truth_in (contacts_in document)) (Ok false)
  nothing_stands none = passes_each (Holds document) last_checks (subst IsTruthOrNone none tt, tt) (ap truth_in none)

-- ---- beside radii

-- what is no key of a table is not found there
no_member : (members : Members) (key : List ℕ) → (Contains (keys_in members) key → ⊥) → get_member key members ≡ None
no_member no_members key not_there = refl
no_member (member other value members) key not_there =
    by_order (no_member members key (λ among. not_there (Contains-tail other (keys_in members) key among))) (slice_cmp nat_cmp key other) refl
  where
    by_order : get_member key members ≡ None → (order : Ordering) → slice_cmp nat_cmp key other ≡ order
        → match_ordering order (get_member key members) (Some value) (get_member key members) ≡ None
    by_order behind Less is = behind
    by_order behind Equal is = absurd (not_there (subst (Contains (other ∷ keys_in members)) (sym (exact_bytes key other is)) (Contains-head other (keys_in members))))
    by_order behind Greater is = behind

-- the second letter of `contacts` is that of no key beside radii
abbrev has_other_letter : List ℕ → Bool
has_other_letter key = not (get_or key 1 0 == 111)

not_beside_radii : Contains (map_keys Radius) (codes "contacts") → ⊥
not_beside_radii among =
    let e : false ≡ true = All-contains (λ key. has_other_letter key ≡ true) (map_keys Radius) (codes "contacts") (AllPass-from_list_all has_other_letter (map_keys Radius) refl) among in
    cc e

pub no_contacts : (document : Members) → measure_of document ≡ Radius → Holds document has_known_keys → contacts_in document ≡ None
no_contacts document radii known =
    no_member document (codes "contacts") (λ among. not_beside_radii (subst (λ measure. Contains (map_keys measure) (codes "contacts")) radii
    (All-contains (Contains (map_keys (measure_of document))) (keys_in document) (codes "contacts") known among)))
