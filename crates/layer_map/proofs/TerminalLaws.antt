-- places of terminals, as items say them and in a set
use Rattle.std.proofs.Common.{◌≡◌, ℕ, ℤ, List, map, Option, Some, refl, sym, ap, ◌∙◌, subst, Contains, slice_get, None, option_map, Bool, true, false, not, ◌==◌, ◌&&◌, if◌then◌else◌, [], ◌∷◌, ◌++◌}
use Rattle.std.proofs.Common.{inl, inr, w32, to_z, of_z, SFits}
use Rattle.lists.proofs.Words.{AllZip, map-map, IsEquivalence, nat_eq_equiv, and_equiv, on_equiv, list_any, int_eq, and_parts, cases_Bool, Decides-eqb, Decides-int_eq, to_z-of_z}
use Rattle.toml.specs.Data.{Data, string, integer}
use Rattle.layer_map.specs.Documents.{GivesTerminal, NamesMetal}
use Rattle.map_model.specs.MapNames.{MappedLayer, names_of, terminal_of}
use Rattle.lists.specs.Differing.{AreDifferent}
use Rattle.layer_map.specs.inside.ReadTerminals.{place_of_terminal, AddsPlace}
use Rattle.layer_map.specs.TerminalChecks.{place_in}
use Rattle.layer_map.specs.Values.{metal_of_item}
use Rattle.map_model.specs.declared.layers.Terminal.{Terminal}
use Rattle.lists.proofs.Mapping.{Contains-map, Contains-map_from}
use Rattle.geo_core.specs.declared.plane.Cell.{Cell}
use Rattle.std.proofs.lemmas.Cmp.{int_eq_equiv}
use Rattle.std.proofs.lemmas.Map.Views.{list_any-from_Contains}
use Rattle.indexmap.proofs.CallerLemmas.{Contains-list_any}
use Rattle.layer_map.proofs.CutLaws.{one_metal_named}
use Rattle.layer_map.proofs.SpelledLaws.{zip_shows}

-- what an item says of a terminal with this place
abbrev written_place : List MappedLayer → ℕ × ℤ × ℤ → Option Data × Option Data × Option Data
written_place metals place = (option_map (λ metal. string metal.name) (slice_get metals place.0), Some (integer place.1), Some (integer place.2))

module _ (metals : List MappedLayer) where
  place_written : (item : Data) (t : ℕ × Cell) → GivesTerminal metals item t → place_in item ≡ written_place metals (t.0, t.1.i, t.1.j)
  place_written item t gives =
      let metal : metal_of_item item ≡ option_map (λ (m : MappedLayer). string m.name) (slice_get metals t.0) = gives.metal.named
      ∙ sym (ap (option_map (λ (m : MappedLayer). string m.name)) gives.metal.numbered) in
      rw (metal, gives.column, gives.row) refl

  module _ (earlier : List Data) (ts : List Terminal) (item : Data) (t : Terminal) (all : AllZip (GivesTerminal metals) earlier (map terminal_of ts))
      (it : GivesTerminal metals item (terminal_of t)) where
    places_written : map place_in earlier ≡ map (λ u. written_place metals (place_of_terminal u)) ts
    places_written = zip_shows (GivesTerminal metals) place_in (λ u. written_place metals (u.0, u.1.i, u.1.j)) place_written earlier (map terminal_of ts) all ∙ map-map _ terminal_of ts

    pub place_seen : Contains (map place_of_terminal ts) (place_of_terminal t) → Contains (map place_in earlier) (place_in item)
    place_seen among =
        let (u, lies, same) = Contains-map_from place_of_terminal ts (place_of_terminal t) among in
        let there = Contains-map (λ (v : Terminal). written_place metals (place_of_terminal v)) ts u lies in
        rw places_written (subst (Contains (map (λ v. written_place metals (place_of_terminal v)) ts)) (ap (written_place metals) same ∙ sym (place_written item (terminal_of t) it)) there)

    pub seen_place : AreDifferent (names_of metals) → Contains (map place_in earlier) (place_in item) → Contains (map place_of_terminal ts) (place_of_terminal t)
    seen_place differ among =
        let (u, lies, same) = Contains-map_from (λ (v : Terminal). written_place metals (place_of_terminal v)) ts (place_in item) (rw places_written at among) in
        subst (Contains (map place_of_terminal ts)) (places_tell u same) (Contains-map place_of_terminal ts u lies) where
          names : (there : Option Data) (o : Option MappedLayer) (n : ℕ) → slice_get metals n ≡ o → option_map (λ (m : MappedLayer). string m.name) o ≡ there
              → Some (string it.metal.metal.name) ≡ there → NamesMetal metals there n
          names there None n is same named = cc (same, named)
          names there (Some m) n is same named = record { metal = m; numbered = is; named = sym same }

          places_tell : (u : Terminal) → written_place metals (place_of_terminal u) ≡ place_in item → place_of_terminal u ≡ place_of_terminal t
          places_tell u same =
              let named = names (metal_of_item item) (slice_get metals u.metal) u.metal refl (ap (λ (p : Option Data × Option Data × Option Data). p.0) same) (sym it.metal.named) in
              let numbers : u.metal ≡ t.metal = one_metal_named metals (metal_of_item item) u.metal t.metal differ named it.metal in
              let xs : Some (integer u.cell.i) ≡ Some (integer t.cell.i) = ap (λ (p : Option Data × Option Data × Option Data). p.1) same ∙ it.column in
              let ys : Some (integer u.cell.j) ≡ Some (integer t.cell.j) = ap (λ (p : Option Data × Option Data × Option Data). p.2) same ∙ it.row in
              let columns : u.cell.i ≡ t.cell.i = cc xs in
              let rows : u.cell.j ≡ t.cell.j = cc ys in
              ap (λ (n : ℕ). (n, u.cell.i, u.cell.j)) numbers ∙ ap (λ (n : ℤ). (t.metal, n, u.cell.j)) columns ∙ ap (λ (n : ℤ). (t.metal, t.cell.i, n)) rows

-- ---- a set of places

abbrev Place : Type 0
Place = ℕ × ℤ × ℤ

-- the test of two places
abbrev pub same_place : Place → Place → Bool
same_place p q = ((p.0 == q.0) && int_eq p.1 q.1) && int_eq p.2 q.2

same_from_test : (p q : Place) → same_place p q ≡ true → p ≡ q
same_from_test (a, b, c) (x, y, z) h =
    let (front, last) = and_parts ((a == x) && int_eq b y) (int_eq c z) h in
    let (first, second) = and_parts (a == x) (int_eq b y) front in
    let e : a ≡ x = (Decides-eqb a x).0 first in
    let f : b ≡ y = (Decides-int_eq b y).0 second in
    let g : c ≡ z = (Decides-int_eq c z).0 last in
    cc (e, f, g)

place_equiv : IsEquivalence same_place
place_equiv = and_equiv (and_equiv (on_equiv (λ (p : Place). p.0) nat_eq_equiv) (on_equiv (λ (p : Place). p.1) int_eq_equiv)) (on_equiv (λ (p : Place). p.2) int_eq_equiv)

pub adds_place : (old new : List Place) (place : Place) (is_new : Bool) → is_new ≡ not (list_any (same_place place) old) → new ≡ (if list_any (same_place place) old then old else old ++ place ∷ [])
    → AddsPlace is_new old new place
adds_place old new place is_new added keys =
    elim (cases_Bool (list_any (same_place place) old)) [
      | inl there ↦
          let no : is_new ≡ false = added ∙ ap not there in
          subst (λ (b : Bool). AddsPlace b old new place) (sym no) (Contains-list_any same_place same_from_test old place there)
      | inr absent ↦
          let yes : is_new ≡ true = added ∙ ap not absent in
          let keys_are : new ≡ old ++ place ∷ [] = keys ∙ ap (λ (b : Bool). if b then old else old ++ place ∷ []) absent in
          subst (λ (b : Bool). AddsPlace b old new place) (sym yes) (keys_are, λ among. let e : true ≡ false = sym (list_any-from_Contains place_equiv place old among) ∙ absent in cc e)
    ]

-- a place that went through 32 bits
pub place_is : (t : Terminal) → SFits w32 t.cell.i → SFits w32 t.cell.j → (t.metal, to_z w32 (of_z w32 t.cell.i), to_z w32 (of_z w32 t.cell.j)) ≡ place_of_terminal t
place_is t i_fits j_fits = rw (to_z-of_z w32 t.cell.i i_fits, to_z-of_z w32 t.cell.j j_fits) refl
