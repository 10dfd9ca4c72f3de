-- the keys of a table
use Rattle.std.proofs.Common.{Global, Bor, BTreeMap, ◌≡◌, ℕ, List, [], ◌∷◌, map, Some, String, string_bytes, option_map, refl, sym, ap, ◌∙◌, subst, All, slice_get}
use Rattle.lists.proofs.Words.{keys, deref, keys_of, All-contains, All-map, slice_get_within, get_or_from_slice_get, slice_get-map}
use Rattle.toml.specs.View.{members_view, table_view}
use Rattle.toml.specs.declared.value.Value.{Value}
use Rattle.layer_map.specs.Values.{keys_in}

keys_in-entries : (es : List (String Global × Value)) → keys_in (members_view es) ≡ map string_bytes (keys_of es)
keys_in-entries [] = refl
keys_in-entries (e ∷ es) = ap (λ ks. string_bytes e.0 ∷ ks) (keys_in-entries es)

pub keys_in-table : (table : BTreeMap (String Global) Value) → keys_in (table_view table) ≡ map string_bytes (keys table)
keys_in-table table = keys_in-entries table.entries

module _ (P : List ℕ → Type 0) (table : BTreeMap (String Global) Value) where
  -- what holds of each key that was yielded holds of each key, where these are all
  pub all_keys : (yielded : List (Bor (String Global))) → map deref yielded ≡ keys table → All (λ key. P (string_bytes key.now)) yielded → All P (keys_in (table_view table))
  all_keys yielded whole each =
      let of_keys : All (λ key. P (string_bytes key)) (keys table) = subst (All (λ (key : String Global). P (string_bytes key))) whole
      (All-map (λ (key : String Global). P (string_bytes key)) deref yielded each) in
      subst (All P) (sym (keys_in-table table)) (All-map P string_bytes (keys table) of_keys)

  -- what does not hold of one key does not hold of each
  pub not_all_keys : (i : ℕ) (key : String Global) → slice_get (keys table) i ≡ Some key → (P (string_bytes key) → ⊥) → All P (keys_in (table_view table)) → ⊥
  not_all_keys i key there not each =
      let text : slice_get (map string_bytes (keys table)) i ≡ Some (string_bytes key) = slice_get-map string_bytes (keys table) i ∙ ap (λ o. option_map string_bytes o) there in
      not (All-contains P (map string_bytes (keys table)) (string_bytes key) (subst (All P) (keys_in-table table) each)
      (i, slice_get_within (map string_bytes (keys table)) i (string_bytes key) text, get_or_from_slice_get (map string_bytes (keys table)) i (string_bytes key) (string_bytes key) text))
