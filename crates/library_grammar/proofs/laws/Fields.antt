-- what holds of the body of a kind, and whether there is one
use Rattle.std.proofs.Common.{◌≡◌, ℕ, Bool, true, false, cond, ◌==◌, ◌||◌, is_some, List, [], ◌∷◌, All, Option, Some, None, option_map, IfSome, refl, find, unwrap_or}
use Rattle.lists.proofs.Words.{All-head, All-tail}
use Rattle.library_grammar.specs.GrammarNames.{Entry, field, body_of, has_kind, kinds_of}

-- what holds of each body holds of that of a kind
module _ (P : List ℕ → Type 0) where
  found_body : (b : Bool) (e : Entry) (rest : Option Entry) → P e.body → IfSome (option_map (λ e. e.body) rest) P → IfSome (option_map (λ e. e.body) (cond b (Some e) rest)) P
  found_body true e rest here later = here
  found_body false e rest here later = later

  pub field_has : (k : ℕ) (own : List Entry) → All (λ e. P e.body) own → IfSome (field k own) P
  field_has k [] have = tt
  field_has k (e ∷ own) have =
      found_body (e.kind == k) e (find (λ o. o.kind == k) own) (All-head (λ o. P o.body) e own have) (field_has k own (All-tail (λ o. P o.body) e own have))

  one_or_none : (o : Option (List ℕ)) → P [] → IfSome o P → P (unwrap_or o [])
  one_or_none None none h = none
  one_or_none (Some body) none h = h

  pub body_has : P [] → (k : ℕ) (own : List Entry) → All (λ e. P e.body) own → P (body_of k own)
  body_has none k own have = one_or_none (field k own) none (field_has k own have)

-- there is a body of a kind exactly where the kinds have it
has_kind_by : (b : Bool) (e : Entry) (rest : Option Entry) (has : Bool) → has ≡ is_some (option_map (λ e. e.body) rest) → (b || has) ≡ is_some (option_map (λ e. e.body) (cond b (Some e) rest))
has_kind_by true e rest has same = refl
has_kind_by false e rest has same = same

pub has_kind-field : (k : ℕ) (own : List Entry) → has_kind (kinds_of own) k ≡ is_some (field k own)
has_kind-field k [] = refl
has_kind-field k (e ∷ own) = has_kind_by (e.kind == k) e (find (λ o. o.kind == k) own) (has_kind (kinds_of own) k) (has_kind-field k own)
