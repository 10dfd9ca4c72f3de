-- maps of rectangles by their leftmost columns, of which one entry changes
use Rattle.std.proofs.Common.{sym, ap, inl, inr, ◌∙◌, ◌≡◌, ◌⊎◌, ℤ, Option}
use Rattle.lists.proofs.Words.{cases_Bool, BTreeMap, Updates, get, is_at, int_cmp}
use Rattle.std.proofs.lemmas.Map.Lookups.{exact_signed}
use Rattle.std.proofs.lemmas.Map.Views.{tells_apart}
use Rattle.geo_core.specs.declared.plane.Rect.{Rect}

-- a map has this at the one column, and at each other column what it had
pub record Changes (old new : BTreeMap ℤ Rect) (column : ℤ) (entry : Option Rect) : Type 0 where
  pub here : get int_cmp new column ≡ entry
  pub elsewhere : (x : ℤ) → (column ≡ x) ⊎ (get int_cmp new x ≡ get int_cmp old x)

pub changes_from_updates : (old new : BTreeMap ℤ Rect) (key column : ℤ) (entry : Option Rect) → key ≡ column → Updates int_cmp old new key entry → Changes old new column entry
changes_from_updates old new key column entry same u = record {
  here = ap (get int_cmp new) (sym same) ∙ u.1;
  elsewhere = λ x. elim (cases_Bool (is_at (int_cmp key) x)) [
    | inl equal ↦ inl (sym same ∙ tells_apart exact_signed key x equal)
    | inr differ ↦ inr (u.2 x differ)
  ];
}

-- what the map has at a column, where it has changed there or not
pub entry_at : (old new : BTreeMap ℤ Rect) (column : ℤ) (entry : Option Rect) → Changes old new column entry → (x : ℤ)
    → ((column ≡ x) × (get int_cmp new x ≡ entry)) ⊎ (get int_cmp new x ≡ get int_cmp old x)
entry_at old new column entry h x = elim (h.elsewhere x) [
  | inl e ↦ inl (e, ap (get int_cmp new) (sym e) ∙ h.here)
  | inr same ↦ inr same
]
