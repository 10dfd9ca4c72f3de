-- labels at a cell, as lists of zones grow
use Rattle.std.proofs.Common.{ℕ, ◌+◌, ◌<◌, ◌≡◌, sym, subst, List, [], ◌∷◌, ◌++◌, length, take, get_or, inl, inr, ◌⊎◌, ◌↔◌}
use Rattle.lists.proofs.Words.{Contains-append_left, Contains-append_right, Contains-append_cases, Contains-push, Contains-push_cases}
use Rattle.lists.proofs.Containing.{Contains-none}
use Rattle.lists.proofs.Reading.{taken_more}
use Rattle.geo_core.specs.Plane.{Has}
use Rattle.geo_core.specs.declared.plane.Cell.{Cell}
use Rattle.geo_core.specs.declared.plane.Labelled.{Labelled}
use Rattle.short_area.specs.Zones.{IsInLabel}

module _ (c : Cell) where
  pub label_none : (label : ℕ) → IsInLabel [] label c → ⊥
  label_none label h = Contains-none h.among

  -- one more zone at the end
  pub label_push : (zones : List Labelled) (zone : Labelled) (label : ℕ) → IsInLabel (zones ++ zone ∷ []) label c ↔ (IsInLabel zones label c ⊎ ((zone.label ≡ label) × Has zone.rect c))
  label_push zones zone label = (
    λ h. elim (Contains-push_cases zones zone h.zone h.among) [
      | inl k ↦ inl (record { zone = h.zone; among = k; labelled = h.labelled; has = h.has })
      | inr e ↦ inr (subst (λ (z : Labelled). z.label ≡ label) (sym e) h.labelled, subst (λ (z : Labelled). Has z.rect c) (sym e) h.has)
    ],
    λ h. elim h [
      | inl k ↦ record { zone = k.zone; among = Contains-append_left zones (zone ∷ []) k.zone k.among; labelled = k.labelled; has = k.has }
      | inr k ↦ record { zone = zone; among = Contains-push zones zone; labelled = k.0; has = k.1 }
    ],
  )

  pub label_more : (zones : List Labelled) (i : ℕ) (zone : Labelled) (label : ℕ) → i < length zones → zone ≡ get_or zones i zone
      → IsInLabel (take (i + 1) zones) label c ↔ (IsInLabel (take i zones) label c ⊎ ((zone.label ≡ label) × Has zone.rect c))
  label_more zones i zone label small is =
      subst (λ (ys : List Labelled). IsInLabel ys label c ↔ (IsInLabel (take i zones) label c ⊎ ((zone.label ≡ label) × Has zone.rect c))) (sym (taken_more zones i zone small is))
      (label_push (take i zones) zone label)

  pub label_append : (xs ys : List Labelled) (label : ℕ) → IsInLabel (xs ++ ys) label c ↔ (IsInLabel xs label c ⊎ IsInLabel ys label c)
  label_append xs ys label = (
    λ h. elim (Contains-append_cases xs ys h.zone h.among) [
      | inl k ↦ inl (record { zone = h.zone; among = k; labelled = h.labelled; has = h.has })
      | inr k ↦ inr (record { zone = h.zone; among = k; labelled = h.labelled; has = h.has })
    ],
    λ h. elim h [
      | inl k ↦ record { zone = k.zone; among = Contains-append_left xs ys k.zone k.among; labelled = k.labelled; has = k.has }
      | inr k ↦ record { zone = k.zone; among = Contains-append_right xs ys k.zone k.among; labelled = k.labelled; has = k.has }
    ],
  )
