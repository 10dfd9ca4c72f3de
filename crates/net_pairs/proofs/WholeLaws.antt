-- a zone that has all of a part stands for all zones of its label
use Rattle.std.proofs.Common.{ℕ, List, [], ◌∷◌, ◌++◌, ◌+◌, ◌<◌, ◌≤◌, ◌≡◌, ◌∙◌, ◌⊎◌, Option, Some, None, refl, sym, subst, inl, inr, length, get_or, take, take_all, Contains}
use Rattle.std.specs.Option.{IfSome}
use Rattle.lists.proofs.Words.{Contains-append_left, Contains-push, Contains-push_cases, Contains-get_or}
use Rattle.lists.proofs.Containing.{Contains-none, Contains-take_cases}
use Rattle.geo_core.specs.declared.plane.Labelled.{Labelled}
use Rattle.geo_core.specs.declared.plane.Rect.{Rect}
use Rattle.union_area.specs.WindowParts.{HasAllOf}
use Rattle.short_area.specs.Zones.{AreAlikeIn, IsInLabel}
use Rattle.net_pairs.specs.inside.Whole.{AreOnesTo, HasWhole, KeepsOne}

module _ (part : Rect) where
  -- more zones
  pub whole_grows : (old : List Labelled) (zone : Labelled) (label : ℕ) → HasWhole part old label → HasWhole part (old ++ zone ∷ []) label
  whole_grows old zone label h = record { whole = h.whole; among = Contains-append_left old (zone ∷ []) h.whole h.among; labelled = h.labelled; all = h.all }

  pub whole_pushed : (old new : List Labelled) (zone : Labelled) → new ≡ old ++ zone ∷ [] → HasAllOf part zone.rect → HasWhole part new zone.label
  whole_pushed old new zone e all = subst (λ (zs : List Labelled). HasWhole part zs zone.label) (sym e) (record { whole = zone; among = Contains-push old zone; labelled = refl; all = all })

  pub found_grows : (old new : List Labelled) (zone : Labelled) (found : Option ℕ) → new ≡ old ++ zone ∷ [] → IfSome found (HasWhole part old) → IfSome found (HasWhole part new)
  found_grows old new zone None e h = tt
  found_grows old new zone (Some label) e h = subst (λ (zs : List Labelled). HasWhole part zs label) (sym e) (whole_grows old zone label h)

  pub none_yet : (zones kept : List Labelled) → kept ≡ [] → AreOnesTo part zones 0 kept
  none_yet zones kept e = record { among = λ zone h. absurd (Contains-none (subst (λ (zs : List Labelled). Contains zs zone) e h)); first = λ zone h. absurd (Contains-none h) }

  module _ (zones : List Labelled) (i : ℕ) (zone : Labelled) (small : i < length zones) (is : zone ≡ get_or zones i zone) where
    pub one_more : (old new : List Labelled) → AreOnesTo part zones i old → KeepsOne part zone old new → AreOnesTo part zones (i + 1) new
    one_more old new so_far (inl e) = subst (AreOnesTo part zones (i + 1)) (sym e) (record {
      among = λ z h. elim (Contains-push_cases old zone z h) [
        | inl k ↦ so_far.among z k
        | inr same ↦ subst (Contains zones) (sym is ∙ same) (Contains-get_or zones i zone small)
      ];
      first = λ z h. elim (Contains-take_cases zones i zone z small h) [
        | inl k ↦ elim (so_far.first z k) [ inl l ↦ inl (Contains-append_left old (zone ∷ []) z l) | inr w ↦ inr (whole_grows old zone z.label w) ]
        | inr same ↦ inl (subst (Contains (old ++ zone ∷ [])) (is ∙ same) (Contains-push old zone))
      ];
    })
    one_more old new so_far (inr (whole, e)) = subst (AreOnesTo part zones (i + 1)) (sym e) (record {
      among = so_far.among;
      first = λ z h. elim (Contains-take_cases zones i zone z small h) [
        | inl k ↦ so_far.first z k
        | inr same ↦ inr (subst (λ (y : Labelled). HasWhole part old y.label) (is ∙ same) whole)
      ];
    })

  pub ones_all : (zones : List Labelled) (i : ℕ) (kept : List Labelled) → length zones ≤ i → AreOnesTo part zones i kept → AreAlikeIn part zones kept
  ones_all zones i kept past are c at label = (
    λ h. record { zone = h.zone; among = are.among h.zone h.among; labelled = h.labelled; has = h.has },
    λ h. elim (are.first h.zone (subst (λ (zs : List Labelled). Contains zs h.zone) (sym (take_all i zones past)) h.among)) [
      | inl k ↦ record { zone = h.zone; among = k; labelled = h.labelled; has = h.has }
      | inr w ↦ record { zone = w.whole; among = w.among; labelled = w.labelled ∙ h.labelled; has = w.all c at }
    ],
  )

  -- the zones in another order
  pub alike_moved : (zones sorted kept : List Labelled) → ((zone : Labelled) → Contains zones zone → Contains sorted zone) → ((zone : Labelled) → Contains sorted zone → Contains zones zone)
      → AreAlikeIn part sorted kept → AreAlikeIn part zones kept
  alike_moved zones sorted kept there back alike c at label = (
    λ h. let k = (alike c at label).0 h in record { zone = k.zone; among = back k.zone k.among; labelled = k.labelled; has = k.has },
    λ h. (alike c at label).1 (record { zone = h.zone; among = there h.zone h.among; labelled = h.labelled; has = h.has }),
  )

  pub alike_twice : (zones inside kept : List Labelled) → AreAlikeIn part zones inside → AreAlikeIn part inside kept → AreAlikeIn part zones kept
  alike_twice zones inside kept one two c at label = (λ h. (one c at label).0 ((two c at label).0 h), λ h. (two c at label).1 ((one c at label).1 h))
