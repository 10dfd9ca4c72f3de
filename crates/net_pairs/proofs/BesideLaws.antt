-- zones that lie beside zones of other labels
use Rattle.std.proofs.Common.{ℕ, Bool, List, [], ◌∷◌, ◌++◌, ◌+◌, ◌<◌, ◌≤◌, ◌≡◌, ◌∙◌, ◌⊎◌, ◌↔◌, refl, sym, subst, true, false, inl, inr, arith, length, get_or, take, take_all, Contains, IsTrue}
use Rattle.lists.proofs.Words.{false≢true, All-contains, Contains-append_left, Contains-push, Contains-push_cases, Contains-get_or}
use Rattle.lists.proofs.Containing.{Contains-none, Contains-take_cases}
use Rattle.geo_core.specs.Plane.{Has, Overlap}
use Rattle.geo_core.specs.declared.plane.Cell.{Cell}
use Rattle.geo_core.specs.declared.plane.Labelled.{Labelled}
use Rattle.short_area.specs.Zones.{IsInLabel}
use Rattle.net_pairs.specs.inside.Beside.{AreKeptTo, HaveSameBoth, IsAlone, KeepsBeside}
use Rattle.net_pairs.specs.inside.PairGains.{IsInBoth}

pub not_true : (b : Bool) → IsTrue b → b ≡ false → ⊥
not_true b t f = false≢true (sym f ∙ is_true b t) where
  is_true : (b : Bool) → IsTrue b → b ≡ true
  is_true b t = cc

pub so_true : (b : Bool) → b ≡ true → IsTrue b
so_true b t = cc

pub none_kept : (zones kept : List Labelled) → kept ≡ [] → AreKeptTo zones 0 kept
none_kept zones kept e = record { among = λ zone h. absurd (Contains-none (subst (λ (zs : List Labelled). Contains zs zone) e h)); first = λ zone h. absurd (Contains-none h) }

module _ (zones : List Labelled) (i : ℕ) (zone : Labelled) (small : i < length zones) (is : zone ≡ get_or zones i zone) where
  pub one_kept : (old new : List Labelled) → AreKeptTo zones i old → KeepsBeside zones zone old new → AreKeptTo zones (i + 1) new
  one_kept old new so_far (inl e) = record {
    among = λ z h. elim (Contains-push_cases old zone z (subst (λ (zs : List Labelled). Contains zs z) e h)) [
      | inl k ↦ so_far.among z k
      | inr same ↦ subst (Contains zones) (sym is ∙ same) (Contains-get_or zones i zone small)
    ];
    first = λ z h. elim (Contains-take_cases zones i zone z small h) [
      | inl k ↦ elim (so_far.first z k) [ inl l ↦ inl (subst (λ (zs : List Labelled). Contains zs z) (sym e) (Contains-append_left old (zone ∷ []) z l)) | inr a ↦ inr a ]
      | inr same ↦ inl (subst (λ (zs : List Labelled). Contains zs z) (sym e) (subst (Contains (old ++ zone ∷ [])) (is ∙ same) (Contains-push old zone)))
    ];
  }
  one_kept old new so_far (inr (alone, e)) = record {
    among = λ z h. so_far.among z (subst (λ (zs : List Labelled). Contains zs z) e h);
    first = λ z h. elim (Contains-take_cases zones i zone z small h) [
      | inl k ↦ elim (so_far.first z k) [ inl l ↦ inl (subst (λ (zs : List Labelled). Contains zs z) (sym e) l) | inr a ↦ inr a ]
      | inr same ↦ inr (subst (IsAlone zones) (is ∙ same) alone)
    ];
  }

module _ (zones : List Labelled) (i : ℕ) (kept : List Labelled) (past : length zones ≤ i) (are : AreKeptTo zones i kept) where
  -- a zone that has a cell with one of another label is kept
  kept_beside : (x y : Labelled) (c : Cell) → Contains zones x → Contains zones y → Has x.rect c → Has y.rect c → (y.label ≡ x.label → ⊥) → Contains kept x
  kept_beside x y c x_in y_in x_has y_has differ = elim (are.first x (subst (λ (zs : List Labelled). Contains zs x) (sym (take_all i zones past)) x_in)) [
    | inl k ↦ k
    | inr alone ↦ absurd (differ (All-contains (λ (other : Labelled). Overlap other.rect x.rect → other.label ≡ x.label) zones y alone y_in (c, y_has, x_has)))
  ]

  pub all_kept : HaveSameBoth zones kept
  all_kept one other c = (
    λ h. record { lesser = h.lesser; in_one = back one h.in_one; in_other = back other h.in_other },
    λ h.
        let a = h.in_one.labelled in let b = h.in_other.labelled in let l = h.lesser in record {
          lesser = h.lesser;
          in_one = record {
            zone = h.in_one.zone;
            among = kept_beside h.in_one.zone h.in_other.zone c h.in_one.among h.in_other.among h.in_one.has h.in_other.has (λ e. differ h.in_one.zone.label h.in_other.zone.label a b l (sym e));
            labelled = a;
            has = h.in_one.has;
          };
          in_other = record {
            zone = h.in_other.zone;
            among = kept_beside h.in_other.zone h.in_one.zone c h.in_other.among h.in_one.among h.in_other.has h.in_one.has (differ h.in_one.zone.label h.in_other.zone.label a b l);
            labelled = b;
            has = h.in_other.has;
          };
        },
  ) where
    back : (label : ℕ) → IsInLabel kept label c → IsInLabel zones label c
    back label h = record { zone = h.zone; among = are.among h.zone h.among; labelled = h.labelled; has = h.has }

    differ : (m n : ℕ) → m ≡ one → n ≡ other → one < other → m ≡ n → ⊥
    differ m n e f less same = omega arith
