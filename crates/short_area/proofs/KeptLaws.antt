-- zones that meet one of another label, and what is kept of a list of zones
use Rattle.std.proofs.Common.{ℕ, ◌+◌, ◌<◌, ◌≤◌, ◌≡◌, ◌≢◌, ◌∙◌, sym, subst, List, [], ◌∷◌, ◌++◌, length, take, get_or, All, Contains}
use Rattle.lists.proofs.Words.{All-contains, All-nil, All-push, All-weaker, Contains-append_left, Contains-get_or, Contains-push}
use Rattle.geo_core.specs.Plane.{Overlap}
use Rattle.geo_core.specs.declared.plane.Labelled.{Labelled}
use Rattle.lists.proofs.Reading.{All-read, All-read_all}
use Rattle.short_area.specs.Zones.{IsInLabel}
use Rattle.short_area.specs.inside.ZonesNearCells.{HaveSameTwo, MeetsOther}

-- the zone has the label of the other, or no cell in common with it
abbrev pub IsApartFrom : Labelled → Labelled → Type 0
IsApartFrom zone other = other.label ≢ zone.label → Overlap other.rect zone.rect → ⊥

pub meets_none : (zones : List Labelled) (zone : Labelled) → All (IsApartFrom zone) zones → MeetsOther zones zone → ⊥
meets_none zones zone apart m = All-contains (IsApartFrom zone) zones m.other apart m.among m.different m.overlap

-- of the first so many zones those that meet another label are kept, and nothing else is
pub record KeptSoFar (zones : List Labelled) (k : ℕ) (kept : List Labelled) : Type 0 where
  pub no_others : All (Contains zones) kept
  pub each : All (λ (zone : Labelled). MeetsOther zones zone → Contains kept zone) (take k zones)

pub kept_none : (zones : List Labelled) → KeptSoFar zones 0 []
kept_none zones = record { no_others = All-nil (Contains zones); each = All-nil (λ (zone : Labelled). MeetsOther zones zone → Contains [] zone) }

module _ (zones : List Labelled) (k : ℕ) (kept : List Labelled) (so_far : KeptSoFar zones k kept) where
  pub kept_one : (zone : Labelled) → k < length zones → zone ≡ get_or zones k zone → (new : List Labelled) → new ≡ kept ++ zone ∷ [] → KeptSoFar zones (k + 1) new
  kept_one zone small is new e =
      let more = kept ++ zone ∷ [] in
      let one : Contains zones zone = subst (Contains zones) (sym is) (Contains-get_or zones k zone small) in
      let before = All-weaker (λ (z : Labelled). MeetsOther zones z → Contains kept z) (λ (z : Labelled). MeetsOther zones z → Contains more z)
      (λ z f m. Contains-append_left kept (zone ∷ []) z (f m)) (take k zones) so_far.each in
      subst (KeptSoFar zones (k + 1)) (sym e) (record {
        no_others = All-push (Contains zones) kept zone so_far.no_others one;
        each = All-read (λ (z : Labelled). MeetsOther zones z → Contains more z) zones k zone small is before (λ m. Contains-push kept zone);
      })

  pub left_one : (zone : Labelled) → k < length zones → zone ≡ get_or zones k zone → (MeetsOther zones zone → ⊥) → KeptSoFar zones (k + 1) kept
  left_one zone small is alone = record {
    no_others = so_far.no_others;
    each = All-read (λ (z : Labelled). MeetsOther zones z → Contains kept z) zones k zone small is so_far.each (λ m. absurd (alone m));
  }

  pub kept_all : length zones ≤ k → HaveSameTwo zones kept
  kept_all past c = (
    λ t. record { one = t.one; other = t.other; in_one = given t.one t.in_one; in_other = given t.other t.in_other; different = t.different },
    λ t. record {
      one = t.one;
      other = t.other;
      different = t.different;
      in_one = keeps t.one t.other t.in_one t.in_other (λ e. t.different (sym e));
      in_other = keeps t.other t.one t.in_other t.in_one t.different;
    },
  ) where
    given : (label : ℕ) → IsInLabel kept label c → IsInLabel zones label c
    given label h = record { zone = h.zone; among = All-contains (Contains zones) kept h.zone so_far.no_others h.among; labelled = h.labelled; has = h.has }

    keeps : (label which : ℕ) → IsInLabel zones label c → IsInLabel zones which c → which ≢ label → IsInLabel kept label c
    keeps label which h other different =
        let each = All-read_all (λ (z : Labelled). MeetsOther zones z → Contains kept z) zones k past so_far.each in
        let meets : MeetsOther zones h.zone = record { other = other.zone; among = other.among; different = λ e. different (sym other.labelled ∙ e ∙ h.labelled); overlap = (c, other.has, h.has) } in
        record { zone = h.zone; among = All-contains (λ (z : Labelled). MeetsOther zones z → Contains kept z) zones h.zone each h.among meets; labelled = h.labelled; has = h.has }
