-- runs of each label, label by label
use Rattle.std.proofs.Common.{ℕ, ◌+◌, ◌<◌, ◌≤◌, ◌≡◌, ◌≢◌, ◌∙◌, refl, sym, ap, subst, List, [], ◌∷◌, ◌++◌, length, take, take_all, map, get_or, inl, inr, ◌⊎◌, ◌↔◌, arith, Some, slice_get, All, AllPairs, append_assoc}
use Rattle.lists.proofs.Words.{All-append, All-contains, All-nil, All-push, All-weaker, append-nil, map-append, get_or_from_slice_get, slice_get_read, slice_get_within, IsPermutation, IsPermutation-sym, Contains-permutation}
use Rattle.geo_core.specs.Plane.{Has, IsInUnion}
use Rattle.geo_core.specs.declared.plane.Cell.{Cell}
use Rattle.geo_core.specs.declared.plane.Labelled.{Labelled}
use Rattle.geo_core.specs.declared.plane.Rect.{Rect}
use Rattle.lists.proofs.Comparing.{equal_or_not}
use Rattle.lists.proofs.Mapping.{Contains-map, Contains-map_from}
use Rattle.lists.proofs.Reading.{taken_more}
use Rattle.skyline_runs.specs.Runs.{AreApart, HaveSameCells}
use Rattle.skyline_runs.proofs.laws.DepthLaws.{two_none}
use Rattle.joined_rects.proofs.laws.ApartLaws.{TwoOfBoth, apart_few, two_apart, two_append}
use Rattle.fault_model.proofs.UnionLaws.{in_union, among_union, union_append, union_none}
use Rattle.short_area.specs.inside.LabelRuns.{AreRunsOf, AreRunsTo, GainsRuns, IsInZone}
use Rattle.short_area.specs.Zones.{IsInLabel, IsInTwoLabels}
use Rattle.short_area.proofs.laws.LabelLaws.{label_append, label_none}
use Rattle.short_area.proofs.ZoneLaws.{two_alike}

pub gains_few : (old new rects : List Rect) → length rects < 2 → new ≡ old ++ rects → GainsRuns old new rects
gains_few old new rects few e = record { gained = rects; new_is = e; same = λ c. (λ u. u, λ u. u); apart = apart_few rects few }

-- ---- a label more

abbrev rects_of : List Labelled → List Rect
rects_of = map (λ (zone : Labelled). zone.rect)

module _ (c : Cell) (back : List Labelled) (label : ℕ) (alike : All (λ (zone : Labelled). zone.label ≡ label) back) where
  union_of_label : IsInUnion (rects_of back) c ↔ IsInLabel back label c
  union_of_label = (
    λ u. let from = Contains-map_from (λ (zone : Labelled). zone.rect) back u.rect (among_union (rects_of back) c u) in record {
      zone = from.0;
      among = from.1;
      labelled = All-contains (λ (zone : Labelled). zone.label ≡ label) back from.0 alike from.1;
      has = subst (λ (r : Rect). Has r c) (sym from.2) u.has;
    },
    λ h. in_union (rects_of back) h.zone.rect c (Contains-map (λ (zone : Labelled). zone.rect) back h.zone h.among) h.has,
  )

  label_of : (which : ℕ) → IsInLabel back which c → which ≡ label
  label_of which h = sym h.labelled ∙ All-contains (λ (zone : Labelled). zone.label ≡ label) back h.zone alike h.among

  in_back : (which : ℕ) → IsInLabel back which c → IsInLabel back label c
  in_back which h = subst (λ (l : ℕ). IsInLabel back l c) (label_of which h) h

module _ (front back : List Labelled) (runs gained : List Rect) (label : ℕ) (lesser : All (λ (zone : Labelled). zone.label < label) front) (alike : All (λ (zone : Labelled). zone.label ≡ label) back)
    (runs_are : AreRunsOf front runs) (same : HaveSameCells (rects_of back) gained) (apart : AreApart gained) where
  lesser_of : (c : Cell) (which : ℕ) → IsInLabel front which c → which < label
  lesser_of c which h = subst (λ (l : ℕ). l < label) h.labelled (All-contains (λ (zone : Labelled). zone.label < label) front h.zone lesser h.among)

  gained_cells : (c : Cell) → IsInUnion gained c ↔ IsInLabel back label c
  gained_cells c = let union = union_of_label c back label alike in (λ u. union.0 ((same c).0 u), λ h. (same c).1 (union.1 h))

  some_joined : (c : Cell) → IsInUnion (runs ++ gained) c ↔ IsInZone (front ++ back) c
  some_joined c = (
    λ u. elim ((union_append c runs gained).0 u) [
      | inl v ↦ let z = (runs_are.some c).0 v in record { label = z.label; in_label = (label_append c front back z.label).1 (inl z.in_label) }
      | inr v ↦ record { label = label; in_label = (label_append c front back label).1 (inr ((gained_cells c).0 v)) }
    ],
    λ z. (union_append c runs gained).1 (elim ((label_append c front back z.label).0 z.in_label) [
      | inl h ↦ inl ((runs_are.some c).1 (record { label = z.label; in_label = h }))
      | inr h ↦ inr ((gained_cells c).1 (in_back c back label alike z.label h))
    ]),
  )

  -- a cell of both parts
  both : (c : Cell) (which : ℕ) → IsInLabel front which c → IsInLabel back label c → IsInUnion runs c × IsInUnion gained c
  both c which h k = ((runs_are.some c).1 (record { label = which; in_label = h }), (gained_cells c).1 k)

  two_labels_joined : (c : Cell) → TwoOfBoth c runs gained → IsInTwoLabels (front ++ back) c
  two_labels_joined c (inl t) =
      let two = (runs_are.twice c).0 t in record {
        one = two.one;
        other = two.other;
        different = two.different;
        in_one = (label_append c front back two.one).1 (inl two.in_one);
        in_other = (label_append c front back two.other).1 (inl two.in_other);
      }
  two_labels_joined c (inr (inl t)) = absurd (two_apart gained apart c t)
  two_labels_joined c (inr (inr h)) =
      let z = (runs_are.some c).0 h.0 in
      let less = lesser_of c z.label z.in_label in record {
        one = z.label;
        other = label;
        different = λ e. absurd (omega arith);
        in_one = (label_append c front back z.label).1 (inl z.in_label);
        in_other = (label_append c front back label).1 (inr ((gained_cells c).0 h.1));
      }

  two_runs_joined : (c : Cell) (t : IsInTwoLabels (front ++ back) c) → IsInLabel front t.one c ⊎ IsInLabel back t.one c → IsInLabel front t.other c ⊎ IsInLabel back t.other c → TwoOfBoth c runs gained
  two_runs_joined c t (inl h) (inl k) = inl ((runs_are.twice c).1 (record { one = t.one; other = t.other; in_one = h; in_other = k; different = t.different }))
  two_runs_joined c t (inl h) (inr k) = inr (inr (both c t.one h (in_back c back label alike t.other k)))
  two_runs_joined c t (inr h) (inl k) = inr (inr (both c t.other k (in_back c back label alike t.one h)))
  two_runs_joined c t (inr h) (inr k) = absurd (t.different (label_of c back label alike t.one h ∙ sym (label_of c back label alike t.other k)))

  runs_joined : AreRunsOf (front ++ back) (runs ++ gained)
  runs_joined = record {
    some = some_joined;
    twice = λ c. (
      λ t. two_labels_joined c ((two_append c runs gained).0 t),
      λ t. (two_append c runs gained).1 (two_runs_joined c t ((label_append c front back t.one).0 t.in_one) ((label_append c front back t.other).0 t.in_other)),
    );
  }

-- ---- zone by zone

pub runs_begun : (sorted : List Labelled) → AreRunsTo sorted 0 0 [] []
runs_begun sorted = record {
  front = [];
  back = [];
  so_far = refl;
  lesser = All-nil (λ (zone : Labelled). zone.label < 0);
  alike = All-nil (λ (zone : Labelled). zone.label ≡ 0);
  runs_are = record {
    some = λ c. (λ u. absurd (union_none c u), λ h. absurd (label_none c h.label h.in_label));
    twice = λ c. (λ t. absurd (two_none c t), λ t. absurd (label_none c t.one t.in_one));
  };
  listed_is = refl;
  rest = λ k zone up at. omega arith;
}

module _ (sorted : List Labelled) (i label : ℕ) (runs listed : List Rect) (h : AreRunsTo sorted i label runs listed) where
  -- the labels so far, when the listed rectangles became runs
  pub runs_so_far : (new : List Rect) → GainsRuns runs new listed → AreRunsOf (take i sorted) new
  runs_so_far new gains =
      let same = subst (λ (rects : List Rect). HaveSameCells rects gains.gained) h.listed_is gains.same in
      let joined = runs_joined h.front h.back runs gains.gained label h.lesser h.alike h.runs_are same gains.apart in
      subst (λ (zones : List Labelled). AreRunsOf zones new) (sym h.so_far) (subst (λ (xs : List Rect). AreRunsOf (h.front ++ h.back) xs) (sym gains.new_is) joined)

  module _ (zone : Labelled) (small : i < length sorted) (is : zone ≡ get_or sorted i zone) where
    -- a zone of the same label
    pub runs_same : (new : List Rect) → new ≡ listed ++ zone.rect ∷ [] → zone.label ≡ label → AreRunsTo sorted (i + 1) label runs new
    runs_same new e here = record {
      front = h.front;
      back = h.back ++ zone ∷ [];
      so_far = taken_more sorted i zone small is ∙ ap (λ (zs : List Labelled). zs ++ zone ∷ []) h.so_far ∙ append_assoc h.front h.back (zone ∷ []);
      lesser = h.lesser;
      alike = All-push (λ (z : Labelled). z.label ≡ label) h.back zone h.alike here;
      runs_are = h.runs_are;
      listed_is = e ∙ ap (λ (xs : List Rect). xs ++ zone.rect ∷ []) h.listed_is ∙ sym (map-append (λ (z : Labelled). z.rect) h.back (zone ∷ []));
      rest = λ k z up at. h.rest k z (omega arith) at;
    }

    -- the next label
    pub runs_next : (new : List Rect) → GainsRuns runs new listed → zone.label ≢ label → AllPairs (λ (a b : Labelled). a.label ≤ b.label) sorted → AreRunsTo sorted i zone.label new []
    runs_next new gains other ordered =
        let label_is : zone.label ≡ (get_or sorted i zone).label = ap (λ (z : Labelled). z.label) is in
        let at = some_at in
        let least = h.rest i zone (omega arith) at in
        let less : label < zone.label = omega arith in record {
          front = take i sorted;
          back = [];
          so_far = sym (append-nil (take i sorted));
          lesser = subst (All (λ (z : Labelled). z.label < zone.label)) (sym h.so_far) (All-append (λ (z : Labelled). z.label < zone.label) h.front h.back
              (All-weaker (λ (z : Labelled). z.label < label) (λ (z : Labelled). z.label < zone.label) (λ z l. omega arith) h.front h.lesser)
              (All-weaker (λ (z : Labelled). z.label ≡ label) (λ (z : Labelled). z.label < zone.label) (λ z l. omega arith) h.back h.alike));
          alike = All-nil (λ (z : Labelled). z.label ≡ zone.label);
          runs_are = runs_so_far new gains;
          listed_is = refl;
          rest = λ k z up at_k. elim (equal_or_not i k) [
            | inl e ↦
                let same : get_or sorted i zone ≡ z = get_or_from_slice_get sorted i z zone (subst (λ (n : ℕ). slice_get sorted n ≡ Some z) (sym e) at_k) in
                let labels : (get_or sorted i zone).label ≡ z.label = ap (λ (y : Labelled). y.label) same in omega arith
            | inr n ↦
                let a = ordered i k zone (omega arith) (slice_get_within sorted k z at_k) in
                let d : (get_or sorted k zone).label ≡ z.label = ap (λ (y : Labelled). y.label) (get_or_from_slice_get sorted k z zone at_k) in omega arith
          ];
        }
      where
        some_at : slice_get sorted i ≡ Some zone
        some_at = slice_get_read sorted (length sorted) i zone refl small is

-- all zones, in the order in which they were given
pub runs_all : (zones sorted : List Labelled) (i label : ℕ) (runs listed new : List Rect) → length sorted ≤ i → IsPermutation zones sorted → AreRunsTo sorted i label runs listed
    → GainsRuns runs new listed
    → AreRunsOf zones new
runs_all zones sorted i label runs listed new past moved h gains =
    let all = subst (λ (zs : List Labelled). AreRunsOf zs new) (take_all i sorted past) (runs_so_far sorted i label runs listed h new gains) in record {
      some = λ c. (
        λ u. let z = (all.some c).0 u in record { label = z.label; in_label = (there c z.label).0 z.in_label },
        λ z. (all.some c).1 (record { label = z.label; in_label = (there c z.label).1 z.in_label }),
      );
      twice = λ c. let same = two_alike c sorted zones (there c) in (λ t. same.0 ((all.twice c).0 t), λ t. (all.twice c).1 (same.1 t));
    }
  where
    there : (c : Cell) (label : ℕ) → IsInLabel sorted label c ↔ IsInLabel zones label c
    there c label = (
      λ k. record { zone = k.zone; among = Contains-permutation sorted zones k.zone (IsPermutation-sym zones sorted moved) k.among; labelled = k.labelled; has = k.has },
      λ k. record { zone = k.zone; among = Contains-permutation zones sorted k.zone moved k.among; labelled = k.labelled; has = k.has },
    )
