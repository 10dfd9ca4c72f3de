-- runs of each label, label by label
use Rattle.std.proofs.Common.{ℕ, suc, ◌+◌, ◌<◌, ◌≤◌, ◌≡◌, ◌≢◌, ◌∙◌, refl, sym, ap, subst, List, [], ◌∷◌, ◌++◌, length, take, take_all, map, get_or, inl, inr, ◌↔◌, arith, Some, slice_get, All, AllPairs, Contains, append_assoc}
use Rattle.lists.proofs.Words.{All-append, All-contains, All-nil, All-push, All-weaker, AllPairs-cons, append-nil, map-append, map_more, get_or_from_slice_get, slice_get_read, slice_get_within, IsPermutation, IsPermutation-sym, Contains-permutation}
use Rattle.geo_core.specs.Plane.{Has, IsInUnion}
use Rattle.geo_core.specs.declared.plane.Cell.{Cell}
use Rattle.geo_core.specs.declared.plane.Labelled.{Labelled}
use Rattle.geo_core.specs.declared.plane.Rect.{Rect}
use Rattle.lists.proofs.Comparing.{equal_or_not}
use Rattle.lists.proofs.Containing.{all_of_each}
use Rattle.lists.proofs.Differing.{AllPairs-map, AllPairs-tail}
use Rattle.lists.proofs.Mapping.{Contains-map, Contains-map_from}
use Rattle.lists.proofs.Reading.{taken_more}
use Rattle.skyline_runs.specs.Runs.{AreApart, HaveSameCells}
use Rattle.fault_model.proofs.UnionLaws.{among_union, corner_of, in_union}
use Rattle.short_area.specs.Zones.{IsInLabel}
use Rattle.short_area.proofs.laws.LabelLaws.{label_append}
use Rattle.net_pairs.specs.inside.RunsOfLabels.{AreRunsOf, AreRunsTo, GainsRuns, IsApart, with_label}

-- what holds of each two items of a list and of another, and of each item of the one with each of the other
AllPairs-append : {X : Type 0} (R : X → X → Type 0) (xs ys : List X) → AllPairs R xs → AllPairs R ys → ((x y : X) → Contains xs x → Contains ys y → R x y) → AllPairs R (xs ++ ys)
AllPairs-append R [] ys one other across = other
AllPairs-append {X} R (x ∷ xs) ys one other across =
    let first : All (R x) xs = λ k d small. one 0 (suc k) d (omega arith) (omega arith) in
    let rest : All (R x) ys = all_of_each (R x) ys (λ y h. across x y (0, omega arith, refl) h) in
    AllPairs-cons R x (xs ++ ys) (All-append (R x) xs ys first rest)
    (AllPairs-append R xs ys (AllPairs-tail R x xs one) other (λ a b (k, small, e) h. across a b (suc k, omega arith, e) h))

-- rectangles with a label, one after the other
module _ (label : ℕ) (rects : List Rect) (k : ℕ) (base old : List Labelled) where
  pub labelled_more : (new : List Labelled) (rect : Rect) → k < length rects → rect ≡ get_or rects k rect → old ≡ base ++ map (with_label label) (take k rects) → new ≡ old ++ with_label label rect ∷ []
      → new ≡ base ++ map (with_label label) (take (k + 1) rects)
  labelled_more new rect small is so_far e =
      e ∙ ap (λ (xs : List Labelled). xs ++ with_label label rect ∷ []) so_far ∙ append_assoc base (map (with_label label) (take k rects)) (with_label label rect ∷ [])
      ∙ ap (λ (xs : List Labelled). base ++ xs) (ap (λ (r : Rect). map (with_label label) (take k rects) ++ with_label label r ∷ []) is ∙ sym (map_more (with_label label) rects k rect small))

  pub labelled_all : length rects ≤ k → old ≡ base ++ map (with_label label) (take k rects) → old ≡ base ++ map (with_label label) rects
  labelled_all past so_far = so_far ∙ ap (λ (rs : List Rect). base ++ map (with_label label) rs) (take_all k rects past)

-- ---- a label more

abbrev rects_of : List Labelled → List Rect
rects_of = map (λ (zone : Labelled). zone.rect)

module _ (c : Cell) (back : List Labelled) (label : ℕ) (alike : All (λ (zone : Labelled). zone.label ≡ label) back) where
  union_of_label : IsInUnion (rects_of back) c ↔ IsInLabel back label c
  union_of_label = (
    λ u. let from = Contains-map_from (λ (zone : Labelled). zone.rect) back u.rect (among_union (rects_of back) c u) in record {
      zone = from.0;
      among = from.1;
      labelled = All-contains (λ (zone : Labelled). zone.label ≡ label) back from.0 alike from.1;
      has = subst (λ (r : Rect). Has r c) (sym from.2) u.has;
    },
    λ h. in_union (rects_of back) h.zone.rect c (Contains-map (λ (zone : Labelled). zone.rect) back h.zone h.among) h.has,
  )

  label_of : (which : ℕ) → IsInLabel back which c → which ≡ label
  label_of which h = sym h.labelled ∙ All-contains (λ (zone : Labelled). zone.label ≡ label) back h.zone alike h.among

-- rectangles with a label have the cells of that label
union_with_label : (c : Cell) (rects : List Rect) (label which : ℕ) → IsInLabel (map (with_label label) rects) which c ↔ ((label ≡ which) × IsInUnion rects c)
union_with_label c rects label which = (
  λ h. let from = Contains-map_from (with_label label) rects h.zone h.among in (
    ap (λ (z : Labelled). z.label) from.2 ∙ h.labelled,
    in_union rects from.0 c from.1 (subst (λ (z : Labelled). Has z.rect c) (sym from.2) h.has),
  ),
  λ h. record { zone = with_label label h.1.rect; among = Contains-map (with_label label) rects h.1.rect (among_union rects c h.1); labelled = h.0; has = h.1.has },
)

module _ (front back : List Labelled) (runs : List Labelled) (gained : List Rect) (label : ℕ) (lesser : All (λ (zone : Labelled). zone.label < label) front)
    (alike : All (λ (zone : Labelled). zone.label ≡ label) back) (runs_are : AreRunsOf front runs) (same : HaveSameCells (rects_of back) gained) (apart : AreApart gained) where
  abbrev more : List Labelled
  more = map (with_label label) gained

  cells_of_more : (c : Cell) (which : ℕ) → IsInLabel more which c ↔ IsInLabel back which c
  cells_of_more c which =
      let with = union_with_label c gained label which in let union = union_of_label c back label alike in (
        λ h. let k = with.0 h in subst (λ (l : ℕ). IsInLabel back l c) k.0 (union.0 ((same c).0 k.1)),
        λ h. let e = label_of c back label alike which h in with.1 (sym e, (same c).1 (union.1 (subst (λ (l : ℕ). IsInLabel back l c) e h))),
      )

  cells_joined : (c : Cell) (which : ℕ) → IsInLabel (runs ++ more) which c ↔ IsInLabel (front ++ back) which c
  cells_joined c which =
      let both = label_append c runs more which in let zones = label_append c front back which in
      let one = runs_are.cells c which in let other = cells_of_more c which in (
        λ h. zones.1 (elim (both.0 h) [ inl k ↦ inl (one.0 k) | inr k ↦ inr (other.0 k) ]),
        λ h. both.1 (elim (zones.0 h) [ inl k ↦ inl (one.1 k) | inr k ↦ inr (other.1 k) ]),
      )

  -- the runs so far have lesser labels, since each has a cell
  run_lesser : (run : Labelled) → Contains runs run → run.label < label
  run_lesser run among =
      let corner = corner_of run.rect in
      let h = (runs_are.cells corner.0 run.label).0 (record { zone = run; among = among; labelled = refl; has = corner.1 }) in
      subst (λ (l : ℕ). l < label) h.labelled (All-contains (λ (zone : Labelled). zone.label < label) front h.zone lesser h.among)

  more_labelled : (run : Labelled) → Contains more run → run.label ≡ label
  more_labelled run among = let from = Contains-map_from (with_label label) gained run among in sym (ap (λ (z : Labelled). z.label) from.2)

  runs_joined : AreRunsOf (front ++ back) (runs ++ more)
  runs_joined = record {
    cells = cells_joined;
    apart = AllPairs-append IsApart runs more runs_are.apart (AllPairs-map IsApart (with_label label) gained (λ i j d before within. inr (refl, apart i j d before within)))
        (λ x y h k. let l = run_lesser x h in let e = more_labelled y k in inl (omega arith));
  }

-- ---- zone by zone

pub runs_begun : (sorted : List Labelled) → AreRunsTo sorted 0 0 [] []
runs_begun sorted = record {
  front = [];
  back = [];
  so_far = refl;
  lesser = All-nil (λ (zone : Labelled). zone.label < 0);
  alike = All-nil (λ (zone : Labelled). zone.label ≡ 0);
  runs_are = record { cells = λ c label. (λ h. h, λ h. h); apart = λ i j d before within. absurd (omega arith) };
  listed_is = refl;
  rest = λ k zone up at. omega arith;
}

module _ (sorted : List Labelled) (i label : ℕ) (runs : List Labelled) (listed : List Rect) (h : AreRunsTo sorted i label runs listed) where
  -- the labels so far, when the listed rectangles became runs
  pub runs_so_far : (new : List Labelled) → GainsRuns runs new listed label → AreRunsOf (take i sorted) new
  runs_so_far new gains =
      let same = subst (λ (rects : List Rect). HaveSameCells rects gains.gained) h.listed_is gains.same in
      let joined = runs_joined h.front h.back runs gains.gained label h.lesser h.alike h.runs_are same gains.apart in
      subst (λ (zones : List Labelled). AreRunsOf zones new) (sym h.so_far) (subst (λ (xs : List Labelled). AreRunsOf (h.front ++ h.back) xs) (sym gains.new_is) joined)

  module _ (zone : Labelled) (small : i < length sorted) (is : zone ≡ get_or sorted i zone) where
    -- a zone of the same label
    pub runs_same : (new : List Rect) → new ≡ listed ++ zone.rect ∷ [] → zone.label ≡ label → AreRunsTo sorted (i + 1) label runs new
    runs_same new e here = record {
      front = h.front;
      back = h.back ++ zone ∷ [];
      so_far = taken_more sorted i zone small is ∙ ap (λ (zs : List Labelled). zs ++ zone ∷ []) h.so_far ∙ append_assoc h.front h.back (zone ∷ []);
      lesser = h.lesser;
      alike = All-push (λ (z : Labelled). z.label ≡ label) h.back zone h.alike here;
      runs_are = h.runs_are;
      listed_is = e ∙ ap (λ (xs : List Rect). xs ++ zone.rect ∷ []) h.listed_is ∙ sym (map-append (λ (z : Labelled). z.rect) h.back (zone ∷ []));
      rest = λ k z up at. h.rest k z (omega arith) at;
    }

    -- the next label
    pub runs_next : (new : List Labelled) → GainsRuns runs new listed label → zone.label ≢ label → AllPairs (λ (a b : Labelled). a.label ≤ b.label) sorted → AreRunsTo sorted i zone.label new []
    runs_next new gains other ordered =
        let label_is : zone.label ≡ (get_or sorted i zone).label = ap (λ (z : Labelled). z.label) is in
        let at = some_at in
        let least = h.rest i zone (omega arith) at in
        let less : label < zone.label = omega arith in record {
          front = take i sorted;
          back = [];
          so_far = sym (append-nil (take i sorted));
          lesser = subst (All (λ (z : Labelled). z.label < zone.label)) (sym h.so_far) (All-append (λ (z : Labelled). z.label < zone.label) h.front h.back
              (All-weaker (λ (z : Labelled). z.label < label) (λ (z : Labelled). z.label < zone.label) (λ z l. omega arith) h.front h.lesser)
              (All-weaker (λ (z : Labelled). z.label ≡ label) (λ (z : Labelled). z.label < zone.label) (λ z l. omega arith) h.back h.alike));
          alike = All-nil (λ (z : Labelled). z.label ≡ zone.label);
          runs_are = runs_so_far new gains;
          listed_is = refl;
          rest = λ k z up at_k. elim (equal_or_not i k) [
            | inl e ↦
                let same : get_or sorted i zone ≡ z = get_or_from_slice_get sorted i z zone (subst (λ (n : ℕ). slice_get sorted n ≡ Some z) (sym e) at_k) in
                let labels : (get_or sorted i zone).label ≡ z.label = ap (λ (y : Labelled). y.label) same in omega arith
            | inr n ↦
                let a = ordered i k zone (omega arith) (slice_get_within sorted k z at_k) in
                let d : (get_or sorted k zone).label ≡ z.label = ap (λ (y : Labelled). y.label) (get_or_from_slice_get sorted k z zone at_k) in omega arith
          ];
        }
      where
        some_at : slice_get sorted i ≡ Some zone
        some_at = slice_get_read sorted (length sorted) i zone refl small is

-- all zones, in the order in which they were given
pub runs_all : (zones sorted : List Labelled) (i label : ℕ) (runs : List Labelled) (listed : List Rect) (new : List Labelled) → length sorted ≤ i → IsPermutation zones sorted
    → AreRunsTo sorted i label runs listed → GainsRuns runs new listed label → AreRunsOf zones new
runs_all zones sorted i label runs listed new past moved h gains =
    let all = subst (λ (zs : List Labelled). AreRunsOf zs new) (take_all i sorted past) (runs_so_far sorted i label runs listed h new gains) in record {
      cells = λ c which. (
        λ u. let k = (all.cells c which).0 u in
            record { zone = k.zone; among = Contains-permutation sorted zones k.zone (IsPermutation-sym zones sorted moved) k.among; labelled = k.labelled; has = k.has },
        λ k. (all.cells c which).1 (record { zone = k.zone; among = Contains-permutation zones sorted k.zone moved k.among; labelled = k.labelled; has = k.has }),
      );
      apart = all.apart;
    }
