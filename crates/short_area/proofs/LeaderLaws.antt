-- where one label has most of the zones: the others, what lies within their bounds, and their runs
use Rattle.std.proofs.Common.{ℕ, ◌+◌, ◌-◌, ◌^◌, ◌<◌, ◌≤◌, ◌≡◌, ◌≢◌, ◌∙◌, ap, refl, sym, subst, inl, inr, ◌⊎◌, ◌↔◌}
use Rattle.std.proofs.Common.{List, [], ◌∷◌, ◌++◌, length, take, take_all, get_or, Result, IfOk}
use Rattle.geo_core.specs.Plane.{Has, IsInUnion, IsJoin}
use Rattle.geo_core.specs.declared.plane.Cell.{Cell}
use Rattle.geo_core.specs.declared.plane.Labelled.{Labelled}
use Rattle.geo_core.specs.declared.plane.Rect.{Rect}
use Rattle.fault_model.specs.FaultNames.{IsBoundsOf, Tally, cells_of}
use Rattle.fault_model.proofs.UnionLaws.{union_append, union_none, union_push}
use Rattle.union_area.proofs.laws.PartLaws.{few_tallied}
use Rattle.lists.proofs.Comparing.{equal_or_not}
use Rattle.skyline_runs.specs.Runs.{IsInTwo}
use Rattle.joined_rects.proofs.laws.ApartLaws.{two_append}
use Rattle.short_area.specs.inside.LabelRuns.{AreRunsOf, IsInZone}
use Rattle.short_area.specs.inside.Leaders.{AreOthers, ArePartsIn, GainsPart, IsBesideRun}
use Rattle.short_area.specs.Zones.{IsCountOf, IsInLabel, IsInTwoLabels}
use Rattle.short_area.proofs.Counting.{count_alike, tally_of_both}
use Rattle.short_area.proofs.laws.LabelLaws.{label_more, label_none, label_push}

-- ---- zones of the other labels

pub others_none : (leader : ℕ) → AreOthers [] leader []
others_none leader c label = (λ h. absurd (label_none c label h), λ h. absurd (label_none c label h.0))

module _ (zones : List Labelled) (i : ℕ) (zone : Labelled) (leader : ℕ) (others : List Labelled) (small : i < length zones) (is : zone ≡ get_or zones i zone)
    (so_far : AreOthers (take i zones) leader others) where
  pub others_one : (new : List Labelled) → new ≡ others ++ zone ∷ [] → zone.label ≢ leader → AreOthers (take (i + 1) zones) leader new
  others_one new e other = subst (λ (xs : List Labelled). AreOthers (take (i + 1) zones) leader xs) (sym e) (λ c label.
      let more = label_more c zones i zone label small is in
      let push = label_push c others zone label in (
        λ h. elim (push.0 h) [
          | inl k ↦ let was = (so_far c label).0 k in (more.1 (inl was.0), was.1)
          | inr k ↦ (more.1 (inr k), λ f. other (k.0 ∙ sym f))
        ],
        λ h. push.1 (elim (more.0 h.0) [ inl k ↦ inl ((so_far c label).1 (k, h.1)) | inr k ↦ inr k ]),
      ))

  pub others_same : zone.label ≡ leader → AreOthers (take (i + 1) zones) leader others
  others_same here c label =
      let more = label_more c zones i zone label small is in (
        λ h. let was = (so_far c label).0 h in (more.1 (inl was.0), was.1),
        λ h. elim (more.0 h.0) [ inl k ↦ (so_far c label).1 (k, h.1) | inr k ↦ absurd (h.1 (sym here ∙ k.0)) ],
      )

pub others_all : (zones : List Labelled) (i leader : ℕ) (others : List Labelled) → length zones ≤ i → AreOthers (take i zones) leader others → AreOthers zones leader others
others_all zones i leader others past h = subst (λ (ys : List Labelled). AreOthers ys leader others) (take_all i zones past) h

-- ---- the bounds of zones

-- the bounds of the first so many zones, which lie within those of all
pub record AreBoundsTo (zones : List Labelled) (i : ℕ) (bounds : Rect) : Type 0 where
  pub all_in : (c : Cell) → IsInZone (take i zones) c → Has bounds c
  pub least : (other : Rect) → ((c : Cell) → IsInZone zones c → Has other c) → (c : Cell) → Has bounds c → Has other c

module _ (zones : List Labelled) where
  zone_at : (i : ℕ) (zone : Labelled) → i < length zones → zone ≡ get_or zones i zone → (c : Cell) → Has zone.rect c → IsInZone zones c
  zone_at i zone small is c has = record { label = zone.label; in_label = record { zone = zone; among = (i, small, sym is); labelled = refl; has = has } }

  pub bounds_begun : (first : Labelled) → 0 < length zones → first ≡ get_or zones 0 first → AreBoundsTo zones 0 first.rect
  bounds_begun first some is = record {
    all_in = λ c z. absurd (label_none c z.label z.in_label);
    least = λ other all c has. all c (zone_at 0 first some is c has);
  }

  pub bounds_more : (i : ℕ) (zone : Labelled) (bounds joined : Rect) → i < length zones → zone ≡ get_or zones i zone → IsJoin bounds zone.rect joined → AreBoundsTo zones i bounds
      → AreBoundsTo zones (i + 1) joined
  bounds_more i zone bounds joined small is join so_far = record {
    all_in = λ c z. elim ((label_more c zones i zone z.label small is).0 z.in_label) [
      | inl k ↦ join.first c (so_far.all_in c (record { label = z.label; in_label = k }))
      | inr k ↦ join.second c k.1
    ];
    least = λ other all. join.least other (so_far.least other all) (λ c has. all c (zone_at i zone small is c has));
  }

  pub bounds_all : (i : ℕ) (bounds : Rect) → length zones ≤ i → AreBoundsTo zones i bounds → IsBoundsOf (IsInZone zones) bounds
  bounds_all i bounds past so_far =
      record { all_in = subst (λ (ys : List Labelled). (c : Cell) → IsInZone ys c → Has bounds c) (take_all i zones past) so_far.all_in; least = so_far.least }

-- ---- what zones have within bounds

pub gains_part : (old new : List Rect) (zone : Labelled) (label : ℕ) (bounds part : Rect) → zone.label ≡ label → ((c : Cell) → Has part c ↔ (Has zone.rect c × Has bounds c))
    → new ≡ old ++ part ∷ [] → GainsPart old new zone label bounds
gains_part old new zone label bounds part here common e =
    subst (λ (xs : List Rect). GainsPart old xs zone label bounds) (sym e) (λ c.
    let push = union_push c old part in (
      λ u. elim (push.0 u) [ inl k ↦ inl k | inr has ↦ let both = (common c).0 has in inr (here, both.0, both.1) ],
      λ h. push.1 (elim h [ inl k ↦ inl k | inr k ↦ inr ((common c).1 (k.1, k.2)) ]),
    ))

pub parts_none : (label : ℕ) (bounds : Rect) → ArePartsIn [] label bounds []
parts_none label bounds c = (λ u. absurd (union_none c u), λ h. absurd (label_none c label h.0))

pub parts_more : (zones : List Labelled) (i : ℕ) (zone : Labelled) (label : ℕ) (bounds : Rect) (old new : List Rect) → i < length zones → zone ≡ get_or zones i zone
    → GainsPart old new zone label bounds → ArePartsIn (take i zones) label bounds old → ArePartsIn (take (i + 1) zones) label bounds new
parts_more zones i zone label bounds old new small is gains so_far c =
    let more = label_more c zones i zone label small is in (
      λ u. elim ((gains c).0 u) [ inl k ↦ let was = (so_far c).0 k in (more.1 (inl was.0), was.1) | inr k ↦ (more.1 (inr (k.0, k.1)), k.2) ],
      λ h. (gains c).1 (elim (more.0 h.0) [ inl k ↦ inl ((so_far c).1 (k, h.1)) | inr k ↦ inr (k.0, k.1, h.1) ]),
    )

pub parts_all : (zones : List Labelled) (i label : ℕ) (bounds : Rect) (parts : List Rect) → length zones ≤ i
    → ArePartsIn (take i zones) label bounds parts → ArePartsIn zones label bounds parts
parts_all zones i label bounds parts past h = subst (λ (ys : List Labelled). ArePartsIn ys label bounds parts) (take_all i zones past) h

-- ---- a list of rectangles that stands beside runs

module _ (c : Cell) (own runs : List Rect) where
  one_of_two : (rects : List Rect) → IsInTwo rects c → IsInUnion rects c
  one_of_two rects t = record { number = t.first; rect = t.one; at = t.one_at; has = t.one_has }

  -- the list twice and the runs once: its cells, and those of two runs
  twice_with : IsInTwo (own ++ runs ++ own) c ↔ (IsInUnion own c ⊎ IsInTwo runs c)
  twice_with = (
    λ t. elim ((two_append c (own ++ runs) own).0 t) [
      | inl s ↦ elim ((two_append c own runs).0 s) [ inl k ↦ inl (one_of_two own k) | inr (inl k) ↦ inr k | inr (inr k) ↦ inl k.0 ]
      | inr (inl s) ↦ inl (one_of_two own s)
      | inr (inr s) ↦ inl s.1
    ],
    λ h. (two_append c (own ++ runs) own).1 (elim h [ inl u ↦ inr (inr ((union_append c own runs).1 (inl u), u)) | inr t ↦ inl ((two_append c own runs).1 (inr (inl t))) ]),
  )

  -- the list and the runs together
  either_with : IsInUnion (own ++ runs) c ↔ (IsInTwo (own ++ runs ++ own) c ⊎ IsInUnion runs c)
  either_with = (
    λ u. elim ((union_append c own runs).0 u) [ inl k ↦ inl (twice_with.1 (inl k)) | inr k ↦ inr k ],
    λ h. (union_append c own runs).1 (elim h [
      | inl t ↦ elim (twice_with.0 t) [ inl k ↦ inl k | inr k ↦ inr (one_of_two runs k) ]
      | inr k ↦ inr k
    ]),
  )

  both_with : (IsInTwo (own ++ runs ++ own) c × IsInUnion runs c) ↔ IsBesideRun own runs c
  both_with = (λ h. record { in_run = h.1; beside = twice_with.0 h.0 }, λ b. (twice_with.1 b.beside, b.in_run))

-- the tally of the list twice and the runs once, and that of the runs, less that of both together
pub tally_beside_runs : (window : Rect) (own runs first second either third thrice : List Rect) (m n k : ℕ) → first ≡ own → second ≡ first ++ runs
    → either ≡ second → third ≡ second ++ own → thrice ≡ third
    → Tally (IsInTwo thrice) (cells_of window) m → Tally (IsInUnion runs) (cells_of window) n → Tally (IsInUnion either) (cells_of window) k
    → (k ≤ m + n) × Tally (IsBesideRun own runs) (cells_of window) (m + n - k) × (m + n - k < 2 ^ 63)
tally_beside_runs window own runs first second either third thrice m n k is_own is_second is_either is_third is_thrice s t u =
    let two : second ≡ own ++ runs = is_second ∙ ap (λ (xs : List Rect). xs ++ runs) is_own in
    let three : thrice ≡ own ++ runs ++ own = is_thrice ∙ is_third ∙ ap (λ (xs : List Rect). xs ++ own) two in
    let told = tally_of_both (IsInTwo (own ++ runs ++ own)) (IsInUnion runs) (IsInUnion (own ++ runs)) (IsBesideRun own runs) (cells_of window) m n k (λ c. either_with c own runs)
    (λ c. both_with c own runs) (subst (λ (xs : List Rect). Tally (IsInTwo xs) (cells_of window) m) three s) t
    (subst (λ (xs : List Rect). Tally (IsInUnion xs) (cells_of window) k) (is_either ∙ two) u) in (told.0, told.1, few_tallied window (m + n - k) told.1)

-- ---- the cells of two labels

module _ (zones others : List Labelled) (leader : ℕ) (bounds : Rect) (own runs : List Rect) (split : AreOthers zones leader others) (round : IsBoundsOf (IsInZone others) bounds)
    (parts : ArePartsIn zones leader bounds own) (runs_are : AreRunsOf others runs) where
  -- a cell of the leader and of another label
  beside_leader : (c : Cell) (label : ℕ) → IsInLabel zones leader c → IsInLabel zones label c → leader ≢ label → IsBesideRun own runs c
  beside_leader c label here there different =
      let z : IsInZone others c = record { label = label; in_label = (split c label).1 (there, different) } in
      record { in_run = (runs_are.some c).1 z; beside = inl ((parts c).1 (here, round.all_in c z)) }

  two_labels_beside : (c : Cell) → IsBesideRun own runs c → IsInTwoLabels zones c
  two_labels_beside c b = elim b.beside [
    | inl u ↦
        let z = (runs_are.some c).0 b.in_run in
        let there = (split c z.label).0 z.in_label in record { one = leader; other = z.label; in_one = ((parts c).0 u).0; in_other = there.0; different = there.1 }
    | inr t ↦ let two = (runs_are.twice c).0 t in
        record { one = two.one; other = two.other; in_one = ((split c two.one).0 two.in_one).0; in_other = ((split c two.other).0 two.in_other).0; different = two.different }
  ]

  beside_two_labels : (c : Cell) → IsInTwoLabels zones c → IsBesideRun own runs c
  beside_two_labels c t = elim (equal_or_not leader t.one) [
    | inl e ↦ beside_leader c t.other (subst (λ (l : ℕ). IsInLabel zones l c) (sym e) t.in_one) t.in_other (λ f. t.different (sym e ∙ f))
    | inr n ↦ elim (equal_or_not leader t.other) [
      | inl e ↦ beside_leader c t.one (subst (λ (l : ℕ). IsInLabel zones l c) (sym e) t.in_other) t.in_one n
      | inr m ↦
          let one = (split c t.one).1 (t.in_one, n) in
          let two : IsInTwoLabels others c = record { one = t.one; other = t.other; in_one = one; in_other = (split c t.other).1 (t.in_other, m); different = t.different } in
          record { in_run = (runs_are.some c).1 (record { label = t.one; in_label = one }); beside = inr ((runs_are.twice c).1 two) }
    ]
  ]

  pub count_by_leader : (window : Rect) (n : ℕ) → Tally (IsBesideRun own runs) (cells_of window) n → n < 2 ^ 63 → IsCountOf zones window n
  count_by_leader window n = count_alike (IsBesideRun own runs) zones window n (λ c at. (two_labels_beside c, beside_two_labels c))
