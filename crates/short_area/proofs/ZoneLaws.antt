-- labels at a cell: two of them, those but one, and as lists of zones are made
use Rattle.std.proofs.Common.{ℕ, ◌+◌, ◌<◌, ◌≤◌, ◌≡◌, ◌≢◌, ◌∙◌, sym, subst, List, [], ◌∷◌, ◌++◌, length, take, take_all, get_or, inl, inr, ◌⊎◌, ◌↔◌, refl, Option, Some, None, IfSome, IfNone, All}
use Rattle.lists.proofs.Words.{All-contains}
use Rattle.geo_core.specs.Plane.{Has, IsInUnion}
use Rattle.geo_core.specs.declared.plane.Cell.{Cell}
use Rattle.geo_core.specs.declared.plane.Labelled.{Labelled}
use Rattle.geo_core.specs.declared.plane.Rect.{Rect}
use Rattle.lists.proofs.Comparing.{equal_or_not}
use Rattle.fault_model.proofs.UnionLaws.{union_none, union_push}
use Rattle.skyline_runs.specs.Runs.{AreApart, IsInTwo}
use Rattle.joined_rects.proofs.laws.ApartLaws.{two_append, two_apart}
use Rattle.union_area.specs.WindowParts.{HasAllOf}
use Rattle.short_area.specs.Zones.{AreAlikeIn, IsInLabel, IsInTwoLabels}
use Rattle.short_area.proofs.laws.LabelLaws.{label_more, label_none, label_push}
use Rattle.short_area.specs.inside.ZonesNearCells.{AreSplit, GainsZone, HaveNoThird, IsInOthers, IsInside, IsWholeIn}

module _ (c : Cell) where
  -- where the labels at the cell are the same, so are two of them
  pub two_alike : (xs ys : List Labelled) → ((label : ℕ) → IsInLabel xs label c ↔ IsInLabel ys label c) → IsInTwoLabels xs c ↔ IsInTwoLabels ys c
  two_alike xs ys same = (
    λ t. record { one = t.one; other = t.other; in_one = (same t.one).0 t.in_one; in_other = (same t.other).0 t.in_other; different = t.different },
    λ t. record { one = t.one; other = t.other; in_one = (same t.one).1 t.in_one; in_other = (same t.other).1 t.in_other; different = t.different },
  )

  -- ---- the labels but one

  pub others_more : (zones : List Labelled) (i : ℕ) (zone : Labelled) (label : ℕ) → i < length zones → zone ≡ get_or zones i zone
      → IsInOthers (take (i + 1) zones) label c ↔ (IsInOthers (take i zones) label c ⊎ ((label ≢ zone.label) × Has zone.rect c))
  others_more zones i zone label small is = (
    λ h. elim ((label_more c zones i zone h.other small is).0 h.in_other) [
      | inl k ↦ inl (record { other = h.other; in_other = k; different = h.different })
      | inr k ↦ inr (λ e. h.different (e ∙ k.0), k.1)
    ],
    λ h. elim h [
      | inl k ↦ record { other = k.other; in_other = (label_more c zones i zone k.other small is).1 (inl k.in_other); different = k.different }
      | inr k ↦ record { other = zone.label; in_other = (label_more c zones i zone zone.label small is).1 (inr (refl, k.1)); different = k.0 }
    ],
  )

  -- where a label has the cell, two labels do where another one does
  pub beside_whole : (zones : List Labelled) (label : ℕ) → IsInLabel zones label c → IsInOthers zones label c ↔ IsInTwoLabels zones c
  beside_whole zones label here = (
    λ o. record { one = label; other = o.other; in_one = here; in_other = o.in_other; different = o.different },
    λ t. elim (equal_or_not label t.one) [
      | inl e ↦ record { other = t.other; in_other = t.in_other; different = λ f. t.different (sym e ∙ f) }
      | inr n ↦ record { other = t.one; in_other = t.in_one; different = n }
    ],
  )

  -- where there is no third label, two labels have the cell where both do
  pub both_of_two : (zones : List Labelled) (one other : ℕ) → HaveNoThird zones one other → (IsInLabel zones one c × IsInOthers zones one c) ↔ IsInTwoLabels zones c
  both_of_two zones one other alone = (
    λ h. record { one = one; other = h.1.other; in_one = h.0; in_other = h.1.in_other; different = h.1.different },
    λ t. elim (equal_or_not one t.one) [
      | inl e ↦ (subst (λ (l : ℕ). IsInLabel zones l c) (sym e) t.in_one, record { other = t.other; in_other = t.in_other; different = λ f. t.different (sym e ∙ f) })
      | inr n ↦ elim (equal_or_not one t.other) [
        | inl e ↦ (subst (λ (l : ℕ). IsInLabel zones l c) (sym e) t.in_other, record { other = t.one; in_other = t.in_one; different = n })
        | inr m ↦ absurd (t.different (second t.one t.in_one n ∙ sym (second t.other t.in_other m)))
      ]
    ],
  ) where
    second : (label : ℕ) → IsInLabel zones label c → one ≢ label → label ≡ other
    second label h n =
        sym h.labelled ∙ All-contains (λ (zone : Labelled). one ≢ zone.label → zone.label ≡ other) zones h.zone alone h.among (λ e. n (e ∙ h.labelled))

-- ---- lists of zones

-- zones of one label alone
pub one_label_alone : (zones : List Labelled) (label : ℕ) → All (λ (zone : Labelled). zone.label ≡ label) zones → (c : Cell) → IsInTwoLabels zones c → ⊥
one_label_alone zones label alike c t =
    let one = All-contains (λ (zone : Labelled). zone.label ≡ label) zones t.in_one.zone alike t.in_one.among in
    let other = All-contains (λ (zone : Labelled). zone.label ≡ label) zones t.in_other.zone alike t.in_other.among in
    t.different (sym t.in_one.labelled ∙ one ∙ sym other ∙ t.in_other.labelled)

-- a list that gains a zone, where there is a rectangle
pub gains_some : (old new : List Labelled) (rect : Rect) (label : ℕ) (zone : Labelled) → zone.rect ≡ rect → zone.label ≡ label → new ≡ old ++ zone ∷ [] → GainsZone old new (Some rect) label
gains_some old new rect label zone e f g c which =
    let push = label_push c old zone which in
    let same : IsInLabel new which c ↔ (IsInLabel old which c ⊎ ((zone.label ≡ which) × Has zone.rect c)) =
    subst (λ (ys : List Labelled). IsInLabel ys which c ↔ (IsInLabel old which c ⊎ ((zone.label ≡ which) × Has zone.rect c))) (sym g) push in
    subst (λ (l : ℕ). IsInLabel new which c ↔ (IsInLabel old which c ⊎ ((l ≡ which) × Has rect c))) f
    (subst (λ (r : Rect). IsInLabel new which c ↔ (IsInLabel old which c ⊎ ((zone.label ≡ which) × Has r c))) e same)

pub gains_none : (old new : List Labelled) (label : ℕ) → new ≡ old → GainsZone old new None label
gains_none old new label e c which = subst (λ (ys : List Labelled). IsInLabel ys which c ↔ (IsInLabel old which c ⊎ ((label ≡ which) × ⊥))) (sym e)
    ((λ h. inl h), λ h. elim h [ inl k ↦ k | inr k ↦ absurd k.1 ])

-- the cells of what two rectangles have in common, if anything
pub clip_inside : (found : Option Rect) (a b : Rect) → IfSome found (λ (r : Rect). (c : Cell) → Has r c ↔ (Has a c × Has b c)) → IfNone found ((c : Cell) → Has a c → Has b c → ⊥)
    → (c : Cell) → IsInside found c ↔ (Has a c × Has b c)
clip_inside None a b some none c = (λ h. absurd h, λ k. none c k.0 k.1)
clip_inside (Some r) a b some none c = some c

-- no zones, and one zone more, in a part
pub alike_none : (part : Rect) → AreAlikeIn part [] []
alike_none part c at label = ((λ h. h), λ h. h)

pub alike_more : (part : Rect) (zones : List Labelled) (i : ℕ) (zone : Labelled) (found : Option Rect) (old new : List Labelled) → i < length zones → zone ≡ get_or zones i zone
    → ((c : Cell) → IsInside found c ↔ (Has zone.rect c × Has part c)) → GainsZone old new found zone.label → AreAlikeIn part (take i zones) old → AreAlikeIn part (take (i + 1) zones) new
alike_more part zones i zone found old new small is inside gains so_far c at label =
    let more = label_more c zones i zone label small is in
    let gain = gains c label in
    let before = so_far c at label in (
      λ h. more.1 (elim (gain.0 h) [ inl k ↦ inl (before.0 k) | inr k ↦ inr (k.0, ((inside c).0 k.1).0) ]),
      λ h. gain.1 (elim (more.0 h) [ inl k ↦ inl (before.1 k) | inr k ↦ inr (k.0, (inside c).1 (k.1, at)) ]),
    )

pub alike_all : (part : Rect) (zones : List Labelled) (i : ℕ) (inside : List Labelled) → length zones ≤ i → AreAlikeIn part (take i zones) inside → AreAlikeIn part zones inside
alike_all part zones i inside past h = subst (λ (ys : List Labelled). AreAlikeIn part ys inside) (take_all i zones past) h

-- ---- zones of one label, and the others

pub split_none : (label : ℕ) → AreSplit [] label [] []
split_none label = record {
  own_cells = λ c. (λ u. absurd (union_none c u), λ h. absurd (label_none c label h));
  other_cells = λ c. (λ u. absurd (union_none c u), λ h. absurd (label_none c h.other h.in_other));
}

module _ (zones : List Labelled) (i : ℕ) (zone : Labelled) (label : ℕ) (own others : List Rect) (small : i < length zones) (is : zone ≡ get_or zones i zone)
    (so_far : AreSplit (take i zones) label own others) where
  pub split_own : (new : List Rect) → new ≡ own ++ zone.rect ∷ [] → zone.label ≡ label → AreSplit (take (i + 1) zones) label new others
  split_own new e here = subst (λ (xs : List Rect). AreSplit (take (i + 1) zones) label xs others) (sym e) (record {
    own_cells = λ c.
        let push = union_push c own zone.rect in
        let more = label_more c zones i zone label small is in (
          λ u. more.1 (elim (push.0 u) [ inl k ↦ inl ((so_far.own_cells c).0 k) | inr k ↦ inr (here, k) ]),
          λ h. push.1 (elim (more.0 h) [ inl k ↦ inl ((so_far.own_cells c).1 k) | inr k ↦ inr k.1 ]),
        );
    other_cells = λ c.
        let more = others_more c zones i zone label small is in (
          λ u. more.1 (inl ((so_far.other_cells c).0 u)),
          λ h. elim (more.0 h) [ inl k ↦ (so_far.other_cells c).1 k | inr k ↦ absurd (k.0 (sym here)) ],
        );
  })

  pub split_other : (new : List Rect) → new ≡ others ++ zone.rect ∷ [] → (zone.label ≡ label → ⊥) → AreSplit (take (i + 1) zones) label own new
  split_other new e here = subst (λ (xs : List Rect). AreSplit (take (i + 1) zones) label own xs) (sym e) (record {
    own_cells = λ c.
        let more = label_more c zones i zone label small is in (
          λ u. more.1 (inl ((so_far.own_cells c).0 u)),
          λ h. elim (more.0 h) [ inl k ↦ (so_far.own_cells c).1 k | inr k ↦ absurd (here k.0) ],
        );
    other_cells = λ c.
        let push = union_push c others zone.rect in
        let more = others_more c zones i zone label small is in (
          λ u. more.1 (elim (push.0 u) [ inl k ↦ inl ((so_far.other_cells c).0 k) | inr k ↦ inr (λ f. here (sym f), k) ]),
          λ h. push.1 (elim (more.0 h) [ inl k ↦ inl ((so_far.other_cells c).1 k) | inr k ↦ inr k.1 ]),
        );
  })

pub split_all : (zones : List Labelled) (i label : ℕ) (own others : List Rect) → length zones ≤ i → AreSplit (take i zones) label own others → AreSplit zones label own others
split_all zones i label own others past h = subst (λ (ys : List Labelled). AreSplit ys label own others) (take_all i zones past) h

-- a zone that has all cells of the window
pub whole_one : (zones : List Labelled) (k : ℕ) (zone : Labelled) (window : Rect) → k < length zones → zone ≡ get_or zones k zone → ((c : Cell) → Has window c → Has zone.rect c)
    → IsWholeIn window zones zone.label
whole_one zones k zone window small is all c at = record { zone = zone; among = (k, small, sym is); labelled = refl; has = all c at }

-- the zone has this label, or not all of the window
abbrev pub IsNoOtherWhole : Rect → ℕ → Labelled → Type 0
IsNoOtherWhole window label zone = zone.label ≢ label → HasAllOf window zone.rect → ⊥

-- ---- what is left where a label has all of a part

-- two labels have all of it
pub both_whole : (zones : List Labelled) (part : Rect) (one other : ℕ) → one ≢ other → IsWholeIn part zones one → IsWholeIn part zones other
    → (c : Cell) → Has part c → IsInTwoLabels zones c
both_whole zones part one other differ all both c at = record { one = one; other = other; in_one = all c at; in_other = both c at; different = differ }

-- the cells of two labels are those of the others
pub split_beside : (zones : List Labelled) (part : Rect) (label : ℕ) (own others : List Rect) → IsWholeIn part zones label → AreSplit zones label own others
    → (c : Cell) → Has part c → IsInUnion others c ↔ IsInTwoLabels zones c
split_beside zones part label own others whole split c at =
    let beside = beside_whole c zones label (whole c at) in
    let cells = split.other_cells c in (λ u. beside.0 (cells.0 u), λ t. cells.1 (beside.1 t))

-- ---- zones of a part

pub alike_in : (part : Rect) (zones inside : List Labelled) → AreAlikeIn part zones inside → (c : Cell) → Has part c → IsInTwoLabels inside c ↔ IsInTwoLabels zones c
alike_in part zones inside same c at = two_alike c inside zones (same c at)

-- ---- runs of two labels, where there is no third

-- rectangles of the one label without common cells, and then those of the other: a cell of the part lies in two where both have it
module _ (zones : List Labelled) (part : Rect) (one other : ℕ) (own others own_runs other_runs : List Rect) (alone : HaveNoThird zones one other) (split : AreSplit zones one own others)
    (own_cells : (c : Cell) → IsInUnion own_runs c ↔ (IsInUnion own c × Has part c)) (own_apart : AreApart own_runs)
    (other_cells : (c : Cell) → IsInUnion other_runs c ↔ (IsInUnion others c × Has part c)) (other_apart : AreApart other_runs) where
  pub two_of_both : (c : Cell) → Has part c → IsInTwo (own_runs ++ other_runs) c ↔ IsInTwoLabels zones c
  two_of_both c at =
      let both = both_of_two c zones one other alone in
      let append = two_append c own_runs other_runs in (
        λ t. elim (append.0 t) [
          | inl u ↦ absurd (two_apart own_runs own_apart c u)
          | inr h ↦ elim h [
            | inl u ↦ absurd (two_apart other_runs other_apart c u)
            | inr k ↦ both.0 ((split.own_cells c).0 ((own_cells c).0 k.0).0, (split.other_cells c).0 ((other_cells c).0 k.1).0)
          ]
        ],
        λ t. let p = both.1 t in
            append.1 (inr (inr ((own_cells c).1 ((split.own_cells c).1 p.0, at), (other_cells c).1 ((split.other_cells c).1 p.1, at)))),
      )
