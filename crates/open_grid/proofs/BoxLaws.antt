-- the boxes of an island and the hulls of its spots, and which of them may matter
use Rattle.std.proofs.Common.{ℕ, ◌+◌, ◌<◌, ◌≤◌, ◌≡◌, ◌≢◌, refl, sym, subst, ◌∙◌, List, [], ◌∷◌, ◌++◌, length, take, take_all, get_or, inl, inr, ◌⊎◌, ◌↔◌, arith, ℤ, pos, ◌+ℤ◌, Contains, Option}
use Rattle.lists.proofs.Words.{ints, AllZip, Contains-append_left, Contains-push, Contains-push_cases, take_more}
use Rattle.lists.proofs.Containing.{Contains-cons_cases, Contains-head, Contains-none, Contains-tail, Contains-take_cases}
use Rattle.lists.proofs.Reading.{taken_more}
use Rattle.geo_core.specs.Plane.{Has, IsIn, IsInUnion, IntervalsTouch}
use Rattle.geo_core.specs.Intervals.{IsWithin}
use Rattle.geo_core.specs.declared.plane.Cell.{Cell}
use Rattle.geo_core.specs.declared.plane.Half.{Half}
use Rattle.geo_core.specs.declared.plane.Rect.{Rect}
use Rattle.geo_core.proofs.RectLaws.{same_cell}
use Rattle.geo_core.proofs.IntervalLaws.{touching}
use Rattle.fault_model.specs.FaultNames.{IsOn, IslandLists}
use Rattle.fault_model.specs.IslandLists.{IsAnchoredIsland}
use Rattle.fault_model.specs.declared.island.Spot.{Spot}
use Rattle.fault_model.proofs.UnionLaws.{in_union, union_one, union_push, union_within}
use Rattle.half_boxes.specs.HalfBoxes.{HasHalf, IsBoxJoin, LiesWithin}
use Rattle.half_boxes.specs.declared.boxes.HalfBox.{HalfBox}
use Rattle.half_boxes.specs.declared.span.HalfSpan.{HalfSpan}
use Rattle.severing.specs.Changes.{HasNear}
use Rattle.open_grid.specs.inside.ZoneNeeds.{HasHullOf, HaveAnchorBoxes, HaveReached, IsHullOf}
use Rattle.open_grid.specs.inside.ZoneSteps.{AreOf, GainsBoxes, HaveBoxesOf, IsOfSpots, KeepsNear, KeepsWithin, MayNotMatter}

-- ---- cells

-- a rectangle from a cell to the next column and row has that cell alone
pub is_cell : (rect : Rect) (cell : Cell) → rect.x0 ≡ cell.i → rect.x1 ≡ cell.i +ℤ pos 1 → rect.y0 ≡ cell.j → rect.y1 ≡ cell.j +ℤ pos 1 → (c : Cell) → Has rect c ↔ (c ≡ cell)
is_cell rect cell left right bottom top c = (
  λ h. let a = h.across.from in let b = h.across.before in let p = h.up.from in let q = h.up.before in same_cell c cell (omega (arith, ints)) (omega (arith, ints)),
  λ e. subst (Has rect) (sym e) (record {
    across = record { from = omega (arith, ints); before = omega (arith, ints) };
    up = record { from = omega (arith, ints); before = omega (arith, ints) };
  }),
)

-- ---- list by list

-- what is among the items so far of a list, and one more
pub among_more : {X : Type 0} (xs : List X) (i : ℕ) (x : X) → i < length xs → x ≡ get_or xs i x → (y : X) → Contains (take (i + 1) xs) y ↔ (Contains (take i xs) y ⊎ (x ≡ y))
among_more xs i x small is y = (
  λ among. elim (Contains-take_cases xs i x y small among) [ inl before ↦ inl before | inr last ↦ inr (is ∙ last) ],
  λ h. subst (λ ys. Contains ys y) (sym (taken_more xs i x small is)) (elim h [
    | inl before ↦ Contains-append_left (take i xs) (x ∷ []) y before
    | inr e ↦ subst (Contains (take i xs ++ x ∷ [])) e (Contains-push (take i xs) x)
  ]),
)

-- ---- boxes of rectangles

gains_none : (gained : Rect → Type 0) (boxes : List HalfBox) → ((rect : Rect) → gained rect → ⊥) → GainsBoxes gained boxes boxes
gains_none gained boxes none = record { kept = λ one among. among; each = λ rect has. absurd (none rect has); only = λ h b. inl b }

gains_one : (old : List HalfBox) (rect : Rect) (one : HalfBox) → ((h : Half) → HasHalf one h ↔ IsOn (Has rect) h) → GainsBoxes (λ other. rect ≡ other) old (old ++ one ∷ [])
gains_one old rect one same = record {
  kept = Contains-append_left old (one ∷ []);
  each = λ other is. record { one = one; among = Contains-push old one; same = subst (λ (r : Rect). (h : Half) → HasHalf one h ↔ IsOn (Has r) h) is same };
  only = λ h b. elim (Contains-push_cases old one b.one b.among) [
    | inl before ↦ inl (record { one = b.one; among = before; has = b.has })
    | inr is ↦ inr (rect, refl, (same h).0 (subst (λ o. HasHalf o h) (sym is) b.has))
  ];
}

-- one gain after the other
gains_on : (first second both : Rect → Type 0) (old mid new : List HalfBox) → ((rect : Rect) → both rect ↔ (first rect ⊎ second rect)) → GainsBoxes first old mid → GainsBoxes second mid new
    → GainsBoxes both old new
gains_on first second both old mid new either one other = record {
  kept = λ box among. other.kept box (one.kept box among);
  each = λ rect gained. elim ((either rect).0 gained) [
    | inl early ↦ let b = one.each rect early in record { one = b.one; among = other.kept b.one b.among; same = b.same }
    | inr late ↦ other.each rect late
  ];
  only = λ h b. elim (other.only h b) [
    | inl in_mid ↦ elim (one.only h in_mid) [ inl before ↦ inl before | inr (rect, early, on) ↦ inr (rect, (either rect).1 (inl early), on) ]
    | inr (rect, late, on) ↦ inr (rect, (either rect).1 (inr late), on)
  ];
}

pub no_rects : (boxes : List HalfBox) → GainsBoxes (Contains []) boxes boxes
no_rects boxes = gains_none (Contains []) boxes (λ rect among. Contains-none among)

pub rects_more : (rects : List Rect) (i : ℕ) (rect : Rect) (one : HalfBox) (old mid new : List HalfBox) → i < length rects → rect ≡ get_or rects i rect
    → ((h : Half) → HasHalf one h ↔ IsOn (Has rect) h) → new ≡ mid ++ one ∷ [] → GainsBoxes (Contains (take i rects)) old mid → GainsBoxes (Contains (take (i + 1) rects)) old new
rects_more rects i rect one old mid new small is same e so_far =
    gains_on (Contains (take i rects)) (λ other. rect ≡ other) (Contains (take (i + 1) rects)) old mid new (among_more rects i rect small is) so_far
    (subst (GainsBoxes (λ other. rect ≡ other) mid) (sym e) (gains_one mid rect one same))

pub no_spots : (boxes : List HalfBox) → GainsBoxes (IsOfSpots []) boxes boxes
no_spots boxes = gains_none (IsOfSpots []) boxes (λ rect (spot, among, listed). Contains-none among)

pub spots_more : (spots : List Spot) (i : ℕ) (spot : Spot) (old mid new : List HalfBox) → i < length spots → spot ≡ get_or spots i spot → GainsBoxes (IsOfSpots (take i spots)) old mid
    → GainsBoxes (Contains spot.rects) mid new → GainsBoxes (IsOfSpots (take (i + 1) spots)) old new
spots_more spots i spot old mid new small is so_far last =
    gains_on (IsOfSpots (take i spots)) (Contains spot.rects) (IsOfSpots (take (i + 1) spots)) old mid new of_more so_far last
  where
    of_more : (rect : Rect) → IsOfSpots (take (i + 1) spots) rect ↔ (IsOfSpots (take i spots) rect ⊎ Contains spot.rects rect)
    of_more rect = (
      λ (other, among, listed). elim ((among_more spots i spot small is other).0 among) [
        | inl before ↦ inl (other, before, listed)
        | inr e ↦ inr (subst (λ (s : Spot). Contains s.rects rect) (sym e) listed)
      ],
      λ h. elim h [
        | inl (other, before, listed) ↦ (other, (among_more spots i spot small is other).1 (inl before), listed)
        | inr listed ↦ (spot, (among_more spots i spot small is spot).1 (inr refl), listed)
      ],
    )

-- the spots of an island lie on it
pub boxes_of_island : (island : IslandLists) (pieces boxes : List HalfBox) → IsAnchoredIsland island → GainsBoxes (Contains island.pieces) [] pieces
    → GainsBoxes (IsOfSpots island.anchors) pieces boxes → HaveBoxesOf island boxes
boxes_of_island island pieces boxes facts first second = record {
  pieces = λ piece among. let b = first.each piece among in record { one = b.one; among = second.kept b.one b.among; same = b.same };
  anchors = second.each;
  on_island = λ h b. elim (second.only h b) [
    | inl before ↦ elim (first.only h before) [
      | inl none ↦ absurd (Contains-none none.among)
      | inr (rect, listed, (c, lies, has)) ↦ (c, lies, in_union island.pieces rect c listed has)
    ]
    | inr (rect, (spot, among, listed), (c, lies, has)) ↦ (c, lies, facts.on_pieces spot c among (in_union spot.rects rect c listed has))
  ];
}

-- ---- hulls

pub hull_one : (rect : Rect) (one : HalfBox) → ((h : Half) → HasHalf one h ↔ IsOn (Has rect) h) → IsHullOf (rect ∷ []) one
hull_one rect one same = record {
  lies = λ box. (
    λ inside h (c, lies, u). inside h ((same h).1 (c, lies, (union_one c rect).0 u)),
    λ all h has. let on = (same h).0 has in all h (on.0, on.1, (union_one on.0 rect).1 on.2),
  );
}

-- a hull that is joined with the box of one rectangle more
hull_joined : (rects : List Rect) (rect : Rect) (hull one both : HalfBox) → ((h : Half) → HasHalf one h ↔ IsOn (Has rect) h) → IsBoxJoin hull one both → IsHullOf rects hull
    → IsHullOf (rects ++ rect ∷ []) both
hull_joined rects rect hull one both same join so_far = record {
  lies = λ box. (
    λ inside h (c, lies, u). elim ((union_push c rects rect).0 u) [
      | inl before ↦ (so_far.lies box).0 (λ g has. inside g (join.first g has)) h (c, lies, before)
      | inr has ↦ inside h (join.second h ((same h).1 (c, lies, has)))
    ],
    λ all. join.least box
        ((so_far.lies box).1 (λ h (c, lies, u). all h (c, lies, (union_push c rects rect).1 (inl u))))
        (λ h has. let on = (same h).0 has in all h (on.0, on.1, (union_push on.0 rects rect).1 (inr on.2))),
  );
}

module _ (first : Rect) (rects : List Rect) (i : ℕ) where
  pub hull_more : (rect : Rect) (hull one both : HalfBox) → i < length rects → rect ≡ get_or rects i rect → ((h : Half) → HasHalf one h ↔ IsOn (Has rect) h) → IsBoxJoin hull one both
      → IsHullOf (first ∷ take i rects) hull → IsHullOf (first ∷ take (i + 1) rects) both
  hull_more rect hull one both small is same join so_far =
      subst (λ xs. IsHullOf (first ∷ xs) both) (sym (taken_more rects i rect small is)) (hull_joined (first ∷ take i rects) rect hull one both same join so_far)

  -- a rectangle that comes twice adds nothing
  pub hull_all : (hull : HalfBox) → length rects ≤ i → Contains rects first → IsHullOf (first ∷ take i rects) hull → IsHullOf rects hull
  hull_all hull past among so_far = record {
    lies = λ box. (
      λ inside h (c, lies, u). (all.lies box).0 inside h (c, lies, more c u),
      λ inside. (all.lies box).1 (λ h (c, lies, u). inside h (c, lies, fewer c u)),
    );
  }
    where
      all : IsHullOf (first ∷ rects) hull
      all = subst (λ xs. IsHullOf (first ∷ xs) hull) (take_all i rects past) so_far

      more : (c : Cell) → IsInUnion rects c → IsInUnion (first ∷ rects) c
      more c = union_within rects (first ∷ rects) c (Contains-tail first rects)

      fewer : (c : Cell) → IsInUnion (first ∷ rects) c → IsInUnion rects c
      fewer c = union_within (first ∷ rects) rects c (λ x listed. elim (Contains-cons_cases first rects x listed) [
        | inl is ↦ subst (Contains rects) is among
        | inr rest ↦ rest
      ])

-- what is not empty has a first item
pub has_first : {X : Type 0} (xs : List X) → xs ≢ [] → 0 < length xs
has_first [] some = absurd (some refl)
has_first (x ∷ xs) some = omega arith

-- of the hulls of spots one is that of each
pub hull_among : (spots : List Spot) (boxes : List HalfBox) → AllZip (λ (spot : Spot). IsHullOf spot.rects) spots boxes → (spot : Spot) → Contains spots spot → HasHullOf boxes spot.rects
hull_among [] boxes hulls spot among = absurd (Contains-none among)
hull_among (first ∷ spots) [] hulls spot among = absurd hulls
hull_among (first ∷ spots) (one ∷ boxes) hulls spot among = elim (Contains-cons_cases first spots spot among) [
  | inl is ↦ record { one = one; among = Contains-head one boxes; hull = subst (λ (s : Spot). IsHullOf s.rects one) is hulls.0 }
  | inr rest ↦
      let b = hull_among spots boxes hulls.1 spot rest in
      record { one = b.one; among = Contains-tail one boxes b.one b.among; hull = b.hull }
]

-- ---- boxes that may matter

pub no_boxes : (core : Option HalfBox) (reach : HalfBox) (kept : List HalfBox) → KeepsNear core reach [] kept
no_boxes core reach kept one among = absurd (Contains-none among)

module _ (core : Option HalfBox) (reach : HalfBox) (near : List HalfBox) (i : ℕ) (one : HalfBox) (old : List HalfBox) (small : i < length near) (is : one ≡ get_or near i one)
    (so_far : KeepsNear core reach (take i near) old) where
  pub box_kept : (new : List HalfBox) → new ≡ old ++ one ∷ [] → KeepsNear core reach (take (i + 1) near) new
  box_kept new e other among = elim (Contains-take_cases near i one other small among) [
    | inl before ↦ elim (so_far other before) [ inl h ↦ inl (subst (λ xs. Contains xs other) (sym e) (Contains-append_left old (one ∷ []) other h)) | inr h ↦ inr h ]
    | inr last ↦ inl (subst (λ xs. Contains xs other) (sym e) (subst (Contains (old ++ one ∷ [])) (is ∙ last) (Contains-push old one)))
  ]

  pub box_dropped : MayNotMatter core reach one → KeepsNear core reach (take (i + 1) near) old
  box_dropped not other among = elim (Contains-take_cases near i one other small among) [
    | inl before ↦ so_far other before
    | inr last ↦ inr (subst (MayNotMatter core reach) (is ∙ last) not)
  ]

-- the boxes that stay are of the list
pub of_none : AreOf [] []
of_none one among = among

module _ (near : List HalfBox) (i : ℕ) (one : HalfBox) (old : List HalfBox) (small : i < length near) (is : one ≡ get_or near i one) (so_far : AreOf (take i near) old) where
  pub of_dropped : AreOf (take (i + 1) near) old
  of_dropped other among = subst (λ xs. Contains xs other) (sym (take_more near i one small)) (Contains-append_left (take i near) (get_or near i one ∷ []) other (so_far other among))

  pub of_kept : (new : List HalfBox) → new ≡ old ++ one ∷ [] → AreOf (take (i + 1) near) new
  of_kept new e other among = elim (Contains-push_cases old one other (subst (λ xs. Contains xs other) e among)) [
    | inl before ↦ of_dropped other before
    | inr last ↦ subst (λ xs. Contains xs other) (sym (take_more near i one small)) (subst (Contains (take i near ++ get_or near i one ∷ [])) (sym is ∙ last) (Contains-push (take i near) (get_or near i one)))
  ]

pub of_all : (near : List HalfBox) (i : ℕ) (kept : List HalfBox) → length near ≤ i → AreOf (take i near) kept → AreOf near kept
of_all near i kept past all = subst (λ ns. AreOf ns kept) (take_all i near past) all

pub boxes_all : (core : Option HalfBox) (reach : HalfBox) (near : List HalfBox) (i : ℕ) (kept : List HalfBox) → length near ≤ i → KeepsNear core reach (take i near) kept
    → KeepsNear core reach near kept
boxes_all core reach near i kept past all = subst (λ ns. KeepsNear core reach ns kept) (take_all i near past) all

-- ---- boxes that may be covered

pub none_within : (reach : HalfBox) (kept : List HalfBox) → KeepsWithin reach [] kept
none_within reach kept one among = absurd (Contains-none among)

module _ (reach : HalfBox) (boxes : List HalfBox) (i : ℕ) (one : HalfBox) (old : List HalfBox) (small : i < length boxes) (is : one ≡ get_or boxes i one)
    (so_far : KeepsWithin reach (take i boxes) old) where
  pub within_kept : (new : List HalfBox) → new ≡ old ++ one ∷ [] → KeepsWithin reach (take (i + 1) boxes) new
  within_kept new e other among lies = subst (λ xs. Contains xs other) (sym e) (elim (Contains-take_cases boxes i one other small among) [
    | inl before ↦ Contains-append_left old (one ∷ []) other (so_far other before lies)
    | inr last ↦ subst (Contains (old ++ one ∷ [])) (is ∙ last) (Contains-push old one)
  ])

  pub within_dropped : (LiesWithin one reach → ⊥) → KeepsWithin reach (take (i + 1) boxes) old
  within_dropped not other among lies = elim (Contains-take_cases boxes i one other small among) [
    | inl before ↦ so_far other before lies
    | inr last ↦ absurd (not (subst (λ o. LiesWithin o reach) (sym (is ∙ last)) lies))
  ]

pub within_all : (reach : HalfBox) (boxes : List HalfBox) (i : ℕ) (kept : List HalfBox) → length boxes ≤ i → KeepsWithin reach (take i boxes) kept → KeepsWithin reach boxes kept
within_all reach boxes i kept past all = subst (λ bs. KeepsWithin reach bs kept) (take_all i boxes past) all

-- spans with numbers at most 1 apart touch
near_touch : (a b : HalfSpan) (x y : ℤ) → IsIn a.low a.high x → IsIn b.low b.high y → IsWithin x y (pos 1) → IntervalsTouch a.low a.high b.low b.high
near_touch a b x y in_a in_b near =
    let p = in_a.from in let q = in_a.before in let r = in_b.from in let s = in_b.before in let m = near.0 in let n = near.1 in
    (touching a.low a.high b.low b.high a.within.some b.within.some).0 (omega (arith, ints), omega (arith, ints))

module _ (core : Option HalfBox) (reach one : HalfBox) where
  pub far_across : (IntervalsTouch one.columns.low one.columns.high reach.columns.low reach.columns.high → ⊥) → MayNotMatter core reach one
  far_across apart = inr (λ h g has in_reach near_u near_v. apart (near_touch one.columns reach.columns h.u g.u has.across in_reach.across near_u))

  pub far_up : (IntervalsTouch one.rows.low one.rows.high reach.rows.low reach.rows.high → ⊥) → MayNotMatter core reach one
  far_up apart = inr (λ h g has in_reach near_u near_v. apart (near_touch one.rows reach.rows h.v g.v has.up in_reach.up near_v))

-- what has boxes of the island, has those whose ends matter
pub all_near : (island : IslandLists) (boxes : List HalfBox) (zone : Rect) (side : ℕ) → HaveBoxesOf island boxes → HasNear island zone side boxes
all_near island boxes zone side have = record {
  pieces = λ piece among. let b = have.pieces piece among in record { one = b.one; same = b.same; noted = inl b.among };
  anchors = λ spot rect among listed. let b = have.anchors rect (spot, among, listed) in record { one = b.one; same = b.same; noted = inl b.among };
}

-- and what has the hulls of the spots, has those of the spots that defects cover
pub all_reached : (island : IslandLists) (boxes : List HalfBox) (zone : Rect) (side : ℕ) → HaveAnchorBoxes island boxes → HaveReached island zone side boxes
all_reached island boxes zone side hulls spot among lies = hull_among island.anchors boxes hulls spot among
