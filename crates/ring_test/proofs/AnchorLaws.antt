-- what the ring tells of the anchors of an island
use Rattle.std.proofs.Common.{ℕ, zero, suc, ◌≤◌, ◌<◌, ◌≢◌, ◌↔◌, List, [], ◌∷◌, refl, sym, subst, ◌∙◌, arith, inl, inr, ◌⊎◌, ℤ, pos, ◌+ℤ◌, ◌-ℤ◌, ◌<ℤ◌, length}
use Rattle.lists.proofs.Words.{ints, same_Some, slice_get_within}
use Rattle.lists.proofs.Containing.{number_of, some_item, Contains-cons_cases, Contains-head, Contains-slice_get, Contains-tail}
use Rattle.paths.proofs.PathLaws.{first, within, within_or_over}
use Rattle.geo_core.specs.Cells.{Has}
use Rattle.geo_core.specs.Intervals.{IsIn, IsPartOf}
use Rattle.geo_core.specs.Unions.{IsInUnion}
use Rattle.geo_core.specs.declared.plane.Half.{Half}
use Rattle.geo_core.specs.declared.plane.Rect.{Rect}
use Rattle.geo_core.proofs.IntervalLaws.{in_or_not}
use Rattle.fault_model.specs.FaultNames.{IsInAnchor, IsOn, IslandLists, Walk}
use Rattle.fault_model.specs.declared.island.Spot.{Spot}
use Rattle.fault_model.specs.IslandLists.{IsAnchoredIsland}
use Rattle.fault_model.proofs.HalfLaws.{first_half, halves_in, some_half, whole_in}
use Rattle.fault_model.proofs.UnionLaws.{among_union, cell_of_some, in_union, union_within}
use Rattle.severing.specs.Severing.{IsSevered}
use Rattle.ring_test.specs.Rings.{Hole, HasSome, IsInHole, IsRound, HasOneArc, ring_length, ring_of}
use Rattle.ring_test.specs.IslandHoles.{IsOnIsland, ReachesInto, LosesAnchor}
use Rattle.ring_test.proofs.ArcLaws.{in_hole_or_not, stays_joined}
use Rattle.ring_test.proofs.HoleLaws.{HasAll, on_none}
use Rattle.ring_test.proofs.MergeLaws.{arc_same}
use Rattle.ring_test.proofs.RingLaws.{number_round}

-- all numbers of an interval lie in another, or one does not
part_or_not : (a0 a1 b0 b1 : ℤ) → a0 <ℤ a1 → IsPartOf a0 a1 b0 b1 ⊎ ((x : ℤ) × IsIn a0 a1 x × (IsIn b0 b1 x → ⊥))
part_or_not a0 a1 b0 b1 some = elim (in_or_not b0 b1 a0) [
  | inl a ↦ elim (in_or_not b0 b1 (a1 -ℤ pos 1)) [
    | inl b ↦ inl (λ x h. record { from = omega (arith, ints); before = omega (arith, ints) })
    | inr n ↦ inr (a1 -ℤ pos 1, record { from = omega (arith, ints); before = omega (arith, ints) }, n)
  ]
  | inr n ↦ inr (a0, record { from = omega (arith, ints); before = some }, n)
]

module _ (hole : Hole) where
  -- all half squares of a rectangle lie in a hole, or one does not
  rect_in_or_not : (rect : Rect) → ((h : Half) → IsOn (Has rect) h → IsInHole hole h) ⊎ ((h : Half) × IsOn (Has rect) h × (IsInHole hole h → ⊥))
  rect_in_or_not rect =
      let across = rect.across.some in
      let up = rect.up.some in
      elim (part_or_not (rect.x0 +ℤ rect.x0) (rect.x1 +ℤ rect.x1) hole.left hole.right (omega (arith, ints))) [
        | inl x ↦ elim (part_or_not (rect.y0 +ℤ rect.y0) (rect.y1 +ℤ rect.y1) hole.bottom hole.top (omega (arith, ints))) [
          | inl y ↦ inl (λ h (c, lies, has). (x h.u (halves_in rect.x0 rect.x1 h.u c.i lies.0 has.across), y h.v (halves_in rect.y0 rect.y1 h.v c.j lies.1 has.up)))
          | inr (v, is, out) ↦
              let j = whole_in rect.y0 rect.y1 v is in
              let has : Has rect (record { i = rect.x0; j = j.0 }) = record { across = record { from = omega (arith, ints); before = across }; up = j.2 } in
              inr (record { u = rect.x0 +ℤ rect.x0; v = v }, (record { i = rect.x0; j = j.0 }, (first_half rect.x0, j.1), has), λ in_hole. out in_hole.1)
        ]
        | inr (u, is, out) ↦
            let i = whole_in rect.x0 rect.x1 u is in
            let has : Has rect (record { i = i.0; j = rect.y0 }) = record { across = i.2; up = record { from = omega (arith, ints); before = up } } in
            inr (record { u = u; v = rect.y0 +ℤ rect.y0 }, (record { i = i.0; j = rect.y0 }, (i.1, first_half rect.y0), has), λ in_hole. out in_hole.0)
      ]

  -- so of each rectangle of a list: all half squares of the list lie in a hole, or one does not
  rects_in_or_not : (rects : List Rect) → HasAll hole rects ⊎ ((h : Half) × IsOn (IsInUnion rects) h × (IsInHole hole h → ⊥))
  rects_in_or_not [] = inl (λ h on. absurd (on_none h on))
  rects_in_or_not (rect ∷ rects) = elim (rect_in_or_not rect) [
    | inl here ↦ elim (rects_in_or_not rects) [
      | inl rest ↦ inl (λ h (c, lies, u). elim (Contains-cons_cases rect rects u.rect (among_union (rect ∷ rects) c u)) [
        | inl same ↦ here h (c, lies, subst (λ (r : Rect). Has r c) (sym same) u.has)
        | inr among ↦ rest h (c, lies, in_union rects u.rect c among u.has)
      ])
      | inr (h, on, out) ↦ inr (h, (on.0, on.1, union_within rects (rect ∷ rects) on.0 (Contains-tail rect rects) on.2), out)
    ]
    | inr (h, on, out) ↦ inr (h, (on.0, on.1, in_union (rect ∷ rects) rect on.0 (Contains-head rect rects) on.2), out)
  ]

-- another number below a count of two or more
another : (count k : ℕ) → 2 ≤ count → (j : ℕ) × (j < count) × (k ≢ j)
another count zero two = (1, omega arith, λ e. absurd (omega arith))
another count (suc k) two = (0, omega arith, λ e. absurd (omega arith))

module _ (island : IslandLists) (anchored : IsAnchoredIsland island) (hole : Hole) where
  -- an anchor has a half square
  half_of_anchor : (number : ℕ) → number < length island.anchors → (h : Half) × IsInAnchor island.anchors number h
  half_of_anchor number small =
      let spot = some_item island.anchors number small in
      let c = cell_of_some spot.0.rects spot.0.some in
      let h = some_half c.0 in
      (h.0, record { spot = spot.0; at = spot.1; lies = (c.0, h.1, c.1) })

  -- the spot of an anchor lies wholly in the hole, or has a half square outside
  anchor_in_or_not : (number : ℕ) → number < length island.anchors → LosesAnchor island hole ⊎ ((h : Half) × IsInAnchor island.anchors number h × (IsInHole hole h → ⊥))
  anchor_in_or_not number small =
      let spot = some_item island.anchors number small in
      elim (rects_in_or_not hole spot.0.rects) [
        | inl all ↦ inl (record { spot = spot.0; among = Contains-slice_get island.anchors number spot.0 spot.1; covered = all })
        | inr (h, on, out) ↦ inr (h, record { spot = spot.0; at = spot.1; lies = on }, out)
      ]

  -- half squares of two anchors are joined on the island
  joined : (one other : ℕ) (p q : Half) → IsInAnchor island.anchors one p → IsInAnchor island.anchors other q → Walk (IsOnIsland island) p q
  joined one other p q in_one in_other = anchored.connected p q (on_island one p in_one) (on_island other q in_other)
    where
      on_island : (number : ℕ) (h : Half) → IsInAnchor island.anchors number h → IsOnIsland island h
      on_island number h a = (a.lies.0, a.lies.1, anchored.on_pieces a.spot a.lies.0 (Contains-slice_get island.anchors number a.spot a.at) a.lies.2)

  -- where two anchors are parted, the way between them leads over the hole
  pub parted_reaches : IsSevered island (IsInHole hole) → ReachesInto island hole
  parted_reaches s =
      let p = half_of_anchor s.one s.one_is in
      let q = half_of_anchor s.other s.other_is in
      elim (within_or_over {W = λ h. IsInHole hole h → ⊥} {X = IsInHole hole} out_or_in (joined s.one s.other p.0 q.0 p.1 q.1)) [ inl w ↦ absurd (s.apart p.0 q.0 p.1 q.1 w) | inr over ↦ over ]
    where
      out_or_in : (h : Half) → (IsInHole hole h → ⊥) ⊎ IsInHole hole h
      out_or_in h = elim (in_hole_or_not hole h) [ inl is ↦ inr is | inr out ↦ inl out ]

  -- where the island has nothing in the hole, no two anchors are parted
  pub untouched_parts_none : (ReachesInto island hole → ⊥) → IsSevered island (IsInHole hole) → ⊥
  untouched_parts_none untouched s = untouched (parted_reaches s)

  -- where it has one arc, two are parted only where one lies wholly in the hole
  pub one_arc_parts : HasSome hole → HasOneArc hole (IsOnIsland island) → IsSevered island (IsInHole hole) → LosesAnchor island hole
  one_arc_parts some arc s = elim (anchor_in_or_not s.one s.one_is) [
    | inl lost ↦ lost
    | inr (p, in_one, out_p) ↦ elim (anchor_in_or_not s.other s.other_is) [
      | inl lost ↦ lost
      | inr (q, in_other, out_q) ↦ absurd (s.apart p q in_one in_other (stays_joined hole some (IsOnIsland island) arc p q (joined s.one s.other p q in_one in_other) out_p out_q))
    ]
  ]

  -- so where none does, what is removed within the hole parts no two
  pub one_arc_spares_less : HasSome hole → HasOneArc hole (IsOnIsland island) → (LosesAnchor island hole → ⊥) → (removed : Half → Type 0) → ((h : Half) → removed h → IsInHole hole h)
      → IsSevered island removed → ⊥
  one_arc_spares_less some arc spared removed inside s = spared (one_arc_parts some arc (record {
    one = s.one;
    other = s.other;
    one_is = s.one_is;
    other_is = s.other_is;
    different = s.different;
    apart = λ p q in_one in_other w. s.apart p q in_one in_other (within (λ h left. (left.0, λ is. left.1 (inside h is))) w);
  }))

  -- where a set has of the ring what the island has, the one has one arc of it where the other does
  pub arc_of_island : (set : Half → Type 0) → HasSome hole → ((h : Half) → IsRound hole h → set h ↔ IsOnIsland island h) → HasOneArc hole set → HasOneArc hole (IsOnIsland island)
  arc_of_island set some same =
      arc_same (ring_length hole) (λ k. set (ring_of hole k)) (λ k. IsOnIsland island (ring_of hole k)) (λ k number. same (ring_of hole k) (number_round hole some (ring_of hole k) k number refl))

-- an anchor that lies wholly in the hole is parted from each other one
pub lost_parts : (island : IslandLists) (hole : Hole) → 2 ≤ length island.anchors → LosesAnchor island hole → IsSevered island (IsInHole hole)
lost_parts island hole two lost =
    let k = number_of island.anchors lost.spot lost.among in
    let j = another (length island.anchors) k.0 two in
    record {
      one = k.0;
      other = j.0;
      one_is = slice_get_within island.anchors k.0 lost.spot k.1;
      other_is = j.1;
      different = j.2;
      apart = λ p q in_p in_q w. (first w).1 (lost.covered p (subst (λ (spot : Spot). IsOn (IsInUnion spot.rects) p) (same_Some in_p.spot lost.spot (sym in_p.at ∙ k.1)) in_p.lies));
    }
