-- the cells of a zone at which a defect parts anchors of some island
use Rattle.std.proofs.Common.{ℕ, ℤ, true, false, ◌==◌, ◌≢◌, ap, arith, ◌++◌, ◌≤◌, ◌≡◌, refl, sym, subst, List, [], ◌∷◌, length, inl, inr, ◌↔◌, Contains}
use Rattle.lists.proofs.Words.{eqb-true, false≢true, ints}
use Rattle.lists.proofs.Containing.{Contains-none, Contains-head, Contains-tail, Contains-cons_cases}
use Rattle.geo_core.specs.Intervals.{IsIn}
use Rattle.geo_core.specs.Plane.{Has, low_along, high_along}
use Rattle.geo_core.specs.declared.axis.Axis.{Axis}
use Rattle.geo_core.specs.declared.axis.Axis.TheVariants.{X, Y}
use Rattle.geo_core.specs.declared.plane.Cell.{Cell}
use Rattle.geo_core.specs.declared.plane.Rect.{Rect}
use Rattle.fault_model.specs.FaultNames.{IslandLists, IsInFootprint}
use Rattle.fault_model.proofs.UnionLaws.{union_append, union_none, union_one, union_push}
use Rattle.half_boxes.specs.declared.boxes.HalfBox.{HalfBox}
use Rattle.severing.specs.Changes.{HasNear, IsSteady}
use Rattle.severing.specs.Severing.{IsSevered}
use Rattle.union_area.specs.WindowParts.{AreInLine, AreParts, IsFirstLine, place_along}
use Rattle.open_grid.specs.inside.ZoneNeeds.{AllSever, HaveOpenCells, SeverAlike, SeversSome, StandForAll, StandsFor}
use Rattle.open_grid.specs.inside.ZoneSteps.{AreStretched, IsStretched, LeftStandsFor}
use Rattle.open_grid.specs.declared.looked.Looked.{Looked}
use Rattle.open_grid.proofs.ZoneLaws.{IsStoodFor, stand_in_part}

-- the law on the lines of steady zones
abbrev pub SeverAlikeAlong : Axis → Type 0
SeverAlikeAlong axis = (island : IslandLists) (side : ℕ) (zone : Rect) (near : List HalfBox) → 1 ≤ side → HasNear island zone side near → IsSteady axis zone side near →
    (c d : Cell) → Has zone c → Has zone d
    → AreInLine axis c d → IsSevered island (IsInFootprint c side) ↔ IsSevered island (IsInFootprint d side)

-- ---- cells in one line

line_back : (axis : Axis) (c d : Cell) → AreInLine axis c d → AreInLine axis d c
line_back X c d e = sym e
line_back Y c d e = sym e

-- a cell at a place of the zone, in line with a cell of the zone, lies in the zone
in_zone : (axis : Axis) (zone : Rect) (c d : Cell) → IsIn (low_along axis zone) (high_along axis zone) (place_along axis c) → AreInLine axis c d → Has zone d → Has zone c
in_zone X zone c d along e has = record { across = along; up = subst (IsIn zone.y0 zone.y1) (sym e) has.up }
in_zone Y zone c d along e has = record { across = subst (IsIn zone.x0 zone.x1) (sym e) has.across; up = along }

along_zone : (axis : Axis) (zone : Rect) (c : Cell) → Has zone c → IsIn (low_along axis zone) (high_along axis zone) (place_along axis c)
along_zone X zone c has = has.across
along_zone Y zone c has = has.up

-- the first cell of its line
moved : (axis : Axis) (zone : Rect) (c : Cell) → Has zone c → (d : Cell) × AreInLine axis c d × Has zone d × (place_along axis d ≡ low_along axis zone)
moved X zone c has = let some = zone.across.some in
    (record { i = zone.x0; j = c.j }, refl, record { across = record { from = omega (arith, ints); before = some }; up = has.up }, refl)
moved Y zone c has = let some = zone.up.some in
    (record { i = c.i; j = zone.y0 }, refl, record { across = has.across; up = record { from = omega (arith, ints); before = some } }, refl)

-- ---- rectangles along all of a zone

-- a span with the ends of another has its places
same_span : (low high from to x : ℤ) → low ≡ from → high ≡ to → IsIn low high x → IsIn from to x
same_span low high from to x e f i = let p = i.from in let q = i.before in record { from = omega (arith, ints); before = omega (arith, ints) }

module _ (zone line rect : Rect) where
  pub along_columns : rect.x0 ≡ zone.x0 → rect.x1 ≡ zone.x1 → rect.y0 ≡ line.y0 → rect.y1 ≡ line.y1 → IsStretched X zone line rect
  along_columns left right bottom top = record {
    cells = λ c. (
      λ h. (
        same_span rect.x0 rect.x1 zone.x0 zone.x1 c.i left right h.across,
        (
          record { i = line.x0; j = c.j },
          refl,
          record {
            across = let some = line.across.some in record { from = omega (arith, ints); before = some };
            up = same_span rect.y0 rect.y1 line.y0 line.y1 c.j bottom top h.up;
          },
        ),
      ),
      λ h. record {
        across = same_span zone.x0 zone.x1 rect.x0 rect.x1 c.i (sym left) (sym right) h.0;
        up = same_span line.y0 line.y1 rect.y0 rect.y1 c.j (sym bottom) (sym top) (subst (IsIn line.y0 line.y1) (sym h.1.1) h.1.2.up);
      },
    );
  }

  pub along_rows : rect.x0 ≡ line.x0 → rect.x1 ≡ line.x1 → rect.y0 ≡ zone.y0 → rect.y1 ≡ zone.y1 → IsStretched Y zone line rect
  along_rows left right bottom top = record {
    cells = λ c. (
      λ h. (
        same_span rect.y0 rect.y1 zone.y0 zone.y1 c.j bottom top h.up,
        (
          record { i = c.i; j = line.y0 },
          refl,
          record {
            across = same_span rect.x0 rect.x1 line.x0 line.x1 c.i left right h.across;
            up = let some = line.up.some in record { from = omega (arith, ints); before = some };
          },
        ),
      ),
      λ h. record {
        across = same_span line.x0 line.x1 rect.x0 rect.x1 c.i (sym left) (sym right) (subst (IsIn line.x0 line.x1) (sym h.1.1) h.1.2.across);
        up = same_span zone.y0 zone.y1 rect.y0 rect.y1 c.j (sym bottom) (sym top) h.0;
      },
    );
  }

module _ (axis : Axis) (zone : Rect) where
  pub none_stretched : AreStretched axis zone [] []
  none_stretched c = (λ u. absurd (union_none c u), λ h. absurd (union_none h.1.0 h.1.2))

  pub stretched_more : (lines rects : List Rect) (line rect : Rect) → IsStretched axis zone line rect → AreStretched axis zone lines rects
      → AreStretched axis zone (lines ++ line ∷ []) (rects ++ rect ∷ [])
  stretched_more lines rects line rect one so_far c = (
    λ u. elim ((union_push c rects rect).0 u) [
      | inl v ↦ let h = (so_far c).0 v in (h.0, (h.1.0, h.1.1, (union_push h.1.0 lines line).1 (inl h.1.2)))
      | inr has ↦ let h = (one.cells c).0 has in (h.0, (h.1.0, h.1.1, (union_push h.1.0 lines line).1 (inr h.1.2)))
    ],
    λ h. elim ((union_push h.1.0 lines line).0 h.1.2) [
      | inl v ↦ (union_push c rects rect).1 (inl ((so_far c).1 (h.0, (h.1.0, h.1.1, v))))
      | inr has ↦ (union_push c rects rect).1 (inr ((one.cells c).1 (h.0, (h.1.0, h.1.1, has))))
    ],
  )

module _ (zone : Rect) (side : ℕ) where
  -- ---- islands, and what stands for them

  stood : (looked : List Looked) (islands : List IslandLists) → StandForAll zone side looked islands → (island : IslandLists) → Contains islands island → IsStoodFor zone side looked island
  stood [] [] h island among = absurd (Contains-none among)
  stood [] (first ∷ islands) h island among = absurd h
  stood (seen ∷ looked) [] h island among = absurd h
  stood (seen ∷ looked) (first ∷ islands) h island among = elim (Contains-cons_cases first islands island among) [
    | inl is ↦ record { seen = seen; among = Contains-head seen looked; stands = subst (StandsFor zone side seen) is h.0 }
    | inr rest ↦
        let found = stood looked islands h.1 island rest in
        record { seen = found.seen; among = Contains-tail seen looked found.seen found.among; stands = found.stands }
  ]

  none_left : (islands : List IslandLists) → StandForAll zone side [] islands → (c : Cell) → SeversSome islands side c → ⊥
  none_left [] h c s = Contains-none s.among
  none_left (island ∷ islands) h c s = absurd h

  -- ---- cells

  pub open_everywhere : (islands : List IslandLists) → AllSever islands side zone → HaveOpenCells islands side zone (zone ∷ [])
  open_everywhere islands all c = let one = union_one c zone in (λ u. let has = one.0 u in (has, all c has), λ h. one.1 h.0)

  open_alike : (islands others : List IslandLists) (rects : List Rect) → SeverAlike islands others side zone → HaveOpenCells others side zone rects → HaveOpenCells islands side zone rects
  open_alike islands others rects alike are c = (
    λ u. let h = (are c).0 u in (h.0, (alike c h.0).1 h.1),
    λ h. (are c).1 (h.0, (alike c h.0).0 h.1),
  )

  pub open_nowhere : (islands : List IslandLists) (left : List Looked) → left ≡ [] → LeftStandsFor zone side islands left → HaveOpenCells islands side zone []
  open_nowhere islands left is l =
      let stand = subst (λ xs. StandForAll zone side xs l.others) is l.stand in
      open_alike islands l.others [] l.alike (λ c. (λ u. absurd (union_none c u), λ h. absurd (none_left l.others stand c h.1)))

  -- ---- halves

  pub open_in_halves : (islands : List IslandLists) (left : List Looked) (first second : Rect) (rects more : List Rect) → LeftStandsFor zone side islands left → AreParts zone first second
      → ((others : List IslandLists) → StandForAll first side left others → HaveOpenCells others side first rects)
      → ((others : List IslandLists) → StandForAll second side left others → HaveOpenCells others side second more)
      → HaveOpenCells islands side zone (rects ++ more)
  open_in_halves islands left first second rects more l parts one other =
      let a = one l.others (stand_in_part zone first side (λ c h. (parts.cells c).1 (inl h)) left l.others l.stand) in
      let b = other l.others (stand_in_part zone second side (λ c h. (parts.cells c).1 (inr h)) left l.others l.stand) in
      open_alike islands l.others (rects ++ more) l.alike (λ c. let both = union_append c rects more in (
        λ u. elim (both.0 u) [
          | inl v ↦ let h = (a c).0 v in ((parts.cells c).1 (inl h.0), h.1)
          | inr v ↦ let h = (b c).0 v in ((parts.cells c).1 (inr h.0), h.1)
        ],
        λ h. elim ((parts.cells c).0 h.0) [
          | inl in_first ↦ both.1 (inl ((a c).1 (in_first, h.1)))
          | inr in_second ↦ both.1 (inr ((b c).1 (in_second, h.1)))
        ],
      ))

  -- ---- lines

  -- in a zone that is steady along the axis the defects of a line part the same islands
  abbrev pub LinesSeverAlike : Axis → Type 0
  LinesSeverAlike axis = (island : IslandLists) (near : List HalfBox) → HasNear island zone side near → IsSteady axis zone side near → (c d : Cell) → Has zone c → Has zone d → AreInLine axis c d
      → IsSevered island (IsInFootprint c side) ↔ IsSevered island (IsInFootprint d side)

  pub by_axis : (axis : Axis) → 1 ≤ side → SeverAlikeAlong X → SeverAlikeAlong Y → LinesSeverAlike axis
  by_axis X some columns rows island near = columns island side zone near some
  by_axis Y some columns rows island near = rows island side zone near some

  some_in_line : (axis : Axis) (looked : List Looked) (islands : List IslandLists) → LinesSeverAlike axis → ((seen : Looked) → Contains looked seen → IsSteady axis zone side seen.near)
      → StandForAll zone side looked islands → (c d : Cell) → Has zone c → Has zone d → AreInLine axis c d → SeversSome islands side c → SeversSome islands side d
  some_in_line axis looked islands law steady stand c d has has' line s =
      let found = stood looked islands stand s.island s.among in
      record { island = s.island; among = s.among; severed = (law s.island found.seen.near found.stands.has_near (steady found.seen found.among) c d has has' line).0 s.severed }

  pub open_in_lines : (islands : List IslandLists) (left : List Looked) (axis : Axis) (line : Rect) (lines rects : List Rect) → LeftStandsFor zone side islands left → LinesSeverAlike axis
      → ((seen : Looked) → Contains left seen → IsSteady axis zone side seen.near) → IsFirstLine axis zone line
      → ((others : List IslandLists) → StandForAll line side left others → HaveOpenCells others side line lines) → AreStretched axis zone lines rects
      → HaveOpenCells islands side zone rects
  open_in_lines islands left axis line lines rects l law steady first one stretched =
      let a = one l.others (stand_in_part zone line side (λ c h. ((first.cells c).0 h).0) left l.others l.stand) in
      let alike = some_in_line axis left l.others law steady l.stand in
      open_alike islands l.others rects l.alike (λ c. (
        λ u.
            let s = (stretched c).0 u in
            let d = s.1.0 in
            let h = (a d).0 s.1.2 in
            let there = ((first.cells d).0 h.0).0 in
            let here = in_zone axis zone c d s.0 s.1.1 there in
            (here, alike d c there here (line_back axis c d s.1.1) h.1),
        λ h.
            let m = moved axis zone c h.0 in
            let d = m.0 in
            (stretched c).1 (along_zone axis zone c h.0, (d, m.1, (a d).1 ((first.cells d).1 (m.2, m.3), alike c d h.0 m.2 m.1 h.1))),
      ))

-- ---- lists with nothing, and with something

pub no_items : {A : Type 0} (xs : List A) → true ≡ (length xs == 0) → xs ≡ []
no_items [] h = refl
no_items (x ∷ xs) h = let none = eqb-true (length (x ∷ xs)) 0 (sym h) in absurd (omega arith)

pub some_items : {A : Type 0} (xs : List A) → false ≡ (length xs == 0) → xs ≢ []
some_items [] h is = false≢true h
some_items (x ∷ xs) h is = let e = ap length is in omega arith
