-- counts of searches: where a ring has many arcs, and how counts of parts of a zone go on from one another
use Rattle.std.proofs.Common.{ℕ, ◌+◌, ◌<◌, ◌≤◌, ◌≡◌, sym, subst, ◌∙◌, arith, List, [], length, take, take_all, get_or, inl, inr, Contains, Bool, IsTrue, ℤ, pos, ◌+ℤ◌, ◌-ℤ◌, ◌↔◌}
use Rattle.lists.proofs.Words.{ints}
use Rattle.lists.proofs.Containing.{Contains-none, Contains-take_cases}
use Rattle.std.proofs.lemmas.Bool.{cases_lt}
use Rattle.geo_core.specs.Plane.{Has, IsIn}
use Rattle.geo_core.specs.Intervals.{IsInterval}
use Rattle.geo_core.specs.declared.bounds.TheConstants.{FARTHEST_GROWN, GREATEST_SIDE}
use Rattle.geo_core.specs.declared.plane.Cell.{Cell}
use Rattle.geo_core.specs.declared.plane.Half.{Half}
use Rattle.geo_core.specs.declared.plane.Rect.{Rect}
use Rattle.fault_model.specs.FaultNames.{IslandLists, IsInFootprint}
use Rattle.fault_model.specs.IslandLists.{IsAnchoredIsland}
use Rattle.fault_model.proofs.UnionLaws.{corner_of}
use Rattle.half_boxes.specs.HalfBoxes.{HasHalf}
use Rattle.half_boxes.specs.declared.boxes.HalfBox.{HalfBox}
use Rattle.half_boxes.specs.declared.span.TheConstants.{FARTHEST_HALF}
use Rattle.severing.specs.Severing.{IsSevered}
use Rattle.ring_test.specs.Rings.{Hole, HasSome, IsInHole, hole_at}
use Rattle.ring_test.specs.IslandHoles.{LosesAnchor}
use Rattle.ring_test.specs.RingAnswers.{IsRingAnswer}
use Rattle.ring_test.specs.declared.answers.RingAnswer.TheVariants.{Many}
use Rattle.union_area.specs.WindowParts.{AreParts}
use Rattle.open_grid.specs.RingCounts.{IsSomeRingMany}
use Rattle.open_grid.specs.inside.ZoneNeeds.{StandsFor, StandForAll}
use Rattle.open_grid.specs.inside.ZoneCounts.{CountsMany, CoversNone, SomeCoversNone}
use Rattle.open_grid.specs.inside.ZoneSteps.{IsToldOf, LeftStandsFor}
use Rattle.open_grid.specs.declared.looked.Looked.{Looked}
use Rattle.open_grid.specs.declared.looked.Told.TheVariants.{Always}
use Rattle.open_grid.proofs.ZoneLaws.{stand_in_part}

-- the law that where two anchors are parted, and none is lost, the ring has many arcs
abbrev pub PartedAreMany : Type 0
PartedAreMany = (island : IslandLists) (hole : Hole) → IsAnchoredIsland island → HasSome hole → (LosesAnchor island hole → ⊥) → IsSevered island (IsInHole hole)
    → IsRingAnswer island hole Many

-- what a defect has along one axis, whose centre is a place of a rectangle
span_of_defect : (low high i : ℤ) (side : ℕ) → IsInterval FARTHEST_GROWN low high → IsIn low high i → 1 ≤ side → side ≤ GREATEST_SIDE
    → IsInterval FARTHEST_HALF (i +ℤ i +ℤ pos 1 -ℤ pos side) (i +ℤ i +ℤ pos 1 +ℤ pos side)
span_of_defect low high i side ends place some few =
    let a = ends.least in let b = ends.most in let p = place.from in let q = place.before in
    record { some = omega (arith, ints); least = omega (arith, ints); most = omega (arith, ints) }

-- so all of it is a box
defect_box : (zone : Rect) (c : Cell) (side : ℕ) → Has zone c → 1 ≤ side → side ≤ GREATEST_SIDE → (box : HalfBox) × ((h : Half) → HasHalf box h ↔ IsInFootprint c side h)
defect_box zone c side has some few = (
  record {
    columns = record {
      low = c.i +ℤ c.i +ℤ pos 1 -ℤ pos side;
      high = c.i +ℤ c.i +ℤ pos 1 +ℤ pos side;
      within = span_of_defect zone.x0 zone.x1 c.i side zone.across has.across some few;
    };
    rows = record {
      low = c.j +ℤ c.j +ℤ pos 1 -ℤ pos side;
      high = c.j +ℤ c.j +ℤ pos 1 +ℤ pos side;
      within = span_of_defect zone.y0 zone.y1 c.j side zone.up has.up some few;
    };
  },
  λ h. (λ k. (k.across, k.up), λ hit. record { across = hit.0; up = hit.1 }),
)

-- where each defect of a zone parts two, and one covers none, the ring round that one does
module _ (law : PartedAreMany) (zone : Rect) (side : ℕ) (some : 1 ≤ side) (few : side ≤ GREATEST_SIDE) (looked : Looked) (island : IslandLists)
    (stands : StandsFor zone side looked island) (told : IsToldOf zone side island Always) (covers : SomeCoversNone looked.anchors zone side) where
  -- a defect that covers a spot covers its hull
  none_lost : LosesAnchor island (hole_at covers.cell side) → ⊥
  none_lost lost =
      let b = stands.has_reached lost.spot lost.among (λ h lies. record { centre = covers.cell; in_zone = covers.in_zone; hit = lost.covered h lies }) in
      let defect = defect_box zone covers.cell side covers.in_zone some few in
      let hull_in = (b.hull.lies defect.0).1 (λ h lies. (defect.1 h).1 (lost.covered h lies)) in
      covers.covers b.one b.among (λ h has. (defect.1 h).0 (hull_in h has))

  has_some : HasSome (hole_at covers.cell side)
  has_some = record { across = omega (arith, ints); up = omega (arith, ints) }

  pub many_ring : (islands : List IslandLists) → Contains islands island → IsSomeRingMany islands zone side
  many_ring islands among = record {
    island = island;
    among = among;
    cell = covers.cell;
    in_window = covers.in_zone;
    many = law island (hole_at covers.cell side) stands.anchored has_some none_lost (told covers.cell covers.in_zone);
  }

-- ---- boxes that a defect covers, list by list

module _ (side : ℕ) (c : Cell) where
  pub covers_nothing : CoversNone [] side c
  covers_nothing one among = absurd (Contains-none among)

  pub covers_more : (boxes : List HalfBox) (i : ℕ) (one : HalfBox) → i < length boxes → one ≡ get_or boxes i one → CoversNone (take i boxes) side c
      → (((h : Half) → HasHalf one h → IsInFootprint c side h) → ⊥) → CoversNone (take (i + 1) boxes) side c
  covers_more boxes i one small is so_far not other among covered = elim (Contains-take_cases boxes i one other small among) [
    | inl before ↦ so_far other before covered
    | inr last ↦ not (subst (λ (o : HalfBox). (h : Half) → HasHalf o h → IsInFootprint c side h) (sym (is ∙ last)) covered)
  ]

  pub covers_all : (boxes : List HalfBox) (i : ℕ) → length boxes ≤ i → CoversNone (take i boxes) side c → CoversNone boxes side c
  covers_all boxes i past all = subst (λ bs. CoversNone bs side c) (take_all i boxes past) all

-- what no defect of a part of a zone covers, some defect of the zone does not
pub some_in_part : (boxes : List HalfBox) (zone part : Rect) (side : ℕ) → ((c : Cell) → Has part c → Has zone c) → ((c : Cell) → Has part c → CoversNone boxes side c)
    → SomeCoversNone boxes zone side
some_in_part boxes zone part side inside none = let d = corner_of part in record { cell = d.0; in_zone = inside d.0 d.1; covers = none d.0 d.1 }

-- a rectangle of the one cell in this column and row of a zone
pub cell_in_zone : (zone part : Rect) (column row : ℤ) → IsIn zone.x0 zone.x1 column → IsIn zone.y0 zone.y1 row → part.x0 ≡ column → part.x1 ≡ column +ℤ pos 1 → part.y0 ≡ row
    → part.y1 ≡ row +ℤ pos 1 → (c : Cell) → Has part c → Has zone c
cell_in_zone zone part column row across up left right bottom top c h =
    let a = h.across.from in let b = h.across.before in let p = h.up.from in let q = h.up.before in
    let e = across.from in let f = across.before in let g = up.from in let k = up.before in record {
      across = record { from = omega (arith, ints); before = omega (arith, ints) };
      up = record { from = omega (arith, ints); before = omega (arith, ints) };
    }

-- ---- counts

module _ (islands : List IslandLists) (zone : Rect) (side : ℕ) where
  pub counts_same : (n : ℕ) → CountsMany islands zone side n n
  counts_same n = record { never_falls = omega arith; rises_by_many = λ rose. absurd (omega arith) }

  pub counts_on : (a b c : ℕ) → CountsMany islands zone side a b → CountsMany islands zone side b c → CountsMany islands zone side a c
  counts_on a b c first second = let p = first.never_falls in let q = second.never_falls in record {
    never_falls = omega arith;
    rises_by_many = λ rose. elim (cases_lt a b) [ inl up ↦ first.rises_by_many up | inr not ↦ second.rises_by_many (omega arith) ];
  }

  pub counts_if : (many : Bool) (old new : ℕ) → (IsTrue many → IsSomeRingMany islands zone side) → old ≤ new → (old < new → IsTrue many) → CountsMany islands zone side old new
  counts_if many old new ring rises only = record { never_falls = rises; rises_by_many = λ rose. ring (only rose) }

  -- a count in a part of the zone, for islands that are looked at there
  pub counts_in_part : (left : List Looked) (sub : Rect) (old new : ℕ) → LeftStandsFor zone side islands left → ((c : Cell) → Has sub c → Has zone c)
      → ((others : List IslandLists) → StandForAll sub side left others → CountsMany others sub side old new) → CountsMany islands zone side old new
  counts_in_part left sub old new l part counts =
      let there = counts l.others (stand_in_part zone sub side part left l.others l.stand) in record {
        never_falls = there.never_falls;
        rises_by_many = λ rose. let m = there.rises_by_many rose in
            record { island = m.island; among = l.among m.island m.among; cell = m.cell; in_window = part m.cell m.in_window; many = m.many };
      }

  -- counts in both halves of it, one after the other
  pub counts_in_halves : (left : List Looked) (one other : Rect) (old mid new : ℕ) → LeftStandsFor zone side islands left → AreParts zone one other
      → ((others : List IslandLists) → StandForAll one side left others → CountsMany others one side old mid)
      → ((others : List IslandLists) → StandForAll other side left others → CountsMany others other side mid new) → CountsMany islands zone side old new
  counts_in_halves left one other old mid new l parts first second = counts_on old mid new
      (counts_in_part left one old mid l (λ c has. (parts.cells c).1 (inl has)) first) (counts_in_part left other mid new l (λ c has. (parts.cells c).1 (inr has)) second)
