-- the answer of a ring, from what is known of the rectangles and the anchors of an island
use Rattle.std.proofs.Common.{ℕ, ◌≤◌, length, arith, List, ◌≡◌, sym, ◌∙◌, subst, Bool, true, false, IsTrue, Contains, ◌↔◌}
use Rattle.lists.proofs.Words.{false≢true, ints}
use Rattle.geo_core.specs.Unions.{IsInUnion}
use Rattle.geo_core.specs.declared.plane.Cell.{Cell}
use Rattle.geo_core.specs.declared.plane.Rect.{Rect}
use Rattle.fault_model.specs.IslandLists.{IsAnchoredIsland}
use Rattle.paths.proofs.PathLaws.{within}
use Rattle.severing.specs.Severing.{IsSevered}
use Rattle.fault_model.specs.FaultNames.{IsInFootprint, IsIslandOpen, IsOn, IslandLists}
use Rattle.fault_model.specs.declared.island.Spot.{Spot}
use Rattle.ring_test.specs.Rings.{HasSome, hole_at, Hole, HasOneArc}
use Rattle.ring_test.specs.IslandHoles.{ReachesInto, LosesAnchor}
use Rattle.ring_test.specs.RingAnswers.{IsRingAnswer}
use Rattle.ring_test.specs.declared.answers.RingAnswer.{RingAnswer}
use Rattle.ring_test.specs.declared.answers.RingAnswer.TheVariants.{Untouched, OneArc, Many}
use Rattle.ring_test.proofs.AnchorLaws.{lost_parts, one_arc_parts}
use Rattle.ring_test.proofs.HoleLaws.{HasAll}

module _ (pieces : List Rect) (anchors : List Spot) (island : IslandLists) (view : record { pieces = pieces; anchors = anchors } ≡ island) (seen hole : Hole) (same : seen ≡ hole) where
  abbrev inside : IslandLists
  inside = record { pieces = pieces; anchors = anchors }

  -- an answer that is right of the lists as they are seen, and of the hole as it is seen
  moved : (answer : RingAnswer) → IsRingAnswer inside seen answer → IsRingAnswer island hole answer
  moved answer right = subst (λ i. IsRingAnswer i hole answer) view (subst (λ h. IsRingAnswer inside h answer) same right)

  module _ (touched : Bool) (touches : IsTrue touched ↔ ReachesInto inside seen) where
    pub told_untouched : touched ≡ false → IsRingAnswer island hole Untouched
    told_untouched e = moved Untouched (λ reach. false≢true (sym e ∙ touches.1 reach))

    module _ (is_touched : touched ≡ true) (one : Bool) (tells : IsTrue one ↔ HasOneArc seen (IsOn (IsInUnion pieces))) where
      pub told_many : one ≡ false → IsRingAnswer island hole Many
      told_many e = moved Many (touches.0 is_touched, λ arc. false≢true (sym e ∙ tells.1 arc))

      pub told_one_arc : (lost : Bool) → one ≡ true → IsTrue lost ↔ ((spot : Spot) × Contains anchors spot × HasAll seen spot.rects) → IsRingAnswer island hole (OneArc lost)
      told_one_arc lost e loses = moved (OneArc lost) (
        touches.0 is_touched,
        tells.0 e,
        (
          λ t. let x = loses.0 t in record { spot = x.0; among = x.1; covered = x.2 },
          λ (x : LosesAnchor inside seen). loses.1 (x.spot, x.among, x.covered),
        ),
      )

-- ---- what an answer settles

-- where a defect has nothing of the metal, it makes no open
pub untouched_not_open : (island : IslandLists) (c : Cell) (s : ℕ) → (ReachesInto island (hole_at c s) → ⊥) → IsIslandOpen island s c → ⊥
untouched_not_open island c s untouched o = o.parted o.tied.0 o.tied.1 o.tied.2 o.tied.3 (within (λ h on. (on, λ hit. untouched (h, on, hit))) o.tied.4)

-- with one arc it makes one exactly where an anchor is lost
pub one_arc_settles : (island : IslandLists) (c : Cell) (s : ℕ) (lost : Bool) → IsAnchoredIsland island → 1 ≤ s → 2 ≤ length island.anchors → IsRingAnswer island (hole_at c s) (OneArc lost)
    → IsIslandOpen island s c ↔ IsSevered island (IsInFootprint c s) → IsIslandOpen island s c ↔ IsTrue lost
one_arc_settles island c s lost anchored some two answer severs =
    let hole : HasSome (hole_at c s) = record { across = omega (arith, ints); up = omega (arith, ints) } in (
      λ o. answer.2.1 (one_arc_parts island anchored (hole_at c s) hole answer.1 (severs.0 o)),
      λ t. severs.1 (lost_parts island (hole_at c s) two (answer.2.0 t)),
    )
