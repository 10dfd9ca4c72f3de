-- what one arc of the ring round a defect settles of an island, however few anchors it has
use Rattle.std.proofs.Common.{ℕ, Bool, true, false, List, inl, inr, ◌<◌, ◌≤◌, ◌≡◌, ◌≢◌, ◌∙◌, ◌↔◌, sym, subst, length, arith, nat_lt, IsTrue}
use Rattle.lists.proofs.Words.{cases_lt, false≢true, nat_tests, slice_get_within}
use Rattle.geo_core.specs.declared.plane.Cell.{Cell}
use Rattle.fault_model.specs.FaultNames.{IslandLists, IsIslandOpen}
use Rattle.fault_model.specs.declared.island.Spot.{Spot}
use Rattle.ring_test.specs.RingAnswers.{Settles}
use Rattle.ring_test.specs.declared.answers.RingAnswer.{RingAnswer}
use Rattle.ring_test.specs.declared.answers.RingAnswer.TheVariants.{OneArc, Untouched}

-- where two different numbers are below a third, that is at least two
two_below : (n i k : ℕ) → i < n → k < n → i ≢ k → 2 ≤ n
two_below n i k below other differ = elim (cases_lt 1 n) [ inl two ↦ omega arith | inr not ↦ absurd (differ (omega arith)) ]

-- the test for more than one
tells_two : (n : ℕ) → IsTrue (nat_lt 1 n) ↔ (2 ≤ n)
tells_two n = (λ t. grind (arith, nat_tests), λ two. grind (arith, nat_tests))

module _ (island : IslandLists) (side : ℕ) (cell : Cell) where
  abbrev IsParting : Type 0
  IsParting = IsIslandOpen island side cell

  -- where two anchors are parted, there are two
  has_two : IsParting → 2 ≤ length island.anchors
  has_two o =
      let one = slice_get_within island.anchors o.one o.tied.2.spot o.tied.2.at in
      let other = slice_get_within island.anchors o.other o.tied.3.spot o.tied.3.at in
      two_below (length island.anchors) o.one o.other one other o.different

  -- where the island is untouched, no two anchors are parted
  pub untouched_parts_none : (answer : RingAnswer) → (2 ≤ length island.anchors → Settles answer IsParting) → answer ≡ Untouched → IsTrue false ↔ IsParting
  untouched_parts_none answer settles is = (λ t. absurd (false≢true t), λ o. absurd (subst (λ a. Settles a IsParting) is (settles (has_two o)) o))

  module _ (answer : RingAnswer) (settles : 2 ≤ length island.anchors → Settles answer IsParting) (lost : Bool) (is : answer ≡ OneArc lost) where
    with_two : 2 ≤ length island.anchors → IsParting ↔ IsTrue lost
    with_two two = subst (λ a. Settles a IsParting) is (settles two)

    -- where an anchor is lost, that is so where there are two
    pub lost_parts : lost ≡ true → (seen : List Spot) → seen ≡ island.anchors → IsTrue (nat_lt 1 (length seen)) ↔ IsParting
    lost_parts is_lost seen same =
        let told = subst (λ (anchors : List Spot). IsTrue (nat_lt 1 (length seen)) ↔ (2 ≤ length anchors)) same (tells_two (length seen)) in (
          λ t. (with_two (told.0 t)).1 is_lost,
          λ o. told.1 (has_two o),
        )

    -- where none is, no two are parted
    pub none_lost_parts_none : lost ≡ false → IsTrue lost ↔ IsParting
    none_lost_parts_none not_lost = (λ t. absurd (false≢true (sym not_lost ∙ t)), λ o. (with_two (has_two o)).0 o)
