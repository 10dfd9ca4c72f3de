-- what the runs of a ring have of rectangles, and what they tell in whatever order
use Rattle.std.proofs.Common.{ℕ, List, ◌<◌, ◌+◌, ◌≡◌, subst, inl, inr, ◌⊎◌, ℤ, pos, ◌↔◌, Bool, IsTrue, get_or, length, take}
use Rattle.lists.proofs.Words.{Contains-permutation, IsPermutation-sym, IsPermutation}
use Rattle.geo_core.specs.Intervals.{IsIn}
use Rattle.geo_core.specs.Cells.{Has}
use Rattle.geo_core.specs.Unions.{IsInUnion}
use Rattle.geo_core.specs.declared.plane.Half.{Half}
use Rattle.geo_core.specs.declared.plane.Rect.{Rect}
use Rattle.fault_model.specs.FaultNames.{IsOn}
use Rattle.half_boxes.specs.HalfBoxes.{HasHalf, IsInBoxes}
use Rattle.half_boxes.specs.declared.boxes.HalfBox.{HalfBox}
use Rattle.ring_test.specs.Rings.{Hole, IsRingNumber, IsArc, HasOneArc, ring_of, ring_length}
use Rattle.ring_test.specs.declared.runs.Run.{Run}
use Rattle.ring_test.specs.inside.NumberRuns.{IsInRuns}
use Rattle.ring_test.proofs.HoleLaws.{boxes_more, on_more}
use Rattle.ring_test.proofs.MergeLaws.{arc_same}

runs_within : (xs ys : List Run) (k : ℤ) → IsPermutation xs ys → IsInRuns xs k → IsInRuns ys k
runs_within xs ys k p r = record { run = r.run; among = Contains-permutation xs ys r.run p r.among; has = r.has }

module _ (hole : Hole) (on : Half → Type 0) (runs sorted : List Run) (are : (k : ℤ) → IsInRuns runs k ↔ (IsRingNumber hole k × on (ring_of hole k))) (order : IsPermutation runs sorted) where
  sorted_are : (k : ℤ) → IsInRuns sorted k ↔ (IsRingNumber hole k × on (ring_of hole k))
  sorted_are k = (
    λ r. (are k).0 (runs_within sorted runs k (IsPermutation-sym runs sorted order) r),
    λ r. runs_within runs sorted k order ((are k).1 r),
  )

  told_at : (b : Bool) → (((k : ℤ) → IsInRuns sorted k → IsIn (pos 0) (ring_length hole) k) → IsTrue b ↔ IsArc (ring_length hole) (IsInRuns sorted)) → IsTrue b ↔ HasOneArc hole on
  told_at b told =
      let both = told (λ k r. ((sorted_are k).0 r).0) in (
        λ t. arc_same (ring_length hole) (IsInRuns sorted) (λ k. on (ring_of hole k)) (λ k number. (λ r. ((sorted_are k).0 r).1, λ o. (sorted_are k).1 (number, o))) (both.0 t),
        λ arc. both.1 (arc_same (ring_length hole) (λ k. on (ring_of hole k)) (IsInRuns sorted) (λ k number. (λ o. (sorted_are k).1 (number, o), λ r. ((sorted_are k).0 r).1)) arc),
      )

  -- a test for one arc of the sorted runs is one for one arc of the ring
  pub one_arc_told : (b : Bool) (length : ℤ) → length ≡ ring_length hole
      → (((k : ℤ) → IsInRuns sorted k → IsIn (pos 0) length k) → IsTrue b ↔ IsArc length (IsInRuns sorted)) → IsTrue b ↔ HasOneArc hole on
  one_arc_told b length e told = told_at b (subst (λ l. ((k : ℤ) → IsInRuns sorted k → IsIn (pos 0) l k) → IsTrue b ↔ IsArc l (IsInRuns sorted)) e told)

-- the runs have what one set has of the ring, and then what it has with the half squares of another
module _ (hole : Hole) (old new : List Run) (before more after : Half → Type 0) where
  abbrev pub HaveOf : List Run → (Half → Type 0) → Type 0
  HaveOf runs set = (k : ℤ) → IsInRuns runs k ↔ (IsRingNumber hole k × set (ring_of hole k))

  runs_added : ((h : Half) → after h ↔ (before h ⊎ more h)) → HaveOf old before → ((k : ℤ) → IsInRuns new k ↔ (IsInRuns old k ⊎ (IsRingNumber hole k × more (ring_of hole k)))) → HaveOf new after
  runs_added both so_far added k =
      let h = ring_of hole k in (
        λ r. elim ((added k).0 r) [
          | inl o ↦ let a = (so_far k).0 o in (a.0, (both h).1 (inl a.1))
          | inr (number, has) ↦ (number, (both h).1 (inr has))
        ],
        λ (number, has). elim ((both h).0 has) [
          | inl a ↦ (added k).1 (inl ((so_far k).1 (number, a)))
          | inr a ↦ (added k).1 (inr (number, a))
        ],
      )

-- one rectangle more of a list
module _ (hole : Hole) (pieces : List Rect) (i : ℕ) (piece : Rect) (box : HalfBox) (old new : List Run) where
  abbrev PiecesHave : ℕ → Half → Type 0
  PiecesHave n = IsOn (IsInUnion (take n pieces))

  pub piece_added : i < length pieces → piece ≡ get_or pieces i piece → ((h : Half) → HasHalf box h ↔ IsOn (Has piece) h)
      → ((k : ℤ) → IsInRuns old k ↔ (IsRingNumber hole k × PiecesHave i (ring_of hole k)))
      → ((k : ℤ) → IsInRuns new k ↔ (IsInRuns old k ⊎ (IsRingNumber hole k × HasHalf box (ring_of hole k)))) → (k : ℤ) → IsInRuns new k ↔ (IsRingNumber hole k × PiecesHave (i + 1) (ring_of hole k))
  piece_added small is same = runs_added hole old new (PiecesHave i) (HasHalf box) (PiecesHave (i + 1)) (λ h. let more = on_more pieces i piece h small is in (
    λ on. elim (more.0 on) [ inl a ↦ inl a | inr a ↦ inr ((same h).1 a) ],
    λ either. elim either [ inl a ↦ more.1 (inl a) | inr a ↦ more.1 (inr ((same h).0 a)) ],
  ))

-- one box more
module _ (hole : Hole) (boxes : List HalfBox) (i : ℕ) (one : HalfBox) (old new : List Run) where
  pub box_added : i < length boxes → one ≡ get_or boxes i one → ((k : ℤ) → IsInRuns old k ↔ (IsRingNumber hole k × IsInBoxes (take i boxes) (ring_of hole k)))
      → ((k : ℤ) → IsInRuns new k ↔ (IsInRuns old k ⊎ (IsRingNumber hole k × HasHalf one (ring_of hole k)))) → (k : ℤ) → IsInRuns new k ↔ (IsRingNumber hole k × IsInBoxes (take (i + 1) boxes) (ring_of hole k))
  box_added small is = runs_added hole old new (IsInBoxes (take i boxes)) (HasHalf one) (IsInBoxes (take (i + 1) boxes)) (λ h. boxes_more boxes i one h small is)
