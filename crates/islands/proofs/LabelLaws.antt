-- classes of pairs by which touching rectangles are joined are labels, and tell islands apart
use Rattle.std.proofs.Common.{ℕ, ◌<◌, ◌≡◌, subst, List, length, get_or, arith, inl, inr, Contains}
use Rattle.lists.proofs.Words.{leb_tells, Contains-get_or, slice_get_within}
use Rattle.geo_core.specs.Plane.{Touch, ShareEdge}
use Rattle.geo_core.specs.declared.plane.Cell.{Cell}
use Rattle.geo_core.specs.declared.plane.Rect.{Rect}
use Rattle.fault_model.specs.FaultNames.{TouchAt, AreChained, IsLabelling}
use Rattle.fault_model.proofs.ChainLaws.{chain_from_walk, walk_from_chain, TouchAt-sym}
use Rattle.paths.specs.Paths.{stay, step}
use Rattle.paths.proofs.PathLaws.{append, retold, reverse}
use Rattle.classes.specs.Classes.{AreBelow, IsPair, AreJoined, IsClasses}
use Rattle.classes.specs.ClassConsequences.{EqualWhereJoined}
use Rattle.islands.specs.Islands.{LabelsAreIslands}
use Rattle.touch_sweep.specs.Touching.{AreTouching}
use Rattle.lists.proofs.Comparing.{equal_or_not}

-- pairs of touching rectangles, by which all that touch are joined
pub record TellTouching (rects : List Rect) (pairs : List (ℕ × ℕ)) : Type 0 where
  pub touching : (a b : ℕ) → Contains pairs (a, b) → AreTouching rects a b
  pub joined : (a b : ℕ) → AreTouching rects a b → AreJoined (length rects) pairs a b

pub pairs_below : (rects : List Rect) (pairs : List (ℕ × ℕ)) → TellTouching rects pairs → AreBelow (length rects) pairs
pairs_below rects pairs tells k d small =
    let t = tells.touching (get_or pairs k d).0 (get_or pairs k d).1 (Contains-get_or pairs k d small) in
    (slice_get_within rects _ t.one t.one_at, slice_get_within rects _ t.other t.other_at)

touch_at : (rects : List Rect) (a b : ℕ) → AreTouching rects a b → TouchAt rects a b
touch_at rects a b t = record { one = t.one; other = t.other; one_at = t.one_at; other_at = t.other_at; touch = t.touch }

touching : (rects : List Rect) (a b : ℕ) → a < b → TouchAt rects a b → AreTouching rects a b
touching rects a b less t = record { lesser = less; one = t.one; other = t.other; one_at = t.one_at; other_at = t.other_at; touch = t.touch }

pair_touches : (rects : List Rect) (pairs : List (ℕ × ℕ)) → TellTouching rects pairs → (a b : ℕ) → IsPair pairs a b → TouchAt rects a b
pair_touches rects pairs tells a b (inl c) = touch_at rects a b (tells.touching a b c)
pair_touches rects pairs tells a b (inr c) = TouchAt-sym rects b a (touch_at rects b a (tells.touching b a c))

-- rectangles that touch are joined, in whichever order, and each is joined with itself
touching_joined : (rects : List Rect) (pairs : List (ℕ × ℕ)) → TellTouching rects pairs → (a b : ℕ) → TouchAt rects a b → AreJoined (length rects) pairs a b
touching_joined rects pairs tells a b h = elim (equal_or_not a b) [
  | inl e ↦ subst (AreJoined (length rects) pairs a) e (stay (slice_get_within rects a h.one h.one_at))
  | inr apart ↦
      elim (leb_tells a b) [
        | inl y ↦ let y' = y.1 in tells.joined a b (touching rects a b (omega arith) h)
        | inr y ↦ reverse (λ a b e. elim e [ inl c ↦ inr c | inr c ↦ inl c ]) (tells.joined b a (touching rects b a y.1 (TouchAt-sym rects a b h)))
      ]
]

-- so are rectangles that are chained
chain_joined : (rects : List Rect) (pairs : List (ℕ × ℕ)) → TellTouching rects pairs → {a b : ℕ} → AreChained rects a b → AreJoined (length rects) pairs a b
chain_joined rects pairs tells (stay h) = stay h
chain_joined rects pairs tells (step {a = a} {b = b} h e path) = append (touching_joined rects pairs tells a b e) (chain_joined rects pairs tells path)

module _ (rects : List Rect) (pairs : List (ℕ × ℕ)) (tells : TellTouching rects pairs) where
  -- rectangles are chained exactly where their numbers are joined
  joined_chained : {a b : ℕ} → AreJoined (length rects) pairs a b → AreChained rects a b
  joined_chained path = retold (λ a b h i p. inr (pair_touches rects pairs tells a b p)) path

  chained_joined : {a b : ℕ} → AreChained rects a b → AreJoined (length rects) pairs a b
  chained_joined path = chain_joined rects pairs tells path

  pub labelling : (labels : List ℕ) → IsClasses (length rects) pairs labels → IsLabelling rects labels
  labelling labels c = record {
    one_each = c.one_each;
    chained = λ k m e. joined_chained (c.joined k m e);
    least = λ k m j e path. c.least k m j e (chained_joined path);
  }

  pub labels_are_islands : (labels : List ℕ) → EqualWhereJoined (length rects) pairs labels → LabelsAreIslands rects labels
  labels_are_islands labels equal i k m m' p q at_i at_k in_i in_k = (
    λ same. walk_from_chain rects i k p q in_i in_k (joined_chained ((equal i k m m' at_i at_k).0 same)),
    λ walk. (equal i k m m' at_i at_k).1 (chained_joined (chain_from_walk rects i k p q in_i in_k walk)),
  )
