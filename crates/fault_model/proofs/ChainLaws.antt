-- walks within rectangles, and chains of them: the rectangles are parts of what they cover, linked where two touch
use Rattle.std.proofs.Common.{ℕ, ◌<◌, length, ◌≡◌, refl, sym, subst, List, inl, inr, ◌⊎◌}
use Rattle.lists.proofs.Words.{slice_get_within}
use Rattle.paths.specs.Parts.{AreJoint, AreLinkedParts}
use Rattle.paths.proofs.PathLaws.{within}
use Rattle.paths.proofs.PartLaws.{chain_from_path, path_from_chain}
use Rattle.geo_core.specs.Plane.{Has, Touch, ShareEdge, HasNumber, IsInUnion}
use Rattle.geo_core.specs.declared.plane.Cell.{Cell}
use Rattle.geo_core.specs.declared.plane.Half.{Half}
use Rattle.geo_core.specs.declared.plane.Rect.{Rect}
use Rattle.geo_core.proofs.RectLaws.{Touch-sym}
use Rattle.fault_model.specs.FaultNames.{LiesIn, IsOn, Neighbours, Walk, IsAt, TouchAt, AreChained}
use Rattle.fault_model.proofs.HalfLaws.{one_cell, some_half, cells_of_neighbours, edge_halves}
use Rattle.fault_model.proofs.LineLaws.{walk_in_rect}

cells_of : (p q : Half) (c d : Cell) → (p ≡ q) ⊎ Neighbours p q → LiesIn p c → LiesIn q d → (c ≡ d) ⊎ ShareEdge c d
cells_of p q c d (inl e) h k = inl (one_cell p c d h (subst (λ x. LiesIn x d) (sym e) k))
cells_of p q c d (inr n) h k = cells_of_neighbours p q c d n h k

module _ (rects : List Rect) where
  -- the half squares of one rectangle are joined within it
  whole : (k : ℕ) (p q : Half) → IsAt rects k p → IsAt rects k q → Walk (IsOn (IsInUnion rects)) p q
  whole k p q s t =
      let same : t.rect ≡ s.rect = cc (s.at, t.at) in
      within (λ h (c, lies, has). (c, lies, record { number = k; rect = s.rect; at = s.at; has = has })) (walk_in_rect s.rect p q s.on (subst (λ (r : Rect). IsOn (Has r) q) same t.on))

  -- rectangles that hold one half square, or two that share an edge, touch
  touch_at : (i j : ℕ) → AreJoint Neighbours (IsAt rects) i j → TouchAt rects i j
  touch_at i j (p, q, s, t, m) =
      record { one = s.rect; other = t.rect; one_at = s.at; other_at = t.at; touch = (s.on.0, t.on.0, s.on.2, t.on.2, cells_of p q s.on.0 t.on.0 m s.on.1 t.on.1) }

  at : (k : ℕ) (a : Rect) (c : Cell) (h : Half) → HasNumber rects k a → Has a c → LiesIn h c → IsAt rects k h
  at k a c h number has lies = record { rect = a; at = number; on = (c, lies, has) }

  -- and those that touch have such half squares
  joint_at : (i j : ℕ) (a b : Rect) → HasNumber rects i a → HasNumber rects j b → Touch a b → AreJoint Neighbours (IsAt rects) i j
  joint_at i j a b s t (c, d, h, k, inl e) = let g = some_half c in (g.0, g.0, at i a c g.0 s h g.1, at j b c g.0 t (subst (Has b) (sym e) k) g.1, inl refl)
  joint_at i j a b s t (c, d, h, k, inr e) = let n = edge_halves c d e in (n.0, n.1, at i a c n.0 s h n.2, at j b d n.1 t k n.3, inr n.4)

  parts : AreLinkedParts (IsOn (IsInUnion rects)) Neighbours (λ k. k < length rects) (TouchAt rects) (IsAt rects)
  parts = record {
    is_part = λ k h s. slice_get_within rects k s.rect s.at;
    whole = whole;
    closed = λ i p q s n (c, lies, u). (u.number, at u.number u.rect c q u.at u.has lies);
    joint = λ i j t. joint_at i j t.one t.other t.one_at t.other_at t.touch;
    linked = λ i j t. inr (touch_at i j t);
  }

  pub chain_from_walk : (i k : ℕ) (p q : Half) → IsAt rects i p → IsAt rects k q → Walk (IsOn (IsInUnion rects)) p q → AreChained rects i k
  chain_from_walk = chain_from_path parts

  pub walk_from_chain : (i k : ℕ) (p q : Half) → IsAt rects i p → IsAt rects k q → AreChained rects i k → Walk (IsOn (IsInUnion rects)) p q
  walk_from_chain = path_from_chain parts

  -- rectangles of a list touch in either order
  pub TouchAt-sym : (i j : ℕ) → TouchAt rects i j → TouchAt rects j i
  TouchAt-sym i j t = record { one = t.other; other = t.one; one_at = t.other_at; other_at = t.one_at; touch = Touch-sym t.one t.other t.touch }
