-- what is near a tile, and lists that gain what is
use Rattle.std.proofs.Common.{ℕ, ◌+◌, ◌<◌, ◌≡◌, sym, ap, ◌∙◌, subst, arith, List, [], ◌∷◌, ◌++◌, length, take, get_or, ◌↔◌, pos, ◌+ℤ◌, ◌-ℤ◌, ◌≤ℤ◌, append_assoc}
use Rattle.lists.proofs.Words.{ints, by_lt_z, All-weaker, append-nil}
use Rattle.lists.proofs.Reading.{taken_more}
use Rattle.geo_core.specs.Plane.{IntervalsOverlap}
use Rattle.geo_core.specs.declared.interval.Interval.{Interval}
use Rattle.geo_core.specs.declared.plane.Cell.{Cell}
use Rattle.geo_core.specs.declared.plane.Rect.{Rect}
use Rattle.geo_core.proofs.IntervalLaws.{overlapping}
use Rattle.geo_core.proofs.RectLaws.{comes_near}
use Rattle.near_index.specs.Kept.{all_seen}
use Rattle.near_index.specs.Near.{AreNear, IsNearTile}
use Rattle.near_index.specs.inside.Gaining.{GainsNear}
use Rattle.near_index.specs.inside.Hulls.{IsHullOf, IsRound}
use Rattle.near_index.proofs.KeptLaws.{AreKept-append, none_kept, one_dropped, one_kept}

-- ---- near by axes

-- places are near others where neither lie wholly before the others by more than the reach
module _ (places others : Interval) (reach : ℕ) where
  abbrev AreNearPlaces : Type 0
  AreNearPlaces = IntervalsOverlap (places.low -ℤ pos reach) (places.high +ℤ pos reach) others.low others.high

  pub near_places : ((places.high +ℤ pos reach) ≤ℤ others.low → ⊥) → ((others.high +ℤ pos reach) ≤ℤ places.low → ⊥) → AreNearPlaces
  near_places p q =
      let some = places.within.some in
      by_lt_z others.low (places.high +ℤ pos reach)
      (λ l. by_lt_z places.low (others.high +ℤ pos reach)
      (λ m. (overlapping (places.low -ℤ pos reach) (places.high +ℤ pos reach) others.low others.high (omega (arith, ints)) others.within.some).0 (omega (arith, ints), l))
      (λ m. absurd (q m)))
      (λ l. absurd (p l))

  pub far_above : (places.high +ℤ pos reach) ≤ℤ others.low → AreNearPlaces → ⊥
  far_above l o = let a = o.1.before in let b = o.2.from in absurd (omega (arith, ints))

  pub far_below : (others.high +ℤ pos reach) ≤ℤ places.low → AreNearPlaces → ⊥
  far_below l o = let a = o.1.from in let b = o.2.before in absurd (omega (arith, ints))

-- a rectangle is near a tile where its columns are near the tile's, and its rows
pub near_by_axes : (tile rect : Rect) (reach : ℕ)
    → IsNearTile tile reach rect ↔ (IntervalsOverlap (rect.x0 -ℤ pos reach) (rect.x1 +ℤ pos reach) tile.x0 tile.x1 × IntervalsOverlap (rect.y0 -ℤ pos reach) (rect.y1 +ℤ pos reach) tile.y0 tile.y1)
near_by_axes tile rect reach = (
  λ near. let k = (comes_near rect (pos reach) near.0 (omega (arith, ints))).0 near.2 in ((near.0.i, k.0, near.1.across), (near.0.j, k.1, near.1.up)),
  λ both. let c : Cell = record { i = both.0.0; j = both.1.0 } in
      (c, record { across = both.0.2; up = both.1.2 }, (comes_near rect (pos reach) c (omega (arith, ints))).1 (both.0.1, both.1.1)),
)

-- what is round something near is near
pub near_hull : (tile hull rect : Rect) (reach : ℕ) → IsRound hull rect → IsNearTile tile reach rect → IsNearTile tile reach hull
near_hull tile hull rect reach round near = (near.0, near.1, (near.2.0, round near.2.0 near.2.1, near.2.2))

-- ---- lists that gain what is near

module _ {T : Type 0} (rect_of : T → Rect) (tile : Rect) (reach : ℕ) where
  -- nothing is near where the hull is not
  pub none_near : (hull : Rect) (things : List T) → IsHullOf rect_of hull things → (IsNearTile tile reach hull → ⊥) → AreNear rect_of tile reach things []
  none_near hull things round far =
      let beyond = λ (thing : T) (r : IsRound hull (rect_of thing)) (near : IsNearTile tile reach (rect_of thing)). far (near_hull tile hull (rect_of thing) reach r near) in
      none_kept things (All-weaker (λ thing. IsRound hull (rect_of thing)) (λ thing. IsNearTile tile reach (rect_of thing) → ⊥) beyond things round)

  pub gains_none : (hull : Rect) (things old : List T) → IsHullOf rect_of hull things → (IsNearTile tile reach hull → ⊥) → GainsNear rect_of tile reach things old old
  gains_none hull things old round far = record { gained = []; are_near = none_near hull things round far; new_is = sym (append-nil old) }

  pub gains_start : (old : List T) → GainsNear rect_of tile reach [] old old
  gains_start old = record { gained = []; are_near = all_seen; new_is = sym (append-nil old) }

  -- what gains of two lists one after the other
  pub gains_both : (xs ys old mid new : List T) → GainsNear rect_of tile reach xs old mid → GainsNear rect_of tile reach ys mid new → GainsNear rect_of tile reach (xs ++ ys) old new
  gains_both xs ys old mid new g h = record {
    gained = g.gained ++ h.gained;
    are_near = AreKept-append xs ys g.gained h.gained g.are_near h.are_near;
    new_is = h.new_is ∙ ap (λ zs. zs ++ h.gained) g.new_is ∙ append_assoc old g.gained h.gained;
  }

  -- a list that began empty
  pub gains_all : (things new : List T) → GainsNear rect_of tile reach things [] new → AreNear rect_of tile reach things new
  gains_all things new g = subst (AreNear rect_of tile reach things) (sym g.new_is) g.are_near

  module _ (things : List T) (i : ℕ) (thing : T) (small : i < length things) (is : thing ≡ get_or things i thing) (old mid : List T)
      (so_far : GainsNear rect_of tile reach (take i things) old mid) where
    pub gains_one : (new : List T) → IsNearTile tile reach (rect_of thing) → new ≡ mid ++ thing ∷ [] → GainsNear rect_of tile reach (take (i + 1) things) old new
    gains_one new near more = record {
      gained = so_far.gained ++ thing ∷ [];
      are_near = subst (λ xs. AreNear rect_of tile reach xs (so_far.gained ++ thing ∷ [])) (sym (taken_more things i thing small is))
          (one_kept (take i things) so_far.gained thing so_far.are_near near);
      new_is = more ∙ ap (λ zs. zs ++ thing ∷ []) so_far.new_is ∙ append_assoc old so_far.gained (thing ∷ []);
    }

    pub gains_other : (IsNearTile tile reach (rect_of thing) → ⊥) → GainsNear rect_of tile reach (take (i + 1) things) old mid
    gains_other far = record {
      gained = so_far.gained;
      are_near = subst (λ xs. AreNear rect_of tile reach xs so_far.gained) (sym (taken_more things i thing small is)) (one_dropped (take i things) so_far.gained thing so_far.are_near far);
      new_is = so_far.new_is;
    }
