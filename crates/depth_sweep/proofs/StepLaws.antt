-- how many steps a sweep takes
use Rattle.std.proofs.Common.{ℕ, ◌+◌, ◌-◌, ◌*◌, ◌≤◌, ◌≡◌, ◌≢◌, sym, subst, arith, List, [], length, map, ℤ, AllPairs, Contains}
use Rattle.lists.proofs.Words.{ints, length-map, Decides-int_eq, mul-le}
use Rattle.std.proofs.lemmas.Cmp.{int_eq_equiv}
use Rattle.std.proofs.lemmas.Map.Made.{IsDistinct-from_AllPairs, length-le_from_is_member, is_member-Decides}
use Rattle.geo_core.specs.declared.plane.Rect.{Rect}
use Rattle.lists.proofs.Containing.{Contains-none}
use Rattle.lists.proofs.Mapping.{Contains-map}
use Rattle.cover_tree.specs.Columns.{AreRising}
use Rattle.cover_tree.specs.TreeNodes.{IsLeastHeight}
use Rattle.depth_sweep.specs.RectSides.{AreSidesOf, IsInStepBound}
use Rattle.depth_sweep.specs.inside.SweepPlaces.{moved, ArePlaces}

different : (places : List ℤ) → AreRising places → AllPairs (λ x y. x ≢ y) places
different places up i j d less small e = let h = up i j d less small in absurd (omega (arith, ints))

module _ (window : Rect) (rects : List Rect) (places sides : List ℤ) (are : ArePlaces window rects places) (all : AreSidesOf rects sides) where
  -- each place is a side, moved: so there are no more places than sides
  fewer_places : length places ≤ length sides
  fewer_places =
      let among : (x : ℤ) → Contains places x → Contains (map (moved window.x0 window.x1) sides) x = λ x h. (
      let m = are.only x h in
      subst (λ y. Contains (map (moved window.x0 window.x1) sides) y) (sym m.is) (Contains-map (moved window.x0 window.x1) sides m.side ((all.all m.side).1 m.of))) in
      let few = length-le_from_is_member int_eq_equiv places (map (moved window.x0 window.x1) sides) (IsDistinct-from_AllPairs Decides-int_eq places (different places are.rising))
      (λ q t. (is_member-Decides Decides-int_eq (map (moved window.x0 window.x1) sides) q).1 (among q ((is_member-Decides Decides-int_eq places q).0 t))) in
      omega (arith, few, length-map sides (moved window.x0 window.x1))

  lower_tree : (low high : ℕ) → IsLeastHeight (length places - 1) low → IsLeastHeight (length sides - 1) high → low ≤ high
  lower_tree low high l h = let fewer = fewer_places in let enough = h.enough in l.least high (omega arith)

-- two events a bar, and at most 16 steps a level for each
pub in_bound : (window : Rect) (rects : List Rect) (places : List ℤ) → ArePlaces window rects places → (height events old new : ℕ) → IsLeastHeight (length places - 1) height
    → events ≤ 2 * length rects → new ≤ old + events * (16 * (height + 1)) → IsInStepBound rects old new
in_bound window rects places are height events old new tall few spent sides high all least =
    let lower = lower_tree window rects places sides are all height high tall least in
    let most = mul-le events (16 * (height + 1)) (2 * length rects) (16 * (high + 1)) few (omega arith) in
    omega (arith, spent, most)

-- no steps at all are within the bound
pub none_in_bound : (rects : List Rect) (steps : ℕ) → IsInStepBound rects steps steps
none_in_bound rects steps sides high all least = omega arith

-- and an empty list takes none
pub none_taken : (rects : List Rect) (old new : ℕ) → rects ≡ [] → old ≤ new → IsInStepBound rects old new → new ≡ old
none_taken rects old new e more bound =
    let none : AreSidesOf [] [] = record {
      different = λ i j d less small. absurd (omega arith);
      all = λ x. (λ h. absurd (Contains-none h), λ s. absurd (Contains-none s.among));
    } in
    let least : IsLeastHeight 0 0 = record { enough = omega arith; least = λ other h. omega arith } in
    let most = subst (λ rs. IsInStepBound rs old new) e bound [] 0 none least in
    omega arith
