-- a set of cells has one window at most, and no fault within reach happens outside it
use Rattle.std.proofs.Common.{ℕ, ◌+◌, ◌/◌, ◌≤◌, ◌<◌, ◌≡◌, refl, ap, arith, inl, inr, List, pos, ◌↔◌, Option, Some, None}
use Rattle.lists.proofs.Words.{ints}
use Rattle.paths.specs.Paths.{stay}
use Rattle.paths.proofs.PathLaws.{within_or_over}
use Rattle.geo_core.specs.Plane.{Has}
use Rattle.geo_core.specs.declared.plane.Cell.{Cell}
use Rattle.geo_core.specs.declared.plane.Half.{Half}
use Rattle.geo_core.specs.declared.plane.Rect.{Rect}
use Rattle.geo_core.proofs.RectLaws.{same_cells_same_rect}
use Rattle.fault_model.specs.FaultNames.{IsOn, IsInFootprint, IsTouched, Cut, IsShort, IsOpen, IsViaBlock, cells_of, cells_of_window, IsBoundsOf, IsWindow, IsWindowOf, IsCovered}
use Rattle.fault_model.proofs.HalfLaws.{hit_or_not}
use Rattle.fault_model.proofs.SizeLaws.{reached}

-- one column and one row of cells
abbrev one_cell_at : (x : ℕ) → x ≤ 1 → Rect
one_cell_at x small = record {
  x0 = pos x;
  y0 = pos 0;
  x1 = pos (x + 1);
  y1 = pos 1;
  across = record { some = omega (arith, ints); least = omega (arith, ints); most = omega (arith, ints) };
  up = record { some = omega (arith, ints); least = omega (arith, ints); most = omega (arith, ints) };
}

corner : (a : Rect) → Has a (record { i = a.x0; j = a.y0 })
corner a = let w = a.across.some in let h = a.up.some in record { across = record { from = omega (arith, ints); before = w }; up = record { from = omega (arith, ints); before = h } }

module _ (covered : Cell → Type 0) where
  -- bounds of no cell would lie in two rectangles without a common cell
  no_bounds : (box : Rect) → IsBoundsOf covered box → ((c : Cell) → covered c → ⊥) → ⊥
  no_bounds box b empty =
      let p = b.least (one_cell_at 0 (omega arith)) (λ c h. absurd (empty c h)) _ (corner box) in
      let q = b.least (one_cell_at 1 (omega arith)) (λ c h. absurd (empty c h)) _ (corner box) in
      let x = p.across.before in
      let y = q.across.from in
      omega (arith, ints)

  same_bounds : (a b : Rect) → IsBoundsOf covered a → IsBoundsOf covered b → (c : Cell) → Has a c → Has b c
  same_bounds a b p q = p.least b q.all_in

  in_window : (reach : ℕ) (v w : Rect) → IsWindow covered reach v → IsWindow covered reach w → (c : Cell) → Has v c → Has w c
  in_window reach v w p q c h =
      let n = (p.grown c).0 h in
      (q.grown c).1 (n.0, same_bounds p.box q.box p.bounds q.bounds n.0 n.1, n.2)

  pub agree : (reach : ℕ) (v w : Option Rect) → IsWindowOf covered reach v → IsWindowOf covered reach w → cells_of_window v ≡ cells_of_window w
  agree reach None None p q = refl
  agree reach None (Some w) p q = absurd (no_bounds q.box q.bounds p)
  agree reach (Some v) None p q = absurd (no_bounds p.box p.bounds q)
  agree reach (Some v) (Some w) p q = ap cells_of (same_cells_same_rect v w (in_window reach v w p q) (in_window reach w v q p))

  pub touch_from_window : (reach s : ℕ) (window : Rect) (c d : Cell) → IsWindow covered reach window → s / 2 ≤ reach → covered d → IsTouched c s d → Has window c
  touch_from_window reach s window c d w small on (h, lies, hit) =
      let e : s < reach + reach + 2 = omega arith in
      (w.grown c).1 (d, w.bounds.all_in d on, (reached c.i d.i h.u s reach e lies.0 hit.0, reached c.j d.j h.v s reach e lies.1 hit.1))

  pub hit_from_window : (reach s : ℕ) (window : Rect) (c : Cell) (h : Half) → IsWindow covered reach window → s / 2 ≤ reach → IsOn covered h → IsInFootprint c s h → Has window c
  hit_from_window reach s window c h w small on hit = touch_from_window reach s window c on.0 w small on.2 (h, on.1, hit)

-- a defect that parts two terminals of one island covers a half square of the island
open_touches : {Name : Type 0} (covered : Cell → Type 0) (Differ : Name → Name → Type 0) (terminal : Name → Half → Type 0) (s : ℕ) (c : Cell) → IsOpen covered Differ terminal s c → (h : Half)
    × IsOn covered h × IsInFootprint c s h
open_touches covered Differ terminal s c o =
    let t = o.tied in
    elim (within_or_over (hit_or_not c s) t.4) [ inl spared ↦ absurd (o.parted t.0 t.1 t.2 t.3 spared) | inr over ↦ over ]

module _ (covers : ℕ → Cell → Type 0) (reach s : ℕ) (window : Rect) (c : Cell) (w : IsWindow (IsCovered covers) reach window) (small : s / 2 ≤ reach) where
  -- what a number covers is covered
  covered_by : (n : ℕ) (h : Half) → IsOn (covers n) h → IsInFootprint c s h → Has window c
  covered_by n h on hit = hit_from_window (IsCovered covers) reach s window c h w small (on.0, on.1, (n, on.2)) hit

  pub short_in_window : (cuts : List Cut) (m : ℕ) → IsShort covers cuts m s c → Has window c
  short_in_window cuts m h = covered_by m h.one h.one_on h.one_hit

  pub open_in_window : {Name : Type 0} (Differ : Name → Name → Type 0) (terminal : Name → Half → Type 0) (m : ℕ) → IsOpen (covers m) Differ terminal s c → Has window c
  open_in_window Differ terminal m o = let t = open_touches (covers m) Differ terminal s c o in covered_by m t.0 t.1 t.2

  pub block_in_window : (cut : Cut) → IsViaBlock covers cut s c → Has window c
  block_in_window cut b = covered_by cut.number b.contact b.is_contact.0 (b.covered b.contact b.is_contact (stay b.is_contact.1, stay b.is_contact.2))

-- sets of the same cells have the same windows
pub IsWindowOf-same : (one other : Cell → Type 0) → ((c : Cell) → one c ↔ other c) → (reach : ℕ) (window : Option Rect) → IsWindowOf one reach window → IsWindowOf other reach window
IsWindowOf-same one other same reach None none = λ c h. none c ((same c).1 h)
IsWindowOf-same one other same reach (Some window) w = record {
  box = w.box;
  bounds = record {
    all_in = λ c h. w.bounds.all_in c ((same c).1 h);
    least = λ box f. w.bounds.least box (λ c h. f c ((same c).0 h));
  };
  grown = w.grown;
}
