-- the area of rectangles without common cells, rectangle by rectangle
use Rattle.std.proofs.Common.{ℕ, ◌+◌, ◌<◌, ◌≤◌, ◌≡◌, subst, sym, ◌∙◌, arith, List, length, take, take_all, get_or, inl, inr}
use Rattle.lists.proofs.Words.{get_or-take, get_or_from_slice_get, length-take-le, slice_get_within}
use Rattle.geo_core.specs.Plane.{Has, IsInUnion}
use Rattle.geo_core.specs.declared.plane.Cell.{Cell}
use Rattle.geo_core.specs.declared.plane.Rect.{Rect}
use Rattle.fault_model.specs.FaultNames.{Tally, cells_of}
use Rattle.fault_model.proofs.PartTallies.{Tally-either, tally_of_part}
use Rattle.fault_model.proofs.TallyLaws.{Tally-none, Tally-same_all}
use Rattle.fault_model.proofs.UnionLaws.{in_union, union_more, union_none}
use Rattle.union_area.proofs.laws.PartLaws.{Always, all_of}
use Rattle.skyline_runs.specs.Runs.{AreApart}

-- the first so many rectangles of the list have so many cells of the window
pub record AreCounted (runs : List Rect) (window : Rect) (k n : ℕ) : Type 0 where
  pub tally : Tally (IsInUnion (take k runs)) (cells_of window) n

module _ (runs : List Rect) (window : Rect) (within : (c : Cell) → IsInUnion runs c → Has window c) where
  pub none_counted : AreCounted runs window 0 0
  none_counted = record { tally = Tally-none (cells_of window) (λ c listed u. union_none c u) }

  pub all_counted : (k n : ℕ) → length runs ≤ k → AreCounted runs window k n → Tally (IsInUnion runs) (cells_of window) n
  all_counted k n past so_far = subst (λ (rs : List Rect). Tally (IsInUnion rs) (cells_of window) n) (take_all k runs past) so_far.tally

  module _ (apart : AreApart runs) (k n : ℕ) (run : Rect) (small : k < length runs) (is : run ≡ get_or runs k run) (so_far : AreCounted runs window k n) where
    -- the next rectangle has no cell of those before it
    none_twice : (c : Cell) → IsInUnion (take k runs) c → Has run c → ⊥
    none_twice c u has =
        let early = slice_get_within (take k runs) u.number u.rect u.at in
        let less : u.number < k = omega (arith, length-take-le k runs (omega arith)) in
        let there : u.rect ≡ get_or runs u.number run = sym (get_or_from_slice_get (take k runs) u.number u.rect run u.at) ∙ get_or-take k runs u.number run less in
        apart u.number k run less small (c, subst (λ (r : Rect). Has r c) there u.has, subst (λ (r : Rect). Has r c) is has)

    run_in_window : (c : Cell) → Has run c → Has window c
    run_in_window c has = within c (in_union runs run c (k, small, sym is) has)

    pub one_counted : AreCounted runs window (k + 1) (n + length (cells_of run))
    one_counted = record {
      tally = Tally-same_all (cells_of window) (n + length (cells_of run)) (λ c.
          let more = union_more c runs k run small is in (
            λ h. more.1 (elim h [ inl u ↦ inl u | inr both ↦ inr both.1 ]),
            λ u. elim (more.0 u) [ inl v ↦ inl v | inr has ↦ inr (tt, has) ],
          ))
          (Tally-either (cells_of window) n (length (cells_of run)) (λ c u both. none_twice c u both.1) so_far.tally
          (tally_of_part {P = Always} window run (length (cells_of run)) run_in_window (all_of run)));
    }
