-- two rectangles that share a whole edge
use Rattle.std.proofs.Common.{arith, refl, ◌≡◌, inl, inr}
use Rattle.lists.proofs.Words.{by_lt_z, ints}
use Rattle.geo_core.specs.Plane.{IsInterval, IsJoin}
use Rattle.geo_core.specs.declared.plane.Rect.{Rect}
use Rattle.geo_core.specs.declared.bounds.TheConstants.{FARTHEST_GROWN}
use Rattle.joined_rects.specs.inside.Joins.{AreHalvesOf}

module _ (one next both : Rect) where
  -- side by side
  halves_across : one.y0 ≡ next.y0 → one.y1 ≡ next.y1 → one.x1 ≡ next.x0 → both.x0 ≡ one.x0 → both.y0 ≡ one.y0 → both.x1 ≡ next.x1 → both.y1 ≡ one.y1 → AreHalvesOf one next both
  halves_across low high meet left bottom right top =
      let some = one.across.some in let also = next.across.some in
      record {
        cells = λ c. (
          λ h.
              let a = h.across.from in let b = h.across.before in let d = h.up.from in let e = h.up.before in
              by_lt_z c.i one.x1
              (λ l. inl (record { across = record { from = omega (arith, ints); before = l }; up = record { from = omega (arith, ints); before = omega (arith, ints) } }))
              (λ k. inr (record { across = record { from = omega (arith, ints); before = omega (arith, ints) }; up = record { from = omega (arith, ints); before = omega (arith, ints) } })),
          λ u. elim u [
            | inl h ↦
                let a = h.across.from in let b = h.across.before in let d = h.up.from in let e = h.up.before in
                record { across = record { from = omega (arith, ints); before = omega (arith, ints) }; up = record { from = omega (arith, ints); before = omega (arith, ints) } }
            | inr h ↦
                let a = h.across.from in let b = h.across.before in let d = h.up.from in let e = h.up.before in
                record { across = record { from = omega (arith, ints); before = omega (arith, ints) }; up = record { from = omega (arith, ints); before = omega (arith, ints) } }
          ],
        );
        apart = λ c h g. let a = h.across.before in let b = g.across.from in absurd (omega (arith, ints));
      }

  -- the second one above the first
  halves_up : one.x0 ≡ next.x0 → one.x1 ≡ next.x1 → one.y1 ≡ next.y0 → both.x0 ≡ one.x0 → both.y0 ≡ one.y0 → both.x1 ≡ one.x1 → both.y1 ≡ next.y1 → AreHalvesOf one next both
  halves_up low high meet left bottom right top =
      let some = one.up.some in let also = next.up.some in
      record {
        cells = λ c. (
          λ h.
              let a = h.across.from in let b = h.across.before in let d = h.up.from in let e = h.up.before in
              by_lt_z c.j one.y1
              (λ l. inl (record { across = record { from = omega (arith, ints); before = omega (arith, ints) }; up = record { from = omega (arith, ints); before = l } }))
              (λ k. inr (record { across = record { from = omega (arith, ints); before = omega (arith, ints) }; up = record { from = omega (arith, ints); before = omega (arith, ints) } })),
          λ u. elim u [
            | inl h ↦
                let a = h.across.from in let b = h.across.before in let d = h.up.from in let e = h.up.before in
                record { across = record { from = omega (arith, ints); before = omega (arith, ints) }; up = record { from = omega (arith, ints); before = omega (arith, ints) } }
            | inr h ↦
                let a = h.across.from in let b = h.across.before in let d = h.up.from in let e = h.up.before in
                record { across = record { from = omega (arith, ints); before = omega (arith, ints) }; up = record { from = omega (arith, ints); before = omega (arith, ints) } }
          ],
        );
        apart = λ c h g. let a = h.up.before in let b = g.up.from in absurd (omega (arith, ints));
      }

-- a rectangle that has their cells is the least one that has the cells of both
module _ (one next both : Rect) (least : IsJoin one next both) where
  halves_of_join : (whole : Rect) → AreHalvesOf one next whole → AreHalvesOf one next both
  halves_of_join whole halves = record {
    cells = λ c. (
      λ h. (halves.cells c).0 (least.least whole (λ d k. (halves.cells d).1 (inl k)) (λ d k. (halves.cells d).1 (inr k)) c h),
      λ u. elim u [ inl h ↦ least.first c h | inr h ↦ least.second c h ],
    );
    apart = halves.apart;
  }

  pub joined_across : one.y0 ≡ next.y0 → one.y1 ≡ next.y1 → one.x1 ≡ next.x0 → AreHalvesOf one next both
  joined_across low high meet =
      let a = one.across.some in let b = one.across.least in let d = next.across.some in let e = next.across.most in
      let across : IsInterval FARTHEST_GROWN one.x0 next.x1 = record { some = omega (arith, ints); least = b; most = e } in
      let whole : Rect = record { x0 = one.x0; y0 = one.y0; x1 = next.x1; y1 = one.y1; across = across; up = one.up } in
      halves_of_join whole (halves_across one next whole low high meet refl refl refl refl)

  pub joined_up : one.x0 ≡ next.x0 → one.x1 ≡ next.x1 → one.y1 ≡ next.y0 → AreHalvesOf one next both
  joined_up low high meet =
      let a = one.up.some in let b = one.up.least in let d = next.up.some in let e = next.up.most in
      let up : IsInterval FARTHEST_GROWN one.y0 next.y1 = record { some = omega (arith, ints); least = b; most = e } in
      let whole : Rect = record { x0 = one.x0; y0 = one.y0; x1 = one.x1; y1 = next.y1; across = one.across; up = up } in
      halves_of_join whole (halves_up one next whole low high meet refl refl refl refl)
