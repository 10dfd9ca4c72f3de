-- outlines that go on from one another wind together
use Rattle.std.proofs.Common.{ℕ, ◌+◌, ◌≡◌, refl, sym, ap, ◌∙◌, List, [], ◌∷◌, ◌++◌, map, Bool, arith, ℤ, pos, ◌+ℤ◌, ◌-ℤ◌, ◌≤ℤ◌, ◌<ℤ◌}
use Rattle.lists.proofs.Words.{ints, map-append}
use Rattle.geo_core.specs.declared.plane.Point.{Point}
use Rattle.geo_core.specs.declared.plane.Cell.{Cell}
use Rattle.outlines.specs.Outlines.{winding_number}
use Rattle.outlines.specs.Sights.{part_again, part_back}
use Rattle.outlines.proofs.CountLaws.{le_false, le_true}
use Rattle.outlines.proofs.WindLaws.{Place, place_of, counted, left_rises, left_falls, winds_by_places}

counted-joined : (test : Place → Place → Bool) (front : List Place) (at : Place) (behind : List Place)
    → counted test (front ++ at ∷ behind) ≡ counted test (front ++ at ∷ []) + counted test (at ∷ behind)
counted-joined test [] at behind = omega arith
counted-joined test (p ∷ []) at behind = omega arith
counted-joined test (p ∷ q ∷ front) at behind = let h = counted-joined test (q ∷ front) at behind in omega arith

sums : (a b c d e f : ℕ) → a ≡ b + c → d ≡ e + f → (pos a -ℤ pos d) ≡ (pos b -ℤ pos e) +ℤ (pos c -ℤ pos f)
sums a b c d e f g h = omega (arith, ints)

pub winding_joined : (front : List Point) (at : Point) (behind : List Point) (c : Cell)
    → winding_number (front ++ at ∷ behind) c ≡ winding_number (front ++ at ∷ []) c +ℤ winding_number (at ∷ behind) c
winding_joined front at behind c =
    let round = λ (l : List Place). pos (counted left_rises l) -ℤ pos (counted left_falls l) in
    let place = place_of c in
    let join = λ (test : Place → Place → Bool). counted-joined test (map place front) (place at) (map place behind) in
    winds_by_places c (front ++ at ∷ behind)
    ∙ ap round (map-append place front (at ∷ behind))
    ∙ sums _ _ _ _ _ _ (join left_rises) (join left_falls)
    ∙ ap (λ l. round l +ℤ round (map place (at ∷ behind))) (sym (map-append place front (at ∷ [])))
    ∙ ap (λ z. z +ℤ round (map place (at ∷ behind))) (sym (winds_by_places c (front ++ at ∷ [])))
    ∙ ap (λ z. winding_number (front ++ at ∷ []) c +ℤ z) (sym (winds_by_places c (at ∷ behind)))

module _ (x0 x1 x2 y0 y1 : ℤ) (c : Cell) (first : x0 ≤ℤ x1) (left : x1 ≤ℤ c.i) (right : c.i <ℤ x2) (low : y0 ≤ℤ c.j) (high : c.j <ℤ y1) where
  pub part_wound_twice : winding_number (part_again x0 x1 x2 y0 y1) c ≡ pos 2
  part_wound_twice =
      winds_by_places c (part_again x0 x1 x2 y0 y1)
      ∙ rw (le_true x0 c.i (omega (arith, ints)), le_true x1 c.i left, le_false x2 c.i right, le_true y0 c.j low, le_false y1 c.j high) refl

  pub part_wound_each_way : winding_number (part_back x0 x1 x2 y0 y1) c ≡ pos 0
  part_wound_each_way =
      winds_by_places c (part_back x0 x1 x2 y0 y1)
      ∙ rw (le_true x0 c.i (omega (arith, ints)), le_true x1 c.i left, le_false x2 c.i right, le_true y0 c.j low, le_false y1 c.j high) refl
