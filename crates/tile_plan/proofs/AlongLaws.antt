-- tiles along one axis: each place lies in one, and how far they reach
use Rattle.std.proofs.Common.{ℕ, zero, suc, ◌+◌, ◌*◌, ◌/◌, ◌<◌, ◌≤◌, ◌≡◌, arith, ℤ, pos, ◌+ℤ◌, ◌-ℤ◌, ◌<ℤ◌, ◌↔◌}
use Rattle.lists.proofs.Words.{ints, clamps, mul-le, int_min}
use Rattle.std.proofs.lemmas.Nat.{div_below, mod_below, div-add-mod', same_from_place}
use Rattle.geo_core.specs.Plane.{IsIn, IsInterval}
use Rattle.geo_core.specs.declared.bounds.TheConstants.{FARTHEST_GROWN}
use Rattle.fault_model.specs.FaultNames.{or_zero}
use Rattle.fault_model.proofs.RangeLaws.{or_zero_is}
use Rattle.tile_plan.specs.TilesAlong.{AreTilesAlong, IsInTileAlong}

-- ---- products

-- a lesser number of tiles, and one more, reach no further
one_more : (m n edge : ℕ) → m < n → m * edge + edge ≤ n * edge
one_more m n edge less = let far = mul-le (m + 1) edge n edge (omega arith) (omega arith) in omega arith

-- ---- tiles along an axis

module _ (low high : ℤ) (edge count : ℕ) (tiles : AreTilesAlong low high edge count) where
  pub edge_some : 1 ≤ edge
  edge_some = let a = tiles.reach in let b = tiles.needed in omega (arith, ints)

  -- there is a tile where there is a place
  pub count_some : low <ℤ high → 1 ≤ count
  count_some places = some_of count (let a = tiles.reach in omega (arith, ints)) where
    some_of : (n : ℕ) → 1 ≤ n * edge → 1 ≤ n
    some_of zero h = absurd (omega arith)
    some_of (suc n) h = omega arith

  -- each tile begins before the end
  pub begins_before : (n : ℕ) → n < count → (low +ℤ pos (n * edge)) <ℤ high
  begins_before n less = let far = one_more n count edge less in let b = tiles.needed in omega (arith, ints)

  -- each place lies in a tile
  pub tile_of : (x : ℤ) → IsIn low high x → (n : ℕ) × (n < count) × IsInTileAlong low edge n x
  tile_of x h =
      let a = h.from in let b = h.before in let r = tiles.reach in
      let d = or_zero (x -ℤ low) in
      let is = or_zero_is (x -ℤ low) (omega (arith, ints)) in
      let some = edge_some in
      let parts = div-add-mod' d edge in
      let less = mod_below d edge (omega arith) in (
        d / edge,
        div_below d edge count (omega arith) (omega (arith, ints)),
        record { from = omega (arith, ints); before = omega (arith, ints) },
      )

  -- no other number of tiles will do
  pub same_count : (other : ℕ) → AreTilesAlong low high edge other → count ≡ other
  same_count other also = exact (λ l. late count other l tiles also) (λ l. late other count l also tiles) where
    late : (m n : ℕ) → m < n → AreTilesAlong low high edge m → AreTilesAlong low high edge n → ⊥
    late m n less s t = let far = one_more m n edge less in let a = s.reach in let b = t.needed in absurd (omega (arith, ints))

    exact : (count < other → ⊥) → (other < count → ⊥) → count ≡ other
    exact p q = omega arith

-- a place lies in one tile
pub same_number : (low : ℤ) (edge m n : ℕ) (x : ℤ) → IsInTileAlong low edge m x → IsInTileAlong low edge n x → m ≡ n
same_number low edge m n x h k =
    let a = h.from in let b = h.before in let c = k.from in let d = k.before in
    let p = or_zero_is (x -ℤ (low +ℤ pos (m * edge))) (omega (arith, ints)) in
    let q = or_zero_is (x -ℤ (low +ℤ pos (n * edge))) (omega (arith, ints)) in
    (same_from_place m (or_zero (x -ℤ (low +ℤ pos (m * edge)))) n (or_zero (x -ℤ (low +ℤ pos (n * edge)))) edge (omega (arith, ints)) (omega (arith, ints)) (omega (arith, ints))).0

-- ---- the places of one tile

-- where a tile begins and ends that starts so far behind `low`
module _ (low high : ℤ) (start edge : ℕ) (low' high' : ℤ) (begins : low' ≡ low +ℤ pos start) (ends : high' ≡ int_min (low' +ℤ pos edge) high) where
  pub ends_of_tile : (x : ℤ) → IsIn low' high' x ↔ (IsIn low high x × IsIn (low +ℤ pos start) (low +ℤ pos start +ℤ pos edge) x)
  ends_of_tile x = (
    λ h. let a = h.from in let b = h.before in (
      record { from = omega (arith, ints, clamps); before = omega (arith, ints, clamps) },
      record { from = omega (arith, ints, clamps); before = omega (arith, ints, clamps) },
    ),
    λ h. let a = h.0.before in let b = h.1.from in let c = h.1.before in record { from = omega (arith, ints, clamps); before = omega (arith, ints, clamps) },
  )

  pub tile_within : IsInterval FARTHEST_GROWN low high → 1 ≤ edge → (low +ℤ pos start) <ℤ high → IsInterval FARTHEST_GROWN low' high'
  tile_within within some before =
      let a = within.least in let b = within.most in
      record { some = omega (arith, ints, clamps); least = omega (arith, ints, clamps); most = omega (arith, ints, clamps) }

-- ---- how many there are

-- with a long edge there are few
pub edge_of_many : (low high : ℤ) (edge count : ℕ) → IsInterval FARTHEST_GROWN low high → AreTilesAlong low high edge count → 1000 < count → edge ≤ 2002000
edge_of_many low high edge count within tiles many =
    let far = mul-le 1001 edge count edge (omega arith) (omega arith) in
    let a = within.least in let b = within.most in let c = tiles.needed in omega (arith, ints)

-- all of them together reach no further than this
pub room_of_tiles : (low high : ℤ) (edge count side : ℕ) → IsInterval FARTHEST_GROWN low high → AreTilesAlong low high edge count → edge ≤ 1000000000 → side ≤ edge → count * side ≤ 3002000000
room_of_tiles low high edge count side within tiles short less =
    let far = mul-le count side count edge (omega arith) less in
    let a = within.least in let b = within.most in let c = tiles.needed in omega (arith, ints)
