-- What the bytes of a body read back as.
use Rattle.std.proofs.Common.{◌≡◌, ℕ, zero, suc, ◌+◌, ◌*◌, ◌/◌, ◌^◌, ◌<◌, ℤ, pos, List, [], ◌∷◌, ◌++◌, length, map, get_or, drop, ap, ◌∙◌, arith, w16, w32, FitsSigned}
use Rattle.lists.proofs.Words.{cast_signed, cast_unsigned, flat_map, range_with_len, to_z-of_z, All-head, All-tail, get_or-map-range_with_len, length-map-range_with_len}
use Rattle.std.proofs.Math.Facts.{Fits-lt-pow, Fits-of_z}
use Rattle.std.proofs.Math.Seq.{drop-append-add}
use Rattle.std.proofs.lemmas.Int.{to_z_pos}
use Rattle.std.proofs.lemmas.List.{ext_get_or}
use Rattle.byteorder.specs.Endian.{big_bytes, big_number}
use Rattle.byteorder.specs.Numbers.{big_number-reads_back}
use Rattle.geo_core.specs.declared.plane.Point.{Point}
use Rattle.library_grammar.specs.GrammarNames.{item, point_in, points_in, IsPoint, ArePoints}
use Rattle.gds_write.specs.Bodies.{long_bytes, point_bytes}
use Rattle.gds_write.proofs.ProfileLaws.{length-points}

-- a number of two bytes
pub two_bytes_read : (x : ℕ) (rest : List ℕ) → x < 2 ^ 16 → item 2 0 (big_bytes 2 x ++ rest) ≡ x
two_bytes_read x rest h = big_number-reads_back 2 x rest h

pub short_reads : (z : ℤ) → FitsSigned w16 z → cast_signed w16 (item 2 0 (big_bytes 2 (cast_unsigned w16 z))) ≡ z
short_reads z fits = ap (cast_signed w16) (two_bytes_read (cast_unsigned w16 z) [] (Fits-lt-pow (Fits-of_z {w = w16} fits))) ∙ to_z-of_z w16 z fits

-- a number of four bytes
four_bytes_read : (x : ℕ) (rest : List ℕ) → x < 2 ^ 32 → big_number 4 (big_bytes 4 x ++ rest) ≡ x
four_bytes_read x rest h = big_number-reads_back 4 x rest h

signed_reads : (z : ℤ) (rest : List ℕ) → FitsSigned w32 z → cast_signed w32 (big_number 4 (long_bytes z ++ rest)) ≡ z
signed_reads z rest fits = ap (cast_signed w32) (four_bytes_read (cast_unsigned w32 z) rest (Fits-lt-pow (Fits-of_z {w = w32} fits))) ∙ to_z-of_z w32 z fits

pub long_reads : (z : ℤ) → FitsSigned w32 z → cast_signed w32 (item 4 0 (long_bytes z)) ≡ z
long_reads z fits = signed_reads z [] fits

-- two numbers, of which neither has its highest bit set
pub columns_read : (columns rows : ℕ) → columns < 2 ^ 15 → cast_signed w16 (item 2 0 (big_bytes 2 columns ++ big_bytes 2 rows)) ≡ pos columns
columns_read columns rows few = ap (cast_signed w16) (two_bytes_read columns (big_bytes 2 rows) (omega arith)) ∙ to_z_pos w16 columns few

pub rows_read : (columns rows : ℕ) → rows < 2 ^ 15 → cast_signed w16 (item 2 1 (big_bytes 2 columns ++ big_bytes 2 rows)) ≡ pos rows
rows_read columns rows few = ap (cast_signed w16) (two_bytes_read rows [] (omega arith)) ∙ to_z_pos w16 rows few

-- the first point of a body, and those behind it
first_point : (p : Point) (rest : List ℕ) → IsPoint p → point_in (point_bytes p ++ rest) 0 ≡ p
first_point p rest fits =
    let across : cast_signed w32 (item 4 (2 * 0) (point_bytes p ++ rest)) ≡ p.x = signed_reads p.x (long_bytes p.y ++ rest) fits.across in
    let up : cast_signed w32 (item 4 (2 * 0 + 1) (point_bytes p ++ rest)) ≡ p.y = signed_reads p.y rest fits.up in
    λ i. record { x = across i; y = up i }

item_behind : (p : Point) (rest : List ℕ) (k j : ℕ) → k ≡ 2 + j → item 4 k (point_bytes p ++ rest) ≡ item 4 j rest
item_behind p rest k j e =
    let at : 4 * k ≡ length (point_bytes p) + 4 * j = omega arith in
    ap (λ (n : ℕ). big_number 4 (drop n (point_bytes p ++ rest))) at ∙ ap (big_number 4) (drop-append-add (point_bytes p) rest (4 * j))

later_point : (p : Point) (rest : List ℕ) (k : ℕ) → point_in (point_bytes p ++ rest) (suc k) ≡ point_in rest k
later_point p rest k =
    let across = item_behind p rest (2 * suc k) (2 * k) (omega arith) in
    let up = item_behind p rest (2 * suc k + 1) (2 * k + 1) (omega arith) in
    λ i. record { x = cast_signed w32 (across i); y = cast_signed w32 (up i) }

pub point_reads : (points : List Point) (k : ℕ) (d : Point) → ArePoints points → k < length points → point_in (flat_map point_bytes points) k ≡ get_or points k d
point_reads [] k d fit h = absurd (omega arith)
point_reads (p ∷ points) zero d fit h = first_point p (flat_map point_bytes points) (All-head IsPoint p points fit)
point_reads (p ∷ points) (suc k) d fit h =
    later_point p (flat_map point_bytes points) k ∙ point_reads points k d (All-tail IsPoint p points fit) (omega arith)

-- all points
pub points_read : (points : List Point) → ArePoints points → points_in (flat_map point_bytes points) ≡ points
points_read points fit =
    let body : List ℕ = flat_map point_bytes points in
    let count : length body / 8 ≡ length points = omega (arith, length-points points) in
    let d : Point = record { x = pos 0; y = pos 0 } in
    ap (λ (n : ℕ). map (point_in body) (range_with_len 0 n)) count
    ∙ ext_get_or d (map (point_in body) (range_with_len 0 (length points))) points (length-map-range_with_len (point_in body) 0 (length points))
    (λ k h.
    let within : k < length points = omega (arith, length-map-range_with_len (point_in body) 0 (length points)) in
    get_or-map-range_with_len (point_in body) 0 (length points) k k d within (omega arith) ∙ point_reads points k d fit within)
