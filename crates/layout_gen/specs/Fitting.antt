-- What is generated fits where it is written.
use Rattle.std.proofs.Common.{◌≡◌, ℕ, pos, ◌<◌, ◌^◌, max, min, Bool, true, List, [], ◌∷◌, All, lit<}
use Rattle.std.proofs.Common.{lit≤, IsTrue, nat_lt, FitsSigned, w32}
use Rattle.std.proofs.Math.Nat.{max-le, min-le_right, lt_of_le_of_lt, lt_of_lt_of_le}
use Rattle.lists.proofs.Words.{AllPass-from_list_all, All-weaker, All-cons, All-nil, ltb-true, list_all}
use Rattle.lists.specs.ByteLists.{AreBytes}
use Rattle.library_model.specs.Ranges.{IsPoint, ArePoints}
use Rattle.geo_core.specs.declared.plane.Point.{Point}
use Rattle.layout_gen.specs.SmallOutlines.{corner, outline, are_small}

-- what a test tells of each number holds of all that pass it
pub by_test : (P : ℕ → Type 0) (test : ℕ → Bool) → ((n : ℕ) → test n ≡ true → P n) → (numbers : List ℕ)
    → IsTrue (list_all test numbers) → All P numbers
by_test P test tells numbers passes =
    All-weaker (λ n. test n ≡ true) P tells numbers (AllPass-from_list_all test numbers passes)

-- bytes by a test are bytes
pub are_bytes : (bytes : List ℕ) → IsTrue (list_all (λ b. nat_lt b 256) bytes) → AreBytes bytes
are_bytes = by_test (λ b. b < 256) (λ b. nat_lt b 256) (λ b. ltb-true b 256)

-- there are no more columns, and no more rows, than an array may have
pub few_columns : (asked : ℕ) → max 1 (min asked 500) < 2 ^ 15
few_columns asked = lt_of_le_of_lt (max-le (lit≤ tt) (min-le_right asked 500)) (lit< tt)

-- ---- boundaries

-- numbers that are small by the test are so
all_small : (numbers : List ℕ) → IsTrue (are_small numbers) → All (λ n. n < 2 ^ 16) numbers
all_small = by_test (λ n. n < 2 ^ 16) (λ n. nat_lt n (2 ^ 16)) (λ n. ltb-true n (2 ^ 16))

-- the layer fits
pub small_layer : (layer right bottom top : ℕ) → IsTrue (are_small (layer ∷ right ∷ bottom ∷ top ∷ [])) → layer < 2 ^ 16
small_layer layer right bottom top small = all_small (layer ∷ right ∷ bottom ∷ top ∷ []) small 0 0 (lit< tt)

-- a corner fits
corner_fits : (x y : ℕ) → x < 2 ^ 16 → y < 2 ^ 16 → IsPoint (corner x y)
corner_fits x y across up = record { across = small_fits x across; up = small_fits y up }
  where
    small_fits : (n : ℕ) → n < 2 ^ 16 → FitsSigned w32 (pos n)
    small_fits n small = record { sfits = lt_of_lt_of_le small (lit≤ tt) }

-- so do all corners
five_fit : (a b c d e : Point) → IsPoint a → IsPoint b → IsPoint c → IsPoint d → IsPoint e
    → ArePoints (a ∷ b ∷ c ∷ d ∷ e ∷ [])
five_fit a b c d e of_a of_b of_c of_d of_e =
    All-cons IsPoint a (b ∷ c ∷ d ∷ e ∷ []) of_a (All-cons IsPoint b (c ∷ d ∷ e ∷ []) of_b
    (All-cons IsPoint c (d ∷ e ∷ []) of_c (All-cons IsPoint d (e ∷ []) of_d (All-cons IsPoint e [] of_e (All-nil IsPoint)))))

-- the points of an outline fit
pub small_outline : (layer right bottom top : ℕ) → IsTrue (are_small (layer ∷ right ∷ bottom ∷ top ∷ []))
    → ArePoints (outline right bottom top)
small_outline layer right bottom top small =
    let all = all_small (layer ∷ right ∷ bottom ∷ top ∷ []) small in
    let across : right < 2 ^ 16 = all 1 0 (lit< tt) in
    let from : bottom < 2 ^ 16 = all 2 0 (lit< tt) in
    let to : top < 2 ^ 16 = all 3 0 (lit< tt) in
    five_fit (corner 0 bottom) (corner right bottom) (corner right top) (corner 0 top) (corner 0 bottom)
    (corner_fits 0 bottom (lit< tt) from) (corner_fits right bottom across from) (corner_fits right top across to)
    (corner_fits 0 top (lit< tt) to) (corner_fits 0 bottom (lit< tt) from)
