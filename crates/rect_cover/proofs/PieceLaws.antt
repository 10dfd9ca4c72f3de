-- the pieces of a path, one after the other
use Rattle.std.proofs.Common.{ℕ, suc, ◌+◌, ◌-◌, ◌<◌, ◌≤◌, ◌≡◌, ◌==◌, add-one, Bool, true, false, if◌then◌else◌, ℤ, List, [], ◌∷◌, ◌++◌, ◌≢◌, length, get_or, drop, replicate, refl, sym, ap, ◌∙◌, arith}
use Rattle.lists.proofs.Words.{length-drop, drop_all, nat_tests, zip, drop-cons}
use Rattle.geo_core.specs.declared.plane.Point.{Point}
use Rattle.rect_cover.specs.declared.style.PathStyle.{PathStyle}
use Rattle.rect_cover.specs.PathPieces.{Knot, Piece, half_width_of, reach_before, reach_behind, pieces_between}

-- the pieces from a corner on, through those behind it
pub pieces_ahead : ℤ → ℤ → Knot → List Point → List Piece
pieces_ahead half behind from [] = []
pieces_ahead half behind from (p ∷ []) = (from, (p, behind)) ∷ []
pieces_ahead half behind from (p ∷ (q ∷ rest)) = (from, (p, half)) ∷ pieces_ahead half behind (p, half) (q ∷ rest)

pieces_of_knots : (half behind : ℤ) (from : Knot) (p : Point) (ps : List Point) →
    zip (from ∷ zip (p ∷ ps) (replicate (length ps) half ++ behind ∷ [])) (zip (p ∷ ps) (replicate (length ps) half ++ behind ∷ [])) ≡ pieces_ahead half behind from (p ∷ ps)
unfolding pieces_ahead
pieces_of_knots half behind from p [] = refl
pieces_of_knots half behind from p (q ∷ ps) = ap (λ xs. (from, (p, half)) ∷ xs) (pieces_of_knots half behind (p, half) q ps)

-- the pieces of a path, from its first corner on
pub pieces_begin_at : (style : PathStyle) (corners : List Point) (d : Point) → 0 < length corners →
    pieces_ahead (half_width_of style) (reach_behind style) ((get_or corners 0 d), reach_before style) ((drop 1 corners)) ≡ pieces_between style corners
unfolding pieces_ahead
pieces_begin_at style [] d some = absurd (omega arith)
pieces_begin_at style (first ∷ []) d some = refl
pieces_begin_at style (first ∷ p ∷ ps) d some =
    let half = half_width_of style in
    let behind = reach_behind style in
    let from : Knot = (first, reach_before style) in
    let many : length (first ∷ p ∷ ps) - 2 ≡ length ps = omega arith in
    sym (ap (λ n. zip (from ∷ zip (p ∷ ps) (replicate n half ++ behind ∷ [])) (zip (p ∷ ps) (replicate n half ++ behind ∷ []))) many
    ∙ pieces_of_knots half behind from p ps)

-- one piece more: to the last corner, or to one before it
piece_to : (half behind : ℤ) (from : Knot) (p : Point) (rest : List Point) (is_last : Bool) → (is_last ≡ true → length rest ≡ 0) → (is_last ≡ false → 0 < length rest) →
    pieces_ahead half behind from (p ∷ rest) ≡ (from, (p, (if is_last then behind else half))) ∷ pieces_ahead half behind (p, (if is_last then behind else half)) rest
unfolding pieces_ahead
piece_to half behind from p [] true none some = refl
piece_to half behind from p [] false none some = let h = some refl in absurd (omega arith)
piece_to half behind from p (q ∷ rest) true none some = let h = none refl in absurd (omega arith)
piece_to half behind from p (q ∷ rest) false none some = refl

-- the corner at `i` is the last or not
pub piece_more : (half behind : ℤ) (from to : Knot) (corners : List Point) (i : ℕ) (d : Point) → i < length corners
    → to ≡ (get_or corners i d, (if i + 1 == length corners then behind else half))
    → pieces_ahead half behind from (drop i corners) ≡ (from, to) ∷ pieces_ahead half behind to (drop (i + 1) corners)
piece_more half behind from to corners i d more is =
    let left : length (drop (suc i) corners) ≡ length corners - suc i = length-drop (suc i) corners in
    rw (is, add-one i) (ap (λ xs. pieces_ahead half behind from xs) (drop-cons corners i d more)
    ∙ piece_to half behind from (get_or corners i d) (drop (suc i) corners) (suc i == length corners)
    (λ e. let h : suc i ≡ length corners = grind (arith, nat_tests) in omega arith) (λ e. let h : suc i ≢ length corners = grind (arith, nat_tests) in omega arith))

-- no piece begins at the last corner
pub no_piece_behind : (half behind : ℤ) (from : Knot) (corners : List Point) (i : ℕ) → length corners ≤ i → pieces_ahead half behind from ((drop i corners)) ≡ []
unfolding pieces_ahead
no_piece_behind half behind from corners i end = ap (λ xs. pieces_ahead half behind from xs) (drop_all i corners end)
