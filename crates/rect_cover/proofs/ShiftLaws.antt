-- a shape that is shifted covers the shifted cells
use Rattle.std.proofs.Common.{ℕ, ◌-◌, ◌≡◌, refl, sym, ap, subst, ◌∙◌, List, [], ◌∷◌, ◌++◌, take, drop, map, length, Bool, inl, inr, not, arith, ℤ, ◌+ℤ◌, ◌-ℤ◌, ◌↔◌, int_lt, Contains, filter, replicate}
use Rattle.lists.proofs.Words.{zip, ints, map-append, length-map, cases_Bool}
use Rattle.std.proofs.lemmas.List.{drop-map, take-map}
use Rattle.geo_core.specs.Plane.{IsIn}
use Rattle.geo_core.specs.declared.plane.Point.{Point}
use Rattle.geo_core.specs.declared.plane.Cell.{Cell}
use Rattle.library_model.specs.declared.element.ShapeKind.{ShapeKind}
use Rattle.library_model.specs.declared.element.ShapeKind.TheVariants.{Boundary, BoxElement, Path}
use Rattle.flatten.specs.Steps.{shifted}
use Rattle.outlines.specs.Outlines.{Edge, edges_of}
use Rattle.rect_cover.specs.PathPieces.{Box, Knot, Piece, style_of, is_long, direction_of, is_same, distinct_points, neighbours, corners_among}
use Rattle.rect_cover.specs.PathPieces.{corners_of, half_width_of, reach_before, reach_behind, knots_at, pieces_of, box_towards, box_of}
use Rattle.rect_cover.specs.declared.direction.Direction.{Direction}
use Rattle.rect_cover.specs.declared.style.PathStyle.{PathStyle}
use Rattle.rect_cover.specs.declared.direction.Direction.TheVariants.{Right, Up, Left, Down}
use Rattle.rect_cover.specs.Covers.{Covers, IsInBox, IsInPiece}
use Rattle.outlines.specs.Sights.{shifted_cell}
use Rattle.outlines.proofs.laws.ShiftLaws.{winding_shifted}
use Rattle.lists.proofs.Mapping.{Contains-map, Contains-map_from}

lt_shifted : (a b d : ℤ) → int_lt (a +ℤ d) (b +ℤ d) ≡ int_lt a b
lt_shifted a b d = grind (arith, ints)

-- ---- lists of which each item is moved

map-swap : {X Y : Type 0} (f : X → Y) (g : X → X) (h : Y → Y) → ((x : X) → f (g x) ≡ h (f x)) → (xs : List X) → map f (map g xs) ≡ map h (map f xs)
map-swap f g h same [] = refl
map-swap f g h same (x ∷ xs) = let e = same x in let r = map-swap f g h same xs in cc

zip-map : {X Y Z W : Type 0} (f : X → Z) (g : Y → W) (h : X × Y → Z × W) → ((x : X) (y : Y) → h (x, y) ≡ (f x, g y)) → (xs : List X) (ys : List Y) → zip (map f xs) (map g ys) ≡ map h (zip xs ys)
zip-map f g h same [] ys = refl
zip-map f g h same (x ∷ xs) [] = refl
zip-map f g h same (x ∷ xs) (y ∷ ys) = let e = same x y in let r = zip-map f g h same xs ys in cc

zip-map_left : {X Y Z : Type 0} (f : X → Z) (h : X × Y → Z × Y) → ((x : X) (y : Y) → h (x, y) ≡ (f x, y)) → (xs : List X) (ys : List Y) → zip (map f xs) ys ≡ map h (zip xs ys)
zip-map_left f h same [] ys = refl
zip-map_left f h same (x ∷ xs) [] = refl
zip-map_left f h same (x ∷ xs) (y ∷ ys) = let e = same x y in let r = zip-map_left f h same xs ys in cc

filter-map_same : {X : Type 0} (p : X → Bool) (f : X → X) → ((x : X) → p (f x) ≡ p x) → (xs : List X) → filter p (map f xs) ≡ map f (filter p xs)
filter-map_same p f same [] = refl
filter-map_same p f same (x ∷ xs) =
    let rest = filter-map_same p f same xs in
    elim (cases_Bool (p x)) [ inl e ↦ rw (same x, e) (ap (λ l. f x ∷ l) rest) | inr e ↦ rw (same x, e) rest ]

in_shifted : (low high r s x d : ℤ) → IsIn ((low +ℤ d) -ℤ r) ((high +ℤ d) +ℤ s) (x +ℤ d) ↔ IsIn (low -ℤ r) (high +ℤ s) x
in_shifted low high r s x d = (
  (λ h. let f = h.from in let b = h.before in record { from = omega (arith, ints); before = omega (arith, ints) }),
  λ h. let f = h.from in let b = h.before in record { from = omega (arith, ints); before = omega (arith, ints) },
)

module _ (by : Point) where
  abbrev move : Point → Point
  move p = shifted by p

  abbrev move_edge : Edge → Edge
  move_edge e = (move e.0, move e.1)

  abbrev move_pair : Edge × Edge → Edge × Edge
  move_pair pair = (move_edge pair.0, move_edge pair.1)

  abbrev move_knot : Knot → Knot
  move_knot knot = (move knot.0, knot.1)

  abbrev move_piece : Piece → Piece
  move_piece piece = (move_knot piece.0, move_knot piece.1)

  long_kept : (e : Edge) → is_long (move_edge e) ≡ is_long e
  long_kept e = rw (lt_shifted e.0.x e.1.x by.x, lt_shifted e.1.x e.0.x by.x, lt_shifted e.0.y e.1.y by.y, lt_shifted e.1.y e.0.y by.y) refl

  direction_kept : (e : Edge) → direction_of (move_edge e) ≡ direction_of e
  direction_kept e = rw (lt_shifted e.0.x e.1.x by.x, lt_shifted e.1.x e.0.x by.x, lt_shifted e.0.y e.1.y by.y) refl

  edges_moved : (points : List Point) → edges_of (map move points) ≡ map move_edge (edges_of points)
  edges_moved points = ap (zip (map move points)) (drop-map move 1 points) ∙ zip-map move move move_edge (λ p q. refl) points (drop 1 points)

  neighbours_moved : (edges : List Edge) → neighbours (map move_edge edges) ≡ map move_pair (neighbours edges)
  neighbours_moved edges = ap (zip (map move_edge edges)) (drop-map move_edge 1 edges) ∙ zip-map move_edge move_edge move_pair (λ e f. refl) edges (drop 1 edges)

  distinct_moved : (points : List Point) → distinct_points (map move points) ≡ map move (distinct_points points)
  distinct_moved points =
      let kept = filter is_long (edges_of points) in
      let front : take 1 (map move points) ≡ map move (take 1 points) = take-map move 1 points in
      let rest : map (λ (e : Edge). e.1) (filter is_long (edges_of (map move points))) ≡ map move (map (λ (e : Edge). e.1) kept) =
      ap (λ l. map (λ (e : Edge). e.1) (filter is_long l)) (edges_moved points)
      ∙ ap (map (λ (e : Edge). e.1)) (filter-map_same is_long move_edge long_kept (edges_of points))
      ∙ map-swap (λ (e : Edge). e.1) move_edge move (λ e. refl) kept in
      cc (map-append move (take 1 points) (map (λ (e : Edge). e.1) kept))

  abbrev turns_at : Edge × Edge → Bool
  turns_at pair = not (is_same (direction_of pair.0) (direction_of pair.1))

  turns_kept : (pair : Edge × Edge) → turns_at (move_pair pair) ≡ turns_at pair
  turns_kept pair = ap (λ d. not (is_same d (direction_of (move_edge pair.1)))) (direction_kept pair.0) ∙ ap (λ d. not (is_same (direction_of pair.0) d)) (direction_kept pair.1)

  corners_among_moved : (points : List Point) → corners_among (map move points) ≡ map move (corners_among points)
  corners_among_moved points =
      let middle = λ (pair : Edge × Edge). pair.1.0 in
      let pairs = filter turns_at (neighbours (edges_of points)) in
      let last = drop (length points - 1) points in
      let between : map middle (filter turns_at (neighbours (edges_of (map move points)))) ≡ map move (map middle pairs) =
      ap (λ l. map middle (filter turns_at (neighbours l))) (edges_moved points)
      ∙ ap (λ l. map middle (filter turns_at l)) (neighbours_moved (edges_of points))
      ∙ ap (map middle) (filter-map_same turns_at move_pair turns_kept (neighbours (edges_of points)))
      ∙ map-swap middle move_pair move (λ pair. refl) pairs in
      let end : drop (length (map move points) - 1) (map move points) ≡ map move last =
      ap (λ n. drop (n - 1) (map move points)) (length-map points move) ∙ drop-map move (length points - 1) points in
      cc (take-map move 1 points, map-append move (map middle pairs) last, map-append move (take 1 points) (map middle pairs ++ last))

  corners_moved : (points : List Point) → corners_of (map move points) ≡ map move (corners_of points)
  corners_moved points = ap corners_among (distinct_moved points) ∙ corners_among_moved (distinct_points points)

  knots_moved : (style : PathStyle) (points : List Point) → knots_at style (corners_of (map move points)) ≡ map move_knot (knots_at style (corners_of points))
  knots_moved style points =
      let reaches = λ (n : ℕ). reach_before style ∷ (replicate (n - 2) (half_width_of style) ++ reach_behind style ∷ []) in
      ap (λ l. zip l (reaches (length l))) (corners_moved points)
      ∙ ap (λ n. zip (map move (corners_of points)) (reaches n)) (length-map (corners_of points) move)
      ∙ zip-map_left move move_knot (λ p r. refl) (corners_of points) (reaches (length (corners_of points)))

  pieces_moved : (style : PathStyle) (points : List Point) → pieces_of style (map move points) ≡ map move_piece (pieces_of style points)
  pieces_moved style points =
      ap (λ l. zip l (drop 1 l)) (knots_moved style points)
      ∙ ap (zip (map move_knot (knots_at style (corners_of points)))) (drop-map move_knot 1 (knots_at style (corners_of points)))
      ∙ zip-map move_knot move_knot move_piece (λ k l. refl) (knots_at style (corners_of points)) (drop 1 (knots_at style (corners_of points)))

  in_both : (box box' : Box) (c c' : Cell) → IsIn box.x0 box.x1 c.i ↔ IsIn box'.x0 box'.x1 c'.i → IsIn box.y0 box.y1 c.j ↔ IsIn box'.y0 box'.y1 c'.j → IsInBox box c ↔ IsInBox box' c'
  in_both box box' c c' across up =
      ((λ h. record { across = across.0 h.across; up = up.0 h.up }), λ h. record { across = across.1 h.across; up = up.1 h.up })

  towards_kept : (d : Direction) (half : ℤ) (piece : Piece) (c : Cell) → IsInBox (box_towards d half (move_piece piece)) (shifted_cell by c) ↔ IsInBox (box_towards d half piece) c
  towards_kept Right half piece c = in_both _ (box_towards Right half piece) _ c
      (in_shifted piece.0.0.x piece.1.0.x piece.0.1 piece.1.1 c.i by.x) (in_shifted piece.0.0.y piece.0.0.y half half c.j by.y)
  towards_kept Left half piece c = in_both _ (box_towards Left half piece) _ c
      (in_shifted piece.1.0.x piece.0.0.x piece.1.1 piece.0.1 c.i by.x) (in_shifted piece.0.0.y piece.0.0.y half half c.j by.y)
  towards_kept Up half piece c = in_both _ (box_towards Up half piece) _ c
      (in_shifted piece.0.0.x piece.0.0.x half half c.i by.x) (in_shifted piece.0.0.y piece.1.0.y piece.0.1 piece.1.1 c.j by.y)
  towards_kept Down half piece c = in_both _ (box_towards Down half piece) _ c
      (in_shifted piece.0.0.x piece.0.0.x half half c.i by.x) (in_shifted piece.1.0.y piece.0.0.y piece.1.1 piece.0.1 c.j by.y)

  box_kept : (half : ℤ) (piece : Piece) (c : Cell) → IsInBox (box_of half (move_piece piece)) (shifted_cell by c) ↔ IsInBox (box_of half piece) c
  box_kept half piece c =
      subst (λ d. IsInBox (box_towards d half (move_piece piece)) (shifted_cell by c) ↔ IsInBox (box_of half piece) c) (sym (direction_kept (piece.0.0, piece.1.0)))
      (towards_kept (direction_of (piece.0.0, piece.1.0)) half piece c)

  piece_kept : (style : PathStyle) (points : List Point) (c : Cell) → IsInPiece style (map move points) (shifted_cell by c) ↔ IsInPiece style points c
  piece_kept style points c = (back, forth)
    where
      back : IsInPiece style (map move points) (shifted_cell by c) → IsInPiece style points c
      back h =
          let from = Contains-map_from move_piece (pieces_of style points) h.piece (subst (λ l. Contains l h.piece) (pieces_moved style points) h.among) in
          record { piece = from.0; among = from.1; has = (box_kept (half_width_of style) from.0 c).0 (subst (λ p. IsInBox (box_of (half_width_of style) p) (shifted_cell by c)) (sym from.2) h.has) }

      forth : IsInPiece style points c → IsInPiece style (map move points) (shifted_cell by c)
      forth h = record {
        piece = move_piece h.piece;
        among = subst (λ l. Contains l (move_piece h.piece)) (sym (pieces_moved style points)) (Contains-map move_piece (pieces_of style points) h.piece h.among);
        has = (box_kept (half_width_of style) h.piece c).1 h.has;
      }

  pub cover_shifted : (kind : ShapeKind) (points : List Point) (c : Cell) → Covers kind (map (shifted by) points) (shifted_cell by c) ↔ Covers kind points c
  cover_shifted Boundary points c = let w = winding_shifted by points c in ((λ n z. n (w ∙ z)), λ n z. n (sym w ∙ z))
  cover_shifted BoxElement points c = let w = winding_shifted by points c in ((λ n z. n (w ∙ z)), λ n z. n (sym w ∙ z))
  cover_shifted (Path pathtype width begin end) points c =
      let piece = piece_kept (style_of pathtype width begin end) points c in
      ((λ h. (h.0, piece.0 h.1)), λ h. (h.0, piece.1 h.1))
