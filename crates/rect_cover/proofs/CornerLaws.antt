-- the corners of a path, point by point
use Rattle.std.proofs.Common.{suc, ◌-◌, ◌≤◌, ◌≡◌, Bool, true, false, not, ◌&&◌, if◌then◌else◌, ℤ, int_eq, int_lt, List, [], ◌∷◌, ◌++◌, length, get_or, drop, map, filter, Option, Some, None, refl, sym, ap, ◌∙◌, arith}
use Rattle.lists.proofs.Words.{ints}
use Rattle.geo_core.specs.declared.plane.Point.{Point}
use Rattle.geo_core.proofs.TurnLaws.{same_at}
use Rattle.outlines.specs.Outlines.{Edge, edges_of}
use Rattle.rect_cover.specs.PathPieces.{is_long, is_same, direction_of, neighbours, corners_among, corners_of}
use Rattle.rect_cover.specs.inside.PathCorners.{turns, corners_ahead}
use Rattle.rect_cover.specs.declared.direction.Direction.{Direction}

-- an edge that is not long has equal ends
pub not_long : (p q : Point) → is_long (p, q) ≡ false → p ≡ q
not_long p q h =
    let across : p.x ≡ q.x = grind (arith, ints) in
    let up : p.y ≡ q.y = grind (arith, ints) in
    same_at p.x p.y q.x q.y across up

not_before : (a : ℤ) → int_lt a a ≡ false
not_before a = grind (arith, ints)

-- the points that differ from the one before them
abbrev far_ends : List Edge → List Point
far_ends edges = map (λ (edge : Edge). edge.1) (filter is_long edges)

-- the corners behind the first of points that differ each from the one before
abbrev turns_at : Edge × Edge → Bool
turns_at pair = not (is_same (direction_of pair.0) (direction_of pair.1))

abbrev bends : List Point → List Point
bends points = map (λ (pair : Edge × Edge). pair.1.0) (filter turns_at (neighbours (edges_of points))) ++ drop (length points - 1) points

bend : (a b c : Point) (rest : List Point) → bends (a ∷ b ∷ c ∷ rest) ≡ (if turns_at ((a, b), (b, c)) then b ∷ bends (b ∷ c ∷ rest) else bends (b ∷ c ∷ rest))
bend a b c rest =
    let pair : Edge × Edge = ((a, b), (b, c)) in
    let others = filter turns_at (neighbours (edges_of (b ∷ c ∷ rest))) in
    let last = drop (length (b ∷ c ∷ rest) - 1) (b ∷ c ∷ rest) in
    let one_less : length (a ∷ b ∷ c ∷ rest) - 1 ≡ suc (length (b ∷ c ∷ rest) - 1) = omega arith in
    let here = map (λ (pair : Edge × Edge). pair.1.0) others ++ last in
    ap (λ k. map (λ (pair : Edge × Edge). pair.1.0) (if turns_at pair then pair ∷ others else others) ++ drop k (a ∷ b ∷ c ∷ rest)) one_less
    ∙ elim (turns_at pair) as (λ t. map (λ (pair : Edge × Edge). pair.1.0) (if t then pair ∷ others else others) ++ last ≡ (if t then b ∷ here else here)) [ true ↦ refl | false ↦ refl ]

-- points that repeat the one before them make no difference
bends_are : (a b : Point) (ps : List Point) → bends (a ∷ b ∷ far_ends (edges_of (b ∷ ps))) ≡ corners_ahead b (Some (direction_of (a, b))) ps
bends_are a b [] = refl
bends_are a b (c ∷ ps) =
    let d = direction_of (a, b) in
    let e = direction_of (b, c) in
    let others = filter is_long (edges_of (c ∷ ps)) in
    let all : Bool → Type 0 = λ long. is_long (b, c) ≡ long → bends (a ∷ b ∷ map (λ (edge : Edge). edge.1) (if long then (b, c) ∷ others else others))
    ≡ (if long then (if turns (Some d) e then b ∷ corners_ahead c (Some e) ps else corners_ahead c (Some e) ps) else corners_ahead b (Some d) ps) in
    elim (is_long (b, c)) as all [
      | true ↦ λ long. bend a b c (far_ends (edges_of (c ∷ ps))) ∙ ap (λ xs. if turns (Some d) e then b ∷ xs else xs) (bends_are b c ps)
      | false ↦ λ short. ap (λ p. bends (a ∷ b ∷ far_ends (edges_of (p ∷ ps)))) (sym (not_long b c short)) ∙ bends_are a b ps
    ] refl

corners_are : (p : Point) (ps : List Point) → corners_of (p ∷ ps) ≡ p ∷ corners_ahead p None ps
corners_are p [] = refl
corners_are p (q ∷ ps) =
    let others = filter is_long (edges_of (q ∷ ps)) in
    let all : Bool → Type 0 = λ long. is_long (p, q) ≡ long → corners_among (p ∷ map (λ (edge : Edge). edge.1) (if long then (p, q) ∷ others else others))
    ≡ p ∷ (if long then corners_ahead q (Some (direction_of (p, q))) ps else corners_ahead p None ps) in
    elim (is_long (p, q)) as all [
      | true ↦ λ long. ap (λ xs. p ∷ xs) (bends_are p q ps)
      | false ↦ λ short. ap (λ r. corners_among (p ∷ far_ends (edges_of (r ∷ ps)))) (sym (not_long p q short)) ∙ corners_are p ps
    ] refl

-- one point further, which is the same point or another
short_edge : (p q : Point) → true ≡ (int_eq q.x p.x && int_eq q.y p.y) → is_long (p, q) ≡ false
short_edge p q same = grind (arith, ints)

long_edge : (p q : Point) → false ≡ (int_eq q.x p.x && int_eq q.y p.y) → is_long (p, q) ≡ true
long_edge p q differ = grind (arith, ints)

module _ (at to : Point) (heading : Option Direction) (rest : List Point) where
  pub ahead_again : true ≡ (int_eq to.x at.x && int_eq to.y at.y) → corners_ahead at heading (to ∷ rest) ≡ corners_ahead at heading rest
  ahead_again same = rw (short_edge at to same) refl

  module _ (d : Direction) (differ : false ≡ (int_eq to.x at.x && int_eq to.y at.y)) (is : d ≡ direction_of (at, to)) where
    pub ahead_turned : turns heading d ≡ true → corners_ahead at heading (to ∷ rest) ≡ at ∷ corners_ahead to (Some d) rest
    ahead_turned turn = rw (long_edge at to differ, sym is, turn) refl

    pub ahead_straight : turns heading d ≡ false → corners_ahead at heading (to ∷ rest) ≡ corners_ahead to (Some d) rest
    ahead_straight straight = rw (long_edge at to differ, sym is, straight) refl

-- the walk begins at the first point, and looks at it again
pub corners_begin : (points : List Point) (d : Point) → 1 ≤ length points →
    (get_or points 0 d ∷ []) ++ corners_ahead ((get_or points 0 d)) None ((drop 0 points)) ≡ corners_of points
corners_begin [] d some = absurd (omega arith)
corners_begin (p ∷ ps) d some = simp not_before (sym (corners_are p ps))
