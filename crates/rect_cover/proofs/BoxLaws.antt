-- the rectangles of pieces
use Rattle.std.proofs.Common.{◌≡◌, ℤ, neg_ℤ, ◌≤ℤ◌, w32, w64, ◌+ℤ◌, ◌-ℤ◌, to_z, of_z, List, [], ◌∷◌, ◌++◌, map, append_assoc, sym, ap, subst, ◌∙◌, arith, All}
use Rattle.lists.proofs.Words.{append-nil, map-append, ints}
use mir.Val.{SFits}
use Rattle.geo_core.specs.declared.bounds.TheConstants.{FARTHEST}
use Rattle.rect_cover.specs.PathPieces.{Box, Piece, box_of, box_towards, direction_of}
use Rattle.rect_cover.specs.inside.PieceBoxes.{box_value}
use Rattle.rect_cover.specs.declared.direction.Direction.{Direction}
use Rattle.rect_cover.specs.declared.piece.PieceBox.{PieceBox}
use Rattle.rect_cover.proofs.PlacedLaws.{all_before_map}

-- a coordinate that a layout may have, in four bytes
pub narrowed : (z r : ℤ) → neg_ℤ FARTHEST ≤ℤ z → z ≤ℤ FARTHEST → r ≡ to_z w32 (of_z w32 (to_z w64 (of_z w64 z))) → r ≡ z
narrowed z r low high e = omega (arith, ints)

-- the rectangle of a piece, where it is known where the piece leads
pub leading : (d : Direction) (half : ℤ) (piece : Piece) (b : Box) → d ≡ direction_of (piece.0.0, piece.1.0) → b ≡ box_towards d half piece → b ≡ box_of half piece
leading d half piece b e h = h ∙ ap (λ d. box_towards d half piece) e

-- the rectangles of pieces so far, before those of the pieces ahead
module _ (half : ℤ) (all : List Box) where
  pub boxes_more : (boxes : List PieceBox) (next : PieceBox) (piece : Piece) (ahead : List Piece) → box_value next ≡ box_of half piece →
      map box_value boxes ++ map (box_of half) (piece ∷ ahead) ≡ all → map box_value (boxes ++ next ∷ []) ++ map (box_of half) ahead ≡ all
  boxes_more boxes next piece ahead e h =
      ap (λ xs. xs ++ map (box_of half) ahead) (map-append box_value boxes (next ∷ []))
      ∙ append_assoc (map box_value boxes) (box_value next ∷ []) (map (box_of half) ahead)
      ∙ ap (λ box. map box_value boxes ++ box ∷ map (box_of half) ahead) e ∙ h

  pub boxes_end : (boxes : List Box) (ahead : List Piece) → ahead ≡ [] → boxes ++ map (box_of half) ahead ≡ all → boxes ≡ all
  boxes_end boxes ahead none h = sym (append-nil boxes) ∙ ap (λ xs. boxes ++ map (box_of half) xs) (sym none) ∙ h

-- what holds of each of these rectangles
pub each_box : (P : Box → Type 0) (boxes : List PieceBox) (all : List Box) → map box_value boxes ≡ all → All P all → All (λ piece. P (box_value piece)) boxes
each_box P boxes all same holds = all_before_map P box_value boxes (subst (All P) (sym same) holds)

-- a coordinate that lies so far below or above one of four bytes
pub lowered : (r a b : ℤ) → SFits w32 a → SFits w32 b → r ≡ to_z w32 (of_z w32 a) -ℤ to_z w32 (of_z w32 b) → to_z w64 (of_z w64 r) ≡ a -ℤ b
lowered r a b fits also e = omega (arith, ints)

pub raised : (r a b : ℤ) → SFits w32 a → SFits w32 b → r ≡ to_z w32 (of_z w32 a) +ℤ to_z w32 (of_z w32 b) → to_z w64 (of_z w64 r) ≡ a +ℤ b
raised r a b fits also e = omega (arith, ints)
