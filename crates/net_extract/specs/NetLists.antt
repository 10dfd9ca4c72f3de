-- nets as contracts see them
use Rattle.std.specs.Prelude.{ℕ, Bool, List, [], Contains, map, slice_index_or, ◌≡◌}
use Rattle.geo_core.specs.Plane.{Has}
use Rattle.geo_core.specs.declared.plane.Cell.{Cell}
use Rattle.net_extract.specs.declared.pieces.Anchor.{Anchor}
use Rattle.net_extract.specs.declared.pieces.ContactPiece.{ContactPiece}
use Rattle.net_extract.specs.declared.pieces.Piece.{Piece}

-- the pieces of each metal, the contact pieces of each cut, the lower and the upper metal of each cut, the anchors, and whether
-- via clusters are terminals; cuts are counted from 0 here
pub record NetLists : Type 0 where
  pub pieces : List (List Piece)
  pub contacts : List (List ContactPiece)
  pub ends : List (ℕ × ℕ)
  pub anchors : List Anchor
  pub clusters_are_terminals : Bool

-- the pieces of the metal with this number
abbrev pub pieces_on : NetLists → ℕ → List Piece
pieces_on nets metal = slice_index_or nets.pieces metal []

-- the contact pieces of the cut with this number
abbrev pub contacts_of : NetLists → ℕ → List ContactPiece
contacts_of nets cut = slice_index_or nets.contacts cut []

-- a piece of the metal has the cell
pub record IsPieceCell (nets : NetLists) (metal : ℕ) (c : Cell) : Type 0 where
  pub piece : Piece
  pub among : Contains (pieces_on nets metal) piece
  pub has : Has piece.rect c

-- a piece of the metal that carries this island has the cell
pub record IsIslandCell (nets : NetLists) (metal island : ℕ) (c : Cell) : Type 0 where
  pub piece : Piece
  pub among : Contains (pieces_on nets metal) piece
  pub carries : piece.island ≡ island
  pub has : Has piece.rect c

-- a piece of the metal that carries this net has the cell
pub record IsNetCell (nets : NetLists) (metal net : ℕ) (c : Cell) : Type 0 where
  pub piece : Piece
  pub among : Contains (pieces_on nets metal) piece
  pub carries : piece.net ≡ net
  pub has : Has piece.rect c

-- a contact piece of the cut has the cell
pub record IsContactCell (nets : NetLists) (cut : ℕ) (c : Cell) : Type 0 where
  pub contact : ContactPiece
  pub among : Contains (contacts_of nets cut) contact
  pub has : Has contact.rect c

-- the metal and the cell of each anchor
abbrev pub places_of : NetLists → List (ℕ × Cell)
places_of nets = map (λ anchor. (anchor.metal, anchor.cell)) nets.anchors
