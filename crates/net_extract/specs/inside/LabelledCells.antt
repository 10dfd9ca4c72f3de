-- cells of labelled rectangles, and of contact pieces
use Rattle.std.specs.Prelude.{ℕ, List, Contains, ◌≡◌, ◌↔◌}
use Rattle.geo_core.specs.Plane.{Has, IsInUnion}
use Rattle.geo_core.specs.declared.plane.Cell.{Cell}
use Rattle.geo_core.specs.declared.plane.Labelled.{Labelled}
use Rattle.geo_core.specs.declared.plane.Rect.{Rect}
use Rattle.net_extract.specs.declared.pieces.ContactPiece.{ContactPiece}

-- a rectangle with this label has the cell
pub record HasLabelled (rects : List Labelled) (label : ℕ) (c : Cell) : Type 0 where
  pub labelled : Labelled
  pub among : Contains rects labelled
  pub carries : labelled.label ≡ label
  pub has : Has labelled.rect c

-- a contact piece that carries these two islands has the cell
pub record HasContact (contacts : List ContactPiece) (lower upper : ℕ) (c : Cell) : Type 0 where
  pub contact : ContactPiece
  pub among : Contains contacts contact
  pub lower_is : contact.lower ≡ lower
  pub upper_is : contact.upper ≡ upper
  pub has : Has contact.rect c

-- the contact pieces have exactly the cells that rectangles of both lists have, and carry the labels of the two
abbrev pub AreMeetings : List Labelled → List Labelled → List ContactPiece → Type 0
AreMeetings lower upper contacts = (i k : ℕ) (c : Cell) → HasContact contacts i k c ↔ (HasLabelled lower i c × HasLabelled upper k c)

-- the two rectangles carry these labels, and both have the cell
pub record AreAt (one other : Labelled) (i k : ℕ) (c : Cell) : Type 0 where
  pub one_carries : one.label ≡ i
  pub other_carries : other.label ≡ k
  pub one_has : Has one.rect c
  pub other_has : Has other.rect c

-- the contact pieces have exactly the cells that a rectangle of the cut and one of either list have, with the labels
abbrev pub AreContactsOf : List Rect → List Labelled → List Labelled → List ContactPiece → Type 0
AreContactsOf cut lower upper contacts =
    (i k : ℕ) (c : Cell) → HasContact contacts i k c ↔ (IsInUnion cut c × HasLabelled lower i c × HasLabelled upper k c)

-- the parts have exactly the cells of the rectangles that the cut's rectangles have, too, and keep the labels
abbrev pub ArePartsIn : List Rect → List Labelled → List Labelled → Type 0
ArePartsIn cut rects parts = (i : ℕ) (c : Cell) → HasLabelled parts i c ↔ (IsInUnion cut c × HasLabelled rects i c)

-- the rectangles of the one list have the same cells under each label as those of the other
abbrev pub HaveSameLabelled : List Labelled → List Labelled → Type 0
HaveSameLabelled one other = (i : ℕ) (c : Cell) → HasLabelled other i c ↔ HasLabelled one i c
