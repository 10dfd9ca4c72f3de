-- the contact pieces of a cut in groups, by the two islands that they carry
use Rattle.std.specs.Prelude.{ℕ, List, Contains, All, Bool, map, filter, ◌==◌, ◌&&◌, ◌≡◌, ◌↔◌}
use Rattle.geo_core.specs.Plane.{Has}
use Rattle.geo_core.specs.declared.plane.Cell.{Cell}
use Rattle.geo_core.specs.declared.plane.Half.{Half}
use Rattle.geo_core.specs.declared.plane.Rect.{Rect}
use Rattle.lists.specs.Differing.{AreDifferent}
use Rattle.fault_model.specs.FaultNames.{IsOn, Cut, IsContact}
use Rattle.fault_model.specs.Faults.{IsSameCluster}
use Rattle.net_extract.specs.NetLists.{NetLists, IsContactCell, contacts_of}
use Rattle.net_extract.specs.declared.pieces.ContactGroup.{ContactGroup}
use Rattle.net_extract.specs.declared.pieces.ContactPiece.{ContactPiece}

-- the contact piece carries these two islands
abbrev pub carries_both : ℕ → ℕ → ContactPiece → Bool
carries_both lower upper contact = (contact.lower == lower) && (contact.upper == upper)

-- the rectangles of the contact pieces that carry these two islands
abbrev pub rects_between : List ContactPiece → ℕ → ℕ → List Rect
rects_between contacts lower upper = map (λ contact. contact.rect) (filter (carries_both lower upper) contacts)

-- the two islands of a contact piece, and those of a group
abbrev pub ends_of_contact : ContactPiece → ℕ × ℕ
ends_of_contact contact = (contact.lower, contact.upper)

abbrev pub ends_of_group : ContactGroup → ℕ × ℕ
ends_of_group group = (group.lower, group.upper)

-- a contact piece that carries these two islands has the cell
pub record IsGroupCell (contacts : List ContactPiece) (islands : ℕ × ℕ) (c : Cell) : Type 0 where
  pub contact : ContactPiece
  pub among : Contains contacts contact
  pub carries : ends_of_contact contact ≡ islands
  pub has : Has contact.rect c

-- one group for each two islands that a contact piece carries, with the rectangles of all that carry these two
pub record AreGroupsOf (contacts : List ContactPiece) (groups : List ContactGroup) : Type 0 where
  pub once : AreDifferent (map ends_of_group groups)
  pub all : (contact : ContactPiece) → Contains contacts contact → Contains (map ends_of_group groups) (ends_of_contact contact)
  pub rects : All (λ group. group.rects ≡ rects_between contacts group.lower group.upper) groups

-- the contact pieces under this number have exactly the contacts of the cut, and two of them carry the same two islands
-- exactly where they are of one cluster
pub record CarryClusters (covers : ℕ → Cell → Type 0) (cut : Cut) (nets : NetLists) (number : ℕ) : Type 0 where
  pub contacts : (h : Half) → IsOn (IsContactCell nets number) h ↔ IsContact covers cut h
  pub same : (one other : ContactPiece) (p q : Half) → Contains (contacts_of nets number) one → Contains (contacts_of nets number) other →
      IsOn (Has one.rect) p → IsOn (Has other.rect) q → (ends_of_contact one ≡ ends_of_contact other) ↔ IsSameCluster covers cut p q
