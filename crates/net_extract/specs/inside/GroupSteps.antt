-- contact pieces in the order of their islands, group by group
use Rattle.std.specs.Prelude.{ℕ, List, Contains, All, AllPairs, true, false, map, length, take, drop, ◌<◌, ◌≤◌, ◌≡◌, ◌⊎◌}
use Rattle.lists.specs.Differing.{AreDifferent}
use Rattle.net_extract.specs.ContactGroups.{carries_both, ends_of_contact, ends_of_group, rects_between}
use Rattle.net_extract.specs.declared.pieces.ContactGroup.{ContactGroup}
use Rattle.net_extract.specs.declared.pieces.ContactPiece.{ContactPiece}

-- the one has the lesser lower island, or the same and no greater upper one
abbrev pub IsNoLater : ContactPiece → ContactPiece → Type 0
IsNoLater one other = (one.lower < other.lower) ⊎ ((one.lower ≡ other.lower) × (one.upper ≤ other.upper))

abbrev pub AreByIslands : List ContactPiece → Type 0
AreByIslands contacts = AllPairs IsNoLater contacts

-- the first so many, and no others, carry these two islands
pub record IsFrontOf (contacts : List ContactPiece) (lower upper count : ℕ) : Type 0 where
  pub some : 0 < count
  pub within : count ≤ length contacts
  pub front : All (λ contact. carries_both lower upper contact ≡ true) (take count contacts)
  pub others : All (λ contact. carries_both lower upper contact ≡ false) (drop count contacts)

-- the groups are those of the first so many contact pieces, and no later one belongs to them
pub record AreFirstGroups (contacts : List ContactPiece) (start : ℕ) (groups : List ContactGroup) : Type 0 where
  pub within : start ≤ length contacts
  pub once : AreDifferent (map ends_of_group groups)
  pub all : (contact : ContactPiece) → Contains (take start contacts) contact
      → Contains (map ends_of_group groups) (ends_of_contact contact)
  pub no_later : (contact : ContactPiece) → Contains (drop start contacts) contact
      → Contains (map ends_of_group groups) (ends_of_contact contact) → ⊥
  pub rects : All (λ group. group.rects ≡ rects_between contacts group.lower group.upper) groups
