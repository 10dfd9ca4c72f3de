-- islands and nets by numbers that go through all metals
use Rattle.std.specs.Prelude.{ℕ, List, [], Contains, Some, length, slice_get, slice_index, slice_index_or, ◌+◌, ◌<◌, ◌≤◌, ◌≡◌, ◌↔◌, ◌⊎◌}
use Rattle.lists.specs.Differing.{AreDifferent}
use Rattle.lists.specs.Words.{AllZip}
use Rattle.paths.specs.Paths.{Path}
use Rattle.geo_core.specs.declared.plane.Cell.{Cell}
use Rattle.geo_core.specs.declared.plane.Half.{Half}
use Rattle.geo_core.specs.declared.plane.Labelled.{Labelled}
use Rattle.geo_core.specs.declared.plane.Rect.{Rect}
use Rattle.geo_core.specs.Plane.{IsInUnion, IsCoveredIn}
use Rattle.fault_model.specs.FaultNames.{IsOn, IsSameIsland}
use Rattle.map_model.specs.declared.layers.Cut.{Cut}
use Rattle.net_extract.specs.ContactGroups.{AreGroupsOf}
use Rattle.net_extract.specs.NetFacts.{AreNets}
use Rattle.net_extract.specs.NetLists.{NetLists}
use Rattle.net_extract.specs.inside.LabelledCells.{HasLabelled, AreContactsOf}
use Rattle.net_extract.specs.declared.pieces.ContactGroup.{ContactGroup}
use Rattle.net_extract.specs.declared.pieces.ContactPiece.{ContactPiece}
use Rattle.net_extract.specs.declared.pieces.Piece.{Piece}

-- the rectangles with their islands, which have numbers from `low` to before `high`
pub record AreIslandsFrom (rects : List Rect) (low high : ℕ) (islands : List Labelled) : Type 0 where
  pub covered : (c : Cell) → ((i : ℕ) × HasLabelled islands i c) ↔ IsInUnion rects c
  pub joined : (i k : ℕ) (p q : Half) → IsOn (HasLabelled islands i) p → IsOn (HasLabelled islands k) q →
      (i ≡ k) ↔ IsSameIsland (IsInUnion rects) p q
  pub within : (i : ℕ) (c : Cell) → HasLabelled islands i c → (low ≤ i) × (i < high)

-- the rectangles of the metal with their islands
abbrev pub islands_on : List (List Labelled) → ℕ → List Labelled
islands_on islands metal = slice_index_or islands metal []

-- the rectangles of the first so many lists with their islands; all numbers are below `high`, and none stands for
-- islands of two metals
pub record AreIslandsOf (lists : List (List Rect)) (metals high : ℕ) (islands : List (List Labelled)) : Type 0 where
  pub one_each : length islands ≡ metals
  pub covered : (metal : ℕ) (c : Cell) → metal < metals →
      ((i : ℕ) × HasLabelled (islands_on islands metal) i c) ↔ IsCoveredIn lists metal c
  pub joined : (m n i k : ℕ) (p q : Half) →
      IsOn (HasLabelled (islands_on islands m) i) p → IsOn (HasLabelled (islands_on islands n) k) q →
      (i ≡ k) ↔ ((m ≡ n) × IsSameIsland (IsCoveredIn lists m) p q)
  pub below : (metal i : ℕ) (c : Cell) → HasLabelled (islands_on islands metal) i c → i < high

-- the contact pieces of each cut, whose list of rectangles follows those of all metals; no two of a cut are the same
pub record AreContactLists (lists : List (List Rect)) (islands : List (List Labelled)) (cuts : List Cut)
    (contacts : List (List ContactPiece)) : Type 0 where
  pub one_each : length contacts ≡ length cuts
  pub exact : (k : ℕ) (cut : Cut) → slice_get cuts k ≡ Some cut →
      AreContactsOf (slice_index_or lists (length islands + k) []) (islands_on islands cut.lower) (islands_on islands cut.upper)
      (slice_index_or contacts k [])
  pub once : (k : ℕ) → AreDifferent (slice_index_or contacts k [])

-- a contact piece carries the two islands
pub record IsLink (contacts : List (List ContactPiece)) (lower upper : ℕ) : Type 0 where
  pub list : List ContactPiece
  pub contact : ContactPiece
  pub listed : Contains contacts list
  pub among : Contains list contact
  pub lower_is : contact.lower ≡ lower
  pub upper_is : contact.upper ≡ upper

-- contact pieces lead from the one island to the other
abbrev pub AreLinked : ℕ → List (List ContactPiece) → ℕ → ℕ → Type 0
AreLinked count contacts = Path (λ i. i < count) (λ i k. IsLink contacts i k ⊎ IsLink contacts k i)

-- the numbers tell which islands are of one net
pub record AreNetNumbers (count : ℕ) (contacts : List (List ContactPiece)) (nets : List ℕ) : Type 0 where
  pub one_each : length nets ≡ count
  pub joined : (i k : ℕ) → i < count → k < count → (slice_index nets i ≡ slice_index nets k) ↔ AreLinked count contacts i k

-- the rectangle with its island and its net
abbrev pub piece_of : List ℕ → Labelled → Piece
piece_of nets island = record { rect = island.rect; island = island.label; net = slice_index nets island.label }

-- nets with the groups of their contact pieces
pub record AreGroupedNets (nets : NetLists) (groups : List (List ContactGroup)) : Type 0 where
  pub nets_are : AreNets nets
  pub grouped : AllZip AreGroupsOf nets.contacts groups
