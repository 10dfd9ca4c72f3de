-- facts of all nets, whatever they were made from
use Rattle.std.specs.Prelude.{ℕ, Contains, Some, length, slice_get, ◌≡◌}
use Rattle.geo_core.specs.Plane.{Has}
use Rattle.geo_core.specs.declared.plane.Cell.{Cell}
use Rattle.geo_core.specs.declared.plane.Half.{Half}
use Rattle.fault_model.specs.FaultNames.{IsOn, IsSameIsland}
use Rattle.lists.specs.Differing.{AreDifferent}
use Rattle.net_extract.specs.NetLists.{NetLists, IsIslandCell, contacts_of, places_of}
use Rattle.net_extract.specs.declared.pieces.Anchor.{Anchor}
use Rattle.net_extract.specs.declared.pieces.ContactPiece.{ContactPiece}

-- the contact piece lies on the two islands that it carries, of the lower and of the upper metal of its cut
pub record LiesOnIslands (nets : NetLists) (cut : ℕ) (contact : ContactPiece) : Type 0 where
  pub lower : ℕ
  pub upper : ℕ
  pub ends : slice_get nets.ends cut ≡ Some (lower, upper)
  pub on_lower : (c : Cell) → Has contact.rect c → IsIslandCell nets lower contact.lower c
  pub on_upper : (c : Cell) → Has contact.rect c → IsIslandCell nets upper contact.upper c

-- The pieces that carry one island are connected by themselves. Each cut has its two metals, and each contact piece lies
-- on the two islands that it carries; no two contact pieces of a cut are the same. Each anchor lies on a piece of its
-- island, and no two anchors of one metal are the same cell.
pub record AreNets (nets : NetLists) : Type 0 where
  pub connected : (metal island : ℕ) (p q : Half) →
      IsOn (IsIslandCell nets metal island) p → IsOn (IsIslandCell nets metal island) q →
      IsSameIsland (IsIslandCell nets metal island) p q
  pub ends : length nets.ends ≡ length nets.contacts
  pub contacts : (cut : ℕ) (contact : ContactPiece) → Contains (contacts_of nets cut) contact → LiesOnIslands nets cut contact
  pub contacts_differ : (cut : ℕ) → AreDifferent (contacts_of nets cut)
  pub anchored : (anchor : Anchor) → Contains nets.anchors anchor → IsIslandCell nets anchor.metal anchor.island anchor.cell
  pub anchors_differ : AreDifferent (places_of nets)
