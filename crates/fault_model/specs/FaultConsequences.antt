-- what the laws say of these definitions in other words
use Rattle.std.specs.Prelude.{pos, ℕ, suc, ◌-◌, ◌≡◌, List, Some, slice_get, length}
use Rattle.geo_core.specs.Plane.{IsNear}
use Rattle.geo_core.specs.declared.plane.Cell.{Cell}
use Rattle.geo_core.specs.declared.plane.Half.{Half}
use Rattle.fault_model.specs.Halves.{LiesIn, Neighbours}
use Rattle.fault_model.specs.Nets.{Cut, IsContact, IsSameNetOn}
use Rattle.fault_model.specs.Walks.{IsSameIsland}

-- the relation sorts the things of the set into classes, and relates no others
pub record IsEquivalenceOn {A : Type 0} (S : A → Type 0) (R : A → A → Type 0) : Type 0 where
  pub reflexive : (a : A) → S a → R a a
  pub symmetric : (a b : A) → R a b → R b a
  pub transitive : (a b c : A) → R a b → R b c → R a c
  pub no_others : (a b : A) → R a b → S a × S b

-- a walk written down: from `p` at the front to `q` at the end, all in the set, and any two in a row are neighbours
pub record IsListWalk (S : Half → Type 0) (p q : Half) : Type 0 where
  pub halves : List Half
  pub last : ℕ
  pub counted : length halves ≡ suc last
  pub begins : slice_get halves 0 ≡ Some p
  pub ends : slice_get halves last ≡ Some q
  pub all_in : (k : ℕ) (h : Half) → slice_get halves k ≡ Some h → S h
  pub next : (k : ℕ) (h g : Half) → slice_get halves k ≡ Some h → slice_get halves (suc k) ≡ Some g → Neighbours h g

-- two covered cells of the metal that are at most `r` from this one are not of one net
pub record IsNearTwoNets (covers : ℕ → Cell → Type 0) (cuts : List Cut) (m r : ℕ) (c : Cell) : Type 0 where
  pub one : Cell
  pub other : Cell
  pub one_on : covers m one
  pub other_on : covers m other
  pub one_near : IsNear c one (pos r)
  pub other_near : IsNear c other (pos r)
  pub apart : (p q : Half) → LiesIn p one → LiesIn q other → IsSameNetOn covers cuts m p q → ⊥

-- the cells of all contacts that have the lower and the upper island of some contact are at most `r - 1` from this one
pub record IsNearCluster (covers : ℕ → Cell → Type 0) (cut : Cut) (r : ℕ) (c : Cell) : Type 0 where
  pub contact : Half
  pub is_contact : IsContact covers cut contact
  pub near : (h : Half) (d : Cell) → IsContact covers cut h → IsSameIsland (covers cut.lower) contact h →
      IsSameIsland (covers cut.upper) contact h → LiesIn h d → IsNear c d (pos (r - 1))
