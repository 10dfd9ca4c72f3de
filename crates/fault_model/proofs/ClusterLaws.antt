-- the contacts of a cut fall into via clusters
use Rattle.std.proofs.Common.{ℕ, ◌↔◌}
use Rattle.paths.specs.Paths.{stay}
use Rattle.paths.proofs.PathLaws.{append}
use Rattle.geo_core.specs.declared.plane.Cell.{Cell}
use Rattle.geo_core.specs.declared.plane.Half.{Half}
use Rattle.fault_model.specs.FaultNames.{Cut, IsContact, IsEquivalenceOn, IsInFootprint, IsSameIsland, IsViaBlock}
use Rattle.fault_model.specs.Vias.{IsInClusterOf}
use Rattle.fault_model.proofs.LineLaws.{Walk-reverse}

module _ (covers : ℕ → Cell → Type 0) (cut : Cut) where
  pub clusters_are_classes : IsEquivalenceOn (IsContact covers cut) (IsInClusterOf covers cut)
  clusters_are_classes = record {
    reflexive = λ p on. (on, on, (stay on.1, stay on.2));
    symmetric = λ p q one. (one.1, one.0, (Walk-reverse one.2.0, Walk-reverse one.2.1));
    transitive = λ p q r one other. (one.0, other.1, (append one.2.0 other.2.0, append one.2.1 other.2.1));
    no_others = λ p q one. (one.0, one.1);
  }

  -- contacts with the same two islands are of one cluster
  pub clusters_have_two_islands : (p q : Half) → IsContact covers cut p → IsContact covers cut q
      → IsInClusterOf covers cut p q ↔ (IsSameIsland (covers cut.lower) p q × IsSameIsland (covers cut.upper) p q)
  clusters_have_two_islands p q p_on q_on = (λ one. one.2, λ same. (p_on, q_on, same))

  -- a block is a cluster that the defect has whole
  pub blocks_have_clusters : (s : ℕ) (c : Cell)
      → IsViaBlock covers cut s c ↔ ((p : Half) × IsContact covers cut p × ((q : Half) → IsInClusterOf covers cut p q → IsInFootprint c s q))
  blocks_have_clusters s c = (
    λ block. (block.contact, block.is_contact, λ q one. block.covered q one.1 one.2),
    λ (p, on, all). record { contact = p; is_contact = on; covered = λ q q_on same. all q (on, q_on, same) },
  )
