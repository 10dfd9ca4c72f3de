-- what is covered alike has the same half squares, islands, contacts and nets, and so the same faults
use Rattle.std.proofs.Common.{ℕ, ◌≡◌, ◌⊎◌, inl, inr, List, ◌↔◌}
use Rattle.geo_core.specs.declared.plane.Cell.{Cell}
use Rattle.geo_core.specs.declared.plane.Half.{Half}
use Rattle.fault_model.specs.FaultNames.{IsOn, Cut, Place, IsContact, IsSameNet, IsSameIsland, IsShort, IsViaBlock, IsViasOpen}
use Rattle.fault_model.specs.Faults.{IsSameCluster}
use Rattle.fault_model.specs.Nets.{NetStep, along, through}
use Rattle.fault_model.specs.Vias.{TerminalName, named_cell, via, Differ, IsInClusterOf, IsInTerminal}
use Rattle.paths.proofs.PathLaws.{within, retold}

pub IsOn-alike : {one other : Cell → Type 0} → ((c : Cell) → one c → other c) → (h : Half) → IsOn one h → IsOn other h
IsOn-alike f h on = (on.0, on.1, f on.0 on.2)

-- what covers at least as much joins at least as much
module _ (one other : ℕ → Cell → Type 0) (more : (m : ℕ) (c : Cell) → one m c → other m c) where
  pub contact_more : (cut : Cut) (h : Half) → IsContact one cut h → IsContact other cut h
  contact_more cut h on = (IsOn-alike (more cut.number) h on.0, IsOn-alike (more cut.lower) h on.1, IsOn-alike (more cut.upper) h on.2)

  pub island_more : (m : ℕ) (p q : Half) → IsSameIsland (one m) p q → IsSameIsland (other m) p q
  island_more m p q walk = within (IsOn-alike (more m)) walk

  pub cluster_more : (cut : Cut) (p q : Half) → IsSameCluster one cut p q → IsSameCluster other cut p q
  cluster_more cut p q both = (island_more cut.lower p q both.0, island_more cut.upper p q both.1)

  step_more : (cuts : List Cut) (p q : Place) → NetStep one cuts p q → NetStep other cuts p q
  step_more cuts p q (along metal near) = along metal near
  step_more cuts p q (through cut among joins half on) = through cut among joins half (IsOn-alike (more cut.number) p.half on)

  pub net_more : (cuts : List Cut) (p q : Place) → IsSameNet one cuts p q → IsSameNet other cuts p q
  net_more cuts p q walk = retold (λ a b at_a at_b step. inr (step_more cuts a b step)) (within (λ place on. IsOn-alike (more place.metal) place.half on) walk)

  pub cluster_of_more : (cut : Cut) (p q : Half) → IsInClusterOf one cut p q → IsInClusterOf other cut p q
  cluster_of_more cut p q c = (contact_more cut p c.0, contact_more cut q c.1, cluster_more cut p q c.2)

  pub terminal_more : (cuts : List Cut) (named : Cell → Type 0) (m : ℕ) (name : TerminalName) (h : Half) → IsInTerminal one cuts named m name h → IsInTerminal other cuts named m name h
  terminal_more cuts named m (named_cell d) h lies = lies
  terminal_more cuts named m (via cut contact) h lies = (lies.0, cluster_of_more cut contact h lies.1)

-- what covers the same makes the same faults
module _ (one other : ℕ → Cell → Type 0) (same : (m : ℕ) (c : Cell) → one m c ↔ other m c) where
  there : (m : ℕ) (c : Cell) → one m c → other m c
  there m c = (same m c).0

  back : (m : ℕ) (c : Cell) → other m c → one m c
  back m c = (same m c).1

  pub short_alike : (cuts : List Cut) (m s : ℕ) (c : Cell) → IsShort one cuts m s c → IsShort other cuts m s c
  short_alike cuts m s c short = record {
    one = short.one;
    other = short.other;
    one_on = IsOn-alike (there m) short.one short.one_on;
    other_on = IsOn-alike (there m) short.other short.other_on;
    one_hit = short.one_hit;
    other_hit = short.other_hit;
    apart = λ net. short.apart (net_more other one back cuts (record { metal = m; half = short.one }) (record { metal = m; half = short.other }) net);
  }

  pub block_alike : (cut : Cut) (s : ℕ) (c : Cell) → IsViaBlock one cut s c → IsViaBlock other cut s c
  block_alike cut s c block = record {
    contact = block.contact;
    is_contact = contact_more one other there cut block.contact block.is_contact;
    covered = λ h on cluster. block.covered h (contact_more other one back cut h on) (cluster_more other one back cut block.contact h cluster);
  }

  differ_alike : (a b : TerminalName) → Differ one a b → Differ other a b
  differ_alike (named_cell d) (named_cell e) differ = differ
  differ_alike (named_cell d) (via k q) differ = tt
  differ_alike (via i p) (named_cell e) differ = tt
  differ_alike (via i p) (via k q) (inl cuts) = inl cuts
  differ_alike (via i p) (via k q) (inr apart) = inr (λ cluster. apart (cluster_of_more other one back i p q cluster))

  pub open_alike : (cuts : List Cut) (named : Cell → Type 0) (m s : ℕ) (c : Cell) → IsViasOpen one cuts named m s c → IsViasOpen other cuts named m s c
  open_alike cuts named m s c o = record {
    one = o.one;
    other = o.other;
    different = differ_alike o.one o.other o.different;
    tied = (
      o.tied.0,
      o.tied.1,
      terminal_more one other there cuts named m o.one o.tied.0 o.tied.2,
      terminal_more one other there cuts named m o.other o.tied.1 o.tied.3,
      island_more one other there m
          o.tied.0 o.tied.1 o.tied.4,
    );
    parted = λ p q in_one in_other walk.
        o.parted p q (terminal_more other one back cuts named m o.one p in_one) (terminal_more other one back cuts named m o.other q in_other)
        (within (λ h spared. (IsOn-alike (back m) h spared.0, spared.1)) walk);
  }
