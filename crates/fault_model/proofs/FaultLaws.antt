-- faults of two defects at one cell: a larger one makes each that a smaller one does, and one that touches or covers
-- the same cells makes the same
use Rattle.std.proofs.Common.{ℕ, ◌+◌, ◌-◌, ◌/◌, ◌≤◌, ◌≡◌, subst, List, arith, ◌↔◌}
use Rattle.lists.proofs.Words.{ints}
use Rattle.geo_core.specs.declared.plane.Cell.{Cell}
use Rattle.geo_core.specs.declared.plane.Half.{Half}
use Rattle.fault_model.specs.FaultNames.{LiesIn, IsOn, IsTouched, IsSwallowed, Cut, IsContact, IsShort, IsOpen, IsViaBlock}
use Rattle.fault_model.specs.Faults.{IsSameCluster}
use Rattle.fault_model.specs.FaultConsequences.{IsNearTwoNets, IsNearCluster}
use Rattle.paths.proofs.PathLaws.{append, within}
use Rattle.geo_core.proofs.RectLaws.{same_cell}
use Rattle.fault_model.proofs.HalfLaws.{cell_on}
use Rattle.fault_model.proofs.LineLaws.{in_cell}
use Rattle.fault_model.proofs.NetLaws.{in_one_cell}
use Rattle.fault_model.proofs.SizeLaws.{touched, swallowed, footprint_grows}

module _ (covers : ℕ → Cell → Type 0) (s t : ℕ) (c : Cell) (larger : s ≤ t) where
  pub short_grows : (cuts : List Cut) (m : ℕ) → IsShort covers cuts m s c → IsShort covers cuts m t c
  short_grows cuts m h = record {
    one = h.one;
    other = h.other;
    one_on = h.one_on;
    other_on = h.other_on;
    one_hit = footprint_grows c s t h.one larger h.one_hit;
    other_hit = footprint_grows c s t h.other larger h.other_hit;
    apart = h.apart;
  }

  pub block_grows : (cut : Cut) → IsViaBlock covers cut s c → IsViaBlock covers cut t c
  block_grows cut b = record {
    contact = b.contact;
    is_contact = b.is_contact;
    covered = λ h is same. footprint_grows c s t h larger (b.covered h is same);
  }

-- what a larger defect spares, a smaller one spares
pub open_grows : {Name : Type 0} (covered : Cell → Type 0) (Differ : Name → Name → Type 0) (terminal : Name → Half → Type 0) (s t : ℕ) (c : Cell) → s ≤ t → IsOpen covered Differ terminal s c
    → IsOpen covered Differ terminal t c
open_grows covered Differ terminal s t c larger o = record {
  one = o.one;
  other = o.other;
  different = o.different;
  tied = o.tied;
  parted = λ p q in_one in_other w. o.parted p q in_one in_other (within (λ h spared. (spared.0, λ hit. spared.1 (footprint_grows c s t h larger hit))) w);
}

module _ (covers : ℕ → Cell → Type 0) (cuts : List Cut) where
  -- what touches the same cells makes the same shorts
  pub short_from : (m s t : ℕ) (c : Cell) → ((d : Cell) → IsTouched c s d → IsTouched c t d) → IsShort covers cuts m s c → IsShort covers cuts m t c
  short_from m s t c f h =
      let a = h.one_on in
      let b = h.other_on in
      let p = f a.0 (h.one, a.1, h.one_hit) in
      let q = f b.0 (h.other, b.1, h.other_hit) in
      record {
        one = p.0;
        other = q.0;
        one_on = (a.0, p.1, a.2);
        other_on = (b.0, q.1, b.2);
        one_hit = p.2;
        other_hit = q.2;
        apart = λ w. h.apart (append (in_one_cell covers cuts m a.0 h.one p.0 a.2 a.1 p.1) (append w (in_one_cell covers cuts m b.0 q.0 h.other b.2 q.1 b.1)));
      }

  -- a short by the distances of cells
  pub short_near : (m r : ℕ) (c : Cell) → 1 ≤ r → IsShort covers cuts m (r + r) c ↔ IsNearTwoNets covers cuts m r c
  short_near m r c big =
      let near = touched (r + r) r (omega arith) (omega arith) (omega arith) c in (
        λ h. let a = h.one_on in let b = h.other_on in
            record {
              one = a.0;
              other = b.0;
              one_on = a.2;
              other_on = b.2;
              one_near = (near a.0).0 (h.one, a.1, h.one_hit);
              other_near = (near b.0).0 (h.other, b.1, h.other_hit);
              apart = λ p q in_p in_q w. h.apart (append (in_one_cell covers cuts m a.0 h.one p a.2 a.1 in_p) (append w (in_one_cell covers cuts m b.0 q h.other b.2 in_q b.1)));
            },
        λ n. let p = (near n.one).1 n.one_near in let q = (near n.other).1 n.other_near in
            record {
              one = p.0;
              other = q.0;
              one_on = (n.one, p.1, n.one_on);
              other_on = (n.other, q.1, n.other_on);
              one_hit = p.2;
              other_hit = q.2;
              apart = n.apart p.0 q.0 p.1 q.1;
            },
      )

  pub short_at : (s : ℕ) → 2 ≤ s → (m : ℕ) (c : Cell) → IsShort covers cuts m s c ↔ IsShort covers cuts m (s / 2 + s / 2) c
  short_at s h m c =
      let n = s / 2 in
      let one = touched s n (omega arith) (omega arith) (omega arith) c in
      let two = touched (n + n) n (omega arith) (omega arith) (omega arith) c in
      (short_from m s (n + n) c (λ d t. (two d).1 ((one d).0 t)), short_from m (n + n) s c (λ d t. (one d).1 ((two d).0 t)))

  pub none_at : (s m : ℕ) (c : Cell) → s ≡ 1 → IsShort covers cuts m s c → ⊥
  none_at s m c e h =
      let near = touched s 0 (omega arith) (omega arith) (omega arith) c in
      let a = h.one_on in
      let b = h.other_on in
      let p = (near a.0).0 (h.one, a.1, h.one_hit) in
      let q = (near b.0).0 (h.other, b.1, h.other_hit) in
      let same : b.0 ≡ a.0 = same_cell b.0 a.0 (omega (arith, ints)) (omega (arith, ints)) in
      h.apart (in_one_cell covers cuts m a.0 h.one h.other a.2 a.1 (subst (LiesIn h.other) same b.1))

module _ (covers : ℕ → Cell → Type 0) where
  -- a contact's cell has contacts of one cluster alone
  contacts_in_cell : (cut : Cut) (h g : Half) (d : Cell) → LiesIn h d → LiesIn g d → IsContact covers cut h → IsContact covers cut g × IsSameCluster covers cut h g
  contacts_in_cell cut h g d k l on =
      let a = cell_on h d k on.0 in
      let b = cell_on h d k on.1 in
      let c = cell_on h d k on.2 in
      (((d, l, a), (d, l, b), (d, l, c)), (in_cell d h g (λ x m. (d, m, b)) k l, in_cell d h g (λ x m. (d, m, c)) k l))

  -- what covers the same cells makes the same blocks
  pub block_from : (cut : Cut) (s t : ℕ) (c : Cell) → ((d : Cell) → IsSwallowed c s d → IsSwallowed c t d) → IsViaBlock covers cut s c → IsViaBlock covers cut t c
  block_from cut s t c f b = record {
    contact = b.contact;
    is_contact = b.is_contact;
    covered = λ h on same.
        let d = on.0 in
        f d.0 (λ g l. let e = contacts_in_cell cut h g d.0 d.1 l on in b.covered g e.0 (append same.0 e.1.0, append same.1 e.1.1)) h d.1;
  }

  -- a via block by the distances of cells
  pub block_near : (cut : Cut) (r : ℕ) (c : Cell) → 1 ≤ r → IsViaBlock covers cut (r + r) c ↔ IsNearCluster covers cut r c
  block_near cut r c big =
      let near = swallowed (r + r) (r - 1) (omega arith) (omega arith) c in (
        λ b. record {
          contact = b.contact;
          is_contact = b.is_contact;
          near = λ h d on low high lies. (near d).0 (λ g l. let e = contacts_in_cell cut h g d lies l on in b.covered g e.0 (append low e.1.0, append high e.1.1));
        },
        λ n. record {
          contact = n.contact;
          is_contact = n.is_contact;
          covered = λ h on same. let d = on.0 in (near d.0).1 (n.near h d.0 on same.0 same.1 d.1) h d.1;
        },
      )

  pub block_at : (s : ℕ) → 1 ≤ s → (cut : Cut) (c : Cell) → IsViaBlock covers cut s c ↔ IsViaBlock covers cut ((s + 1) / 2 + (s + 1) / 2) c
  block_at s h cut c =
      let n = (s - 1) / 2 in
      let t = (s + 1) / 2 in
      let one = swallowed s n (omega arith) (omega arith) c in
      let two = swallowed (t + t) n (omega arith) (omega arith) c in
      (block_from cut s (t + t) c (λ d k. (two d).1 ((one d).0 k)), block_from cut (t + t) s c (λ d k. (one d).1 ((two d).0 k)))
