-- the distance to the second net tells which defects make a short
use Rattle.std.proofs.Common.{ℕ, zero, suc, ◌+◌, ◌<◌, ◌≤◌, ◌≡◌, ◌≢◌, refl, sym, ap, subst, ◌∙◌, arith, inl, inr, Option, Some, None, List, ℤ, pos, ◌↔◌}
use Rattle.lists.proofs.Words.{cases_lt, ints, same_Some}
use Rattle.lists.proofs.Comparing.{equal_or_not}
use Rattle.paths.proofs.PathLaws.{append, last}
use Rattle.geo_core.specs.Intervals.{IsWithin}
use Rattle.geo_core.specs.Plane.{IsNear}
use Rattle.geo_core.specs.declared.plane.Cell.{Cell}
use Rattle.geo_core.specs.declared.plane.Half.{Half}
use Rattle.geo_core.proofs.RectLaws.{same_cell}
use Rattle.fault_model.specs.FaultNames.{Cut, IsInFootprint, IsShort, LiesIn}
use Rattle.fault_model.proofs.HalfLaws.{cell_on, some_cell}
use Rattle.fault_model.proofs.NetLaws.{in_one_cell}
use Rattle.fault_model.proofs.SizeLaws.{reached, touched}
use Rattle.near_index.specs.Nearest.{IsNoLater, found_label}
use Rattle.near_index.specs.declared.nearest.Near.{Near}
use Rattle.near_index.specs.declared.nearest.Nearest.{Nearest}
use Rattle.layout_nets.specs.NetNumbers.{AreNetStarts, IsOfNet}
use Rattle.layout_nets.proofs.laws.StartLaws.{same_net, same_number}
use Rattle.layout_probe.specs.NearestNets.{AreNearestNets, HasNetWithin, IsNearestNet, IsNearestOfNets, IsNetDistance}

wider : (a b : ℤ) (by more : ℕ) → by ≤ more → IsWithin a b (pos by) → IsWithin a b (pos more)
wider a b by more small h = let p = h.0 in let q = h.1 in (omega (arith, ints), omega (arith, ints))

-- what is 0 apart is one
at_itself : (c d : Cell) → IsNear c d (pos 0) → d ≡ c
at_itself c d near = let x = near.0 in let y = near.1 in same_cell d c (omega (arith, ints)) (omega (arith, ints))

nearer_is_later : (near : Near) (distance number : ℕ) → distance < near.distance → IsNoLater near distance number → ⊥
nearer_is_later near distance number less (inl l) = omega arith
nearer_is_later near distance number less (inr e) = let same = e.0 in omega arith

later_is_as_far : (near : Near) (distance number : ℕ) → IsNoLater near distance number → near.distance ≤ distance
later_is_as_far near distance number (inl l) = omega arith
later_is_as_far near distance number (inr e) = let same = e.0 in omega arith

none_is_not : (n : ℕ) → None ≢ Some n
none_is_not n e = cc

module _ (covers : ℕ → Cell → Type 0) (cuts : List Cut) (m : ℕ) (starts : List Cell) (c : Cell) where
  abbrev Within : ℕ → ℕ → Type 0
  Within = HasNetWithin covers cuts m starts c

  within_more : (by more number : ℕ) → by ≤ more → Within by number → Within more number
  within_more by more number small has = record {
    cell = has.cell;
    of_net = has.of_net;
    near = (wider c.i has.cell.i by more small has.near.0, wider c.j has.cell.j by more small has.near.1);
  }

  -- a net that has no distance below a bound comes no nearer than that
  no_nearer : (number bound : ℕ) → ((d : ℕ) → d < bound → IsNetDistance covers cuts m starts c d number → ⊥) → (by : ℕ) → by < bound → Within by number → ⊥
  no_nearer number zero none by less has = omega arith
  no_nearer number (suc b) none by less has =
      let below : (less : ℕ) → less < b → Within less number → ⊥ = no_nearer number b (λ d l. none d (omega arith)) in
      elim (cases_lt by b) [
        | inl before ↦ below by before has
        | inr most ↦ none b (omega arith) (record { reached = within_more by b number (omega arith) has; least = below })
      ]

  -- where a net that is not left out comes within so far, there is a nearest one, which is no further away
  nearest_within : (except : Option ℕ) (number : ℕ) → except ≢ Some number → (near : Option Near) → IsNearestOfNets covers cuts m starts c except near → (by : ℕ) → Within by number
      → (found : Near) × (near ≡ Some found) × (found.distance ≤ by)
  nearest_within except number other None none by has = absurd (none number has.of_net.half other has.of_net.of_net)
  nearest_within except number other (Some near) is by has = (
    near,
    refl,
    elim (cases_lt by near.distance) [
      | inl less ↦ absurd (no_nearer number near.distance (λ d l at. nearer_is_later near d number l (is.first d number other at)) by less has)
      | inr most ↦ most
    ],
  )

  module _ (are : AreNetStarts covers cuts m starts) where
    -- a half square that lies in one cell with one of a net is of the net
    of_cell : (number : ℕ) (d : Cell) (h g : Half) → LiesIn h d → LiesIn g d → IsOfNet covers cuts m starts number h → IsOfNet covers cuts m starts number g
    of_cell number d h g in_h in_g of = record {
      start = of.start;
      at = of.at;
      corner = of.corner;
      in_start = of.in_start;
      same = append of.same (in_one_cell covers cuts m d h g (cell_on h d in_h (last of.same)) in_h in_g);
    }

    -- no cell is of two nets
    never_at_itself : (a b : ℕ) → a ≢ b → Within 0 a → Within 0 b → ⊥
    never_at_itself a b different one other =
        let p = one.of_net in
        let q = other.of_net in
        let in_p : LiesIn p.half c = subst (LiesIn p.half) (at_itself c one.cell one.near) p.lies in
        let in_q : LiesIn q.half c = subst (LiesIn q.half) (at_itself c other.cell other.near) q.lies in
        let covered : covers m c = cell_on p.half c in_p (last p.of_net.same) in
        different (same_number covers cuts m starts are a b p.half q.half p.of_net q.of_net (in_one_cell covers cuts m c p.half q.half covered in_p in_q))

    -- a half square of the net that the defect has
    abbrev HitsNet : ℕ → ℕ → Type 0
    HitsNet r number = (h : Half) × IsOfNet covers cuts m starts number h × IsInFootprint c (r + r) h

    hits_net : (r number : ℕ) → 1 ≤ r → Within r number → HitsNet r number
    hits_net r number some has =
        let hit = (touched (r + r) r (omega arith) (omega arith) (omega arith) c has.cell).1 has.near in
        (hit.0, of_cell number has.cell has.of_net.half hit.0 has.of_net.lies hit.1 has.of_net.of_net, hit.2)

    short_of_two : (r a b : ℕ) → a ≢ b → Within r a → Within r b → IsShort covers cuts m (r + r) c
    short_of_two r a b different one other = elim (cases_lt r 1) [
      | inl less ↦ absurd (never_at_itself a b different (within_more r 0 a (omega arith) one) (within_more r 0 b (omega arith) other))
      | inr some ↦
          let p = hits_net r a some one in
          let q = hits_net r b some other in
          record {
            one = p.0;
            other = q.0;
            one_on = last p.1.same;
            other_on = last q.1.same;
            one_hit = p.2;
            other_hit = q.2;
            apart = λ net. different (same_number covers cuts m starts are a b p.0 q.0 p.1 q.1 net);
          }
    ]

    -- the second net is another one than the first, which is no further away
    short_of_second : (r : ℕ) (first second : Option Near) → IsNearestOfNets covers cuts m starts c None first → IsNearestOfNets covers cuts m starts c (found_label first) second
        → (near : Near) → second ≡ Some near → near.distance ≤ r → IsShort covers cuts m (r + r) c
    short_of_second r None second none is near e small =
        let at : IsNearestNet covers cuts m starts c None near = subst (IsNearestOfNets covers cuts m starts c None) e is in
        let of = at.distance.reached.of_net in
        absurd (none near.label of.half (none_is_not near.label) of.of_net)
    short_of_second r (Some first) second nearest is near e small =
        let at : IsNearestNet covers cuts m starts c (Some first.label) near = subst (IsNearestOfNets covers cuts m starts c (Some first.label)) e is in
        let closer = later_is_as_far first near.distance near.label (nearest.first near.distance near.label (none_is_not near.label) at.distance) in
        short_of_two r first.label near.label (λ same. at.other (ap Some same)) (within_more first.distance r first.label (omega arith) nearest.distance.reached)
        (within_more near.distance r near.label small at.distance.reached)

    -- the cell of a half square that the defect has is near
    hit_within : (r number : ℕ) (h : Half) → IsOfNet covers cuts m starts number h → IsInFootprint c (r + r) h → Within r number
    hit_within r number h of hit =
        let d = some_cell h in
        record {
          cell = d.0;
          of_net = record { half = h; lies = d.1; of_net = of };
          near = (reached c.i d.0.i h.u (r + r) r (omega arith) d.1.0 hit.0, reached c.j d.0.j h.v (r + r) r (omega arith) d.1.1 hit.1);
        }

    abbrev IsSecondWithin : Option Near → ℕ → Type 0
    IsSecondWithin second r = (near : Near) × (second ≡ Some near) × (near.distance ≤ r)

    -- of two nets one is not the first
    second_of_two : (r a b : ℕ) → a ≢ b → Within r a → Within r b → (first second : Option Near) → IsNearestOfNets covers cuts m starts c None first
        → IsNearestOfNets covers cuts m starts c (found_label first) second → IsSecondWithin second r
    second_of_two r a b different one other None second none is = absurd (none a one.of_net.half (none_is_not a) one.of_net.of_net)
    second_of_two r a b different one other (Some first) second nearest is = elim (equal_or_not first.label a) [
      | inl e ↦ nearest_within (Some first.label) b (λ f. different (sym e ∙ same_Some first.label b f)) second is r other
      | inr apart ↦ nearest_within (Some first.label) a (λ f. apart (same_Some first.label a f)) second is r one
    ]

pub second_tells : (covers : ℕ → Cell → Type 0) (cuts : List Cut) (m r : ℕ) (c : Cell) (nearest : Nearest) → AreNearestNets covers cuts m c nearest
    → IsShort covers cuts m (r + r) c ↔ ((near : Near) × (nearest.second ≡ Some near) × (near.distance ≤ r))
second_tells covers cuts m r c nearest are = (
  λ short.
      let one = are.all_numbered short.one short.one_on in
      let other = are.all_numbered short.other short.other_on in
      second_of_two covers cuts m are.starts c are.are_starts r one.0 other.0 (λ e. short.apart (same_net covers cuts m are.starts are.are_starts one.0 other.0 short.one short.other one.1 other.1 e))
      (hit_within covers cuts m are.starts c are.are_starts r one.0 short.one one.1 short.one_hit) (hit_within covers cuts m are.starts c are.are_starts r other.0 short.other other.1 short.other_hit)
      nearest.first nearest.second are.first are.second,
  λ second. short_of_second covers cuts m are.starts c are.are_starts r nearest.first nearest.second are.first are.second second.0 second.1 second.2,
)
