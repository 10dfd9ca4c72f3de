-- net walks: they lead back, keep to metals, and without cuts keep to one
use Rattle.std.proofs.Common.{ℕ, ◌<◌, ◌≡◌, refl, sym, subst, ◌∙◌, List, [], inl, inr, arith, ◌↔◌, Contains}
use Rattle.geo_core.specs.declared.plane.Cell.{Cell}
use Rattle.geo_core.specs.declared.plane.Half.{Half}
use Rattle.fault_model.specs.FaultNames.{LiesIn, IsOn, Walk, IsSameIsland, IsEquivalenceOn, Cut, Place, Joins, NetStep, along, through, IsOnMetal, NetWalk, IsContact, IsSameNetOn}
use Rattle.paths.specs.Paths.{stay, step}
use Rattle.fault_model.specs.Nets.{JoinMetals}
use Rattle.paths.proofs.PathLaws.{first, last, append, reverse}
use Rattle.fault_model.proofs.HalfLaws.{Neighbours-sym}
use Rattle.fault_model.proofs.LineLaws.{in_cell}
use Rattle.lists.proofs.Containing.{Contains-none}

end_below : (cut : Cut) (m n metals : ℕ) → (cut.lower < metals) × (cut.upper < metals) → Joins cut m n → n < metals
end_below cut m n metals b (inl j) = omega arith
end_below cut m n metals b (inr j) = omega arith

pub step_keeps : {covers : ℕ → Cell → Type 0} {cuts : List Cut} (metals : ℕ) → JoinMetals metals cuts → (p q : Place) → NetStep covers cuts p q → p.metal < metals → q.metal < metals
step_keeps metals all p q (along e n) b = omega arith
step_keeps metals all p q (through cut has joins e on) b = end_below cut p.metal q.metal metals (all cut has) joins

swapped : (cut : Cut) (m n : ℕ) → Joins cut m n → Joins cut n m
swapped cut m n (inl j) = inr j
swapped cut m n (inr j) = inl j

step_back : {covers : ℕ → Cell → Type 0} {cuts : List Cut} (p q : Place) → NetStep covers cuts p q → NetStep covers cuts q p
step_back p q (along e n) = along (sym e) (Neighbours-sym p.half q.half n)
step_back {covers} p q (through cut has joins e on) = through cut has (swapped cut p.metal q.metal joins) (sym e) (subst (IsOn (covers cut.number)) e on)

pub leads_back : {covers : ℕ → Cell → Type 0} {cuts : List Cut} (p q : Place) → NetWalk covers cuts p q → NetWalk covers cuts q p
leads_back p q w = reverse step_back w

pub keeps_to_metals : {covers : ℕ → Cell → Type 0} {cuts : List Cut} (metals : ℕ) → JoinMetals metals cuts → (p q : Place) → NetWalk covers cuts p q → p.metal < metals → q.metal < metals
keeps_to_metals metals all p q (stay h) b = b
keeps_to_metals metals all p q (step {b = m} h e w) b = keeps_to_metals metals all m q w (step_keeps metals all p m e b)

module _ (covers : ℕ → Cell → Type 0) (cuts : List Cut) where
  abbrev place : ℕ → Half → Place
  place m h = record { metal = m; half = h }

  -- a walk on a metal is a net walk
  pub on_metal : (m : ℕ) (p q : Half) → Walk (IsOn (covers m)) p q → IsSameNetOn covers cuts m p q
  on_metal m p q (stay h) = stay h
  on_metal m p q (step {b = b} h n w) = step h (along refl n) (on_metal m b q w)

  pub places_are_classes : IsEquivalenceOn (IsOnMetal covers) (NetWalk covers cuts)
  places_are_classes = record {
    reflexive = λ a on. stay on;
    symmetric = λ a b w. leads_back a b w;
    transitive = λ a b c. append;
    no_others = λ a b w. (first w, last w);
  }

  pub nets_of_metal : (m : ℕ) → IsEquivalenceOn (IsOn (covers m)) (IsSameNetOn covers cuts m)
  nets_of_metal m = record {
    reflexive = λ p on. stay on;
    symmetric = λ p q w. leads_back (place m p) (place m q) w;
    transitive = λ p q r. append;
    no_others = λ p q w. (first w, last w);
  }

  -- from the lower metal to the upper, at a contact
  pub at_contact : (cut : Cut) (h : Half) → Contains cuts cut → IsContact covers cut h → NetWalk covers cuts (place cut.lower h) (place cut.upper h)
  at_contact cut h has on = step on.1 (through cut has (inl (refl, refl)) refl on.0) (stay on.2)

  -- two half squares of a covered cell are of one net
  pub in_one_cell : (m : ℕ) (d : Cell) (p q : Half) → covers m d → LiesIn p d → LiesIn q d → IsSameNetOn covers cuts m p q
  in_one_cell m d p q s h k = on_metal m p q (in_cell d p q (λ x l. (d, l, s)) h k)

module _ (covers : ℕ → Cell → Type 0) where
  -- a step through a cut is at a contact
  at_cut : (cut : Cut) (p q : Place) → Joins cut p.metal q.metal → p.half ≡ q.half → IsOn (covers cut.number) p.half → IsOnMetal covers p → IsOnMetal covers q → IsContact covers cut p.half
  at_cut cut p q (inl j) e on on_p on_q = (on, subst (λ k. IsOn (covers k) p.half) (sym j.0) on_p, subst (λ k. IsOn (covers k) p.half) (sym j.1) (subst (IsOn (covers q.metal)) (sym e) on_q))
  at_cut cut p q (inr j) e on on_p on_q = (on, subst (λ k. IsOn (covers k) p.half) (sym j.0) (subst (IsOn (covers q.metal)) (sym e) on_q), subst (λ k. IsOn (covers k) p.half) (sym j.1) on_p)

  abbrev HaveNoContact : List Cut → Type 0
  HaveNoContact cuts = (cut : Cut) (h : Half) → Contains cuts cut → IsContact covers cut h → ⊥

  -- so without contacts a net walk keeps to its metal
  keeps_metal : (cuts : List Cut) → HaveNoContact cuts → (m : ℕ) (p q : Place) → p.metal ≡ m → NetWalk covers cuts p q → Walk (IsOn (covers m)) p.half q.half
  keeps_metal cuts never m p q e (stay h) = stay (subst (λ k. IsOn (covers k) p.half) e h)
  keeps_metal cuts never m p q e (step {b = b} h (along f n) w) = step (subst (λ k. IsOn (covers k) p.half) e h) n (keeps_metal cuts never m b q (sym f ∙ e) w)
  keeps_metal cuts never m p q e (step {b = b} h (through cut has joins f on) w) = absurd (never cut p.half has (at_cut cut p b joins f on h (first w)))

  pub net_without_contacts : (cuts : List Cut) (m : ℕ) (p q : Half) → HaveNoContact cuts → IsSameNetOn covers cuts m p q ↔ IsSameIsland (covers m) p q
  net_without_contacts cuts m p q never = (keeps_metal cuts never m (record { metal = m; half = p }) (record { metal = m; half = q }) refl, on_metal covers cuts m p q)

  no_cut : HaveNoContact []
  no_cut cut h has on = Contains-none has

  pub net_is_island : (m : ℕ) (p q : Half) → IsSameNetOn covers [] m p q ↔ IsSameIsland (covers m) p q
  net_is_island m p q = net_without_contacts [] m p q no_cut
