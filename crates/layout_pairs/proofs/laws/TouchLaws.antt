-- defects that touch two nets make shorts, and those that make shorts touch two nets
use Rattle.std.proofs.Common.{ℕ, ◌<◌, ◌≢◌, inl, inr, ◌⊎◌, arith, List, length, Contains}
use Rattle.lists.proofs.Words.{cases_lt, slice_get_within}
use Rattle.paths.proofs.PathLaws.{last}
use Rattle.geo_core.specs.declared.plane.Cell.{Cell}
use Rattle.fault_model.specs.FaultNames.{Cut, IsShort}
use Rattle.layout_nets.specs.NetNumbers.{AreNetStarts, IsOfNet}
use Rattle.layout_pairs.specs.PairAreas.{TouchesNets}
use Rattle.layout_pairs.proofs.laws.SearchLaws.{search_below}
use Rattle.layout_nets.proofs.laws.StartLaws.{none_lacks_number, same_net, same_number}

module _ (covers : ℕ → Cell → Type 0) (cuts : List Cut) (m side : ℕ) (starts : List Cell) (are : AreNetStarts covers cuts m starts) (c : Cell) where
  abbrev Touches : ℕ → ℕ → Type 0
  Touches one other = TouchesNets covers cuts m side starts one other c

  -- where a defect touches two nets with different numbers it makes a short
  pub touching_is_short : (one other : ℕ) → one ≢ other → Touches one other → IsShort covers cuts m side c
  touching_is_short one other different t = record {
    one = t.half_of_one;
    other = t.half_of_other;
    one_on = last t.of_one.same;
    other_on = last t.of_other.same;
    one_hit = t.one_hit;
    other_hit = t.other_hit;
    apart = λ w. different (same_number covers cuts m starts are one other t.half_of_one t.half_of_other t.of_one t.of_other w);
  }

  -- the defect touches two nets, which go by their numbers, the lesser one first
  pub record TouchesPair : Type 0 where
    pub one : ℕ
    pub other : ℕ
    pub lesser : one < other
    pub small : other < length starts
    pub touches : Touches one other

  -- the two half squares of a short are of such nets
  short_has_pair : (h : IsShort covers cuts m side c) (a b : ℕ) → IsOfNet covers cuts m starts a h.one → IsOfNet covers cuts m starts b h.other → TouchesPair
  short_has_pair h a b of_one of_other = elim (cases_lt a b) [
    | inl less ↦ record {
      one = a;
      other = b;
      lesser = less;
      small = slice_get_within starts b of_other.start of_other.at;
      touches = record { half_of_one = h.one; half_of_other = h.other; of_one = of_one; of_other = of_other; one_hit = h.one_hit; other_hit = h.other_hit };
    }
    | inr most ↦ elim (cases_lt b a) [
      | inl less ↦ record {
        one = b;
        other = a;
        lesser = less;
        small = slice_get_within starts a of_one.start of_one.at;
        touches = record { half_of_one = h.other; half_of_other = h.one; of_one = of_other; of_other = of_one; one_hit = h.other_hit; other_hit = h.one_hit };
      }
      | inr least ↦ absurd (h.apart (same_net covers cuts m starts are a b h.one h.other of_one of_other (omega arith)))
    ]
  ]

  module _ (decide : (one other : ℕ) → one < other → other < length starts → Touches one other ⊎ (Touches one other → ⊥)) where
    with_lesser : (other : ℕ) → other < length starts → ((one : ℕ) × (one < other) × Touches one other) ⊎ ((one : ℕ) × (one < other) × Touches one other → ⊥)
    with_lesser other small = elim (search_below (λ one. Touches one other) other (λ one less. decide one other less small)) [
      | inl found ↦ inl found
      | inr none ↦ inr (λ t. none t.0 t.1 t.2)
    ]

    pair_or_none : TouchesPair ⊎ (TouchesPair → ⊥)
    pair_or_none = elim (search_below (λ other. (one : ℕ) × (one < other) × Touches one other) (length starts) with_lesser) [
      | inl found ↦ let t = found.2 in inl (record { one = t.0; other = found.0; lesser = t.1; small = found.1; touches = t.2 })
      | inr none ↦ inr (λ t. none t.other t.small (t.one, t.lesser, t.touches))
    ]

    -- where it is decided for each two nets whether the defect touches both, a short has two that it touches
    pub short_touches : (cells : List Cell) → ((d : Cell) → covers m d → Contains cells d) → IsShort covers cuts m side c → TouchesPair
    short_touches cells listed h = elim pair_or_none [
      | inl t ↦ t
      | inr none ↦ absurd (none_lacks_number covers cuts m starts are cells listed h.one h.one_on
          (λ a of_one. none_lacks_number covers cuts m starts are cells listed h.other h.other_on
          (λ b of_other. none (short_has_pair h a b of_one of_other))))
    ]
