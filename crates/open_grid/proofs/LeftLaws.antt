-- islands that are looked at one after the other
use Rattle.std.proofs.Common.{ℕ, zero, suc, arith, ◌<◌, ◌≡◌, refl, sym, ap, subst, List, [], ◌∷◌, ◌++◌, length, take, get_or, inl, inr, ◌⊎◌, Contains}
use Rattle.lists.proofs.Words.{Contains-append_left, Contains-push, Contains-push_cases}
use Rattle.lists.proofs.Containing.{Contains-head, Contains-tail}
use Rattle.lists.proofs.Pairing.{AllZip-push}
use Rattle.geo_core.specs.declared.plane.Cell.{Cell}
use Rattle.geo_core.specs.declared.plane.Rect.{Rect}
use Rattle.fault_model.specs.FaultNames.{IslandLists, IsInFootprint}
use Rattle.severing.specs.Severing.{IsSevered}
use Rattle.open_grid.specs.inside.ZoneNeeds.{StandsFor, StandForAll, SeversSome, AllSever}
use Rattle.open_grid.specs.inside.ZoneSteps.{IsToldOf, LeftStandsFor}
use Rattle.open_grid.specs.declared.looked.Looked.{Looked}
use Rattle.open_grid.specs.declared.looked.Told.TheVariants.{Never, Always, Open}

module _ (zone : Rect) (side : ℕ) where
  -- ---- the island at one place

  -- the island that stands beside what was looked at
  pub record IsBeside (islands : List IslandLists) (i : ℕ) (seen : Looked) : Type 0 where
    pub island : IslandLists
    pub among : Contains islands island
    pub stands : StandsFor zone side seen island
    pub more : take (suc i) islands ≡ take i islands ++ island ∷ []

  pub beside : (looked : List Looked) (islands : List IslandLists) (i : ℕ) (seen : Looked) → StandForAll zone side looked islands → i < length looked → seen ≡ get_or looked i seen
      → IsBeside islands i seen
  beside [] islands i seen h small is = absurd (omega arith)
  beside (first ∷ looked) [] i seen h small is = absurd h
  beside (first ∷ looked) (island ∷ islands) zero seen h small is = record {
    island = island;
    among = Contains-head island islands;
    stands = subst (λ s. StandsFor zone side s island) (sym is) h.0;
    more = refl;
  }
  beside (first ∷ looked) (island ∷ islands) (suc i) seen h small is =
      let rest = beside looked islands i seen h.1 (omega arith) is in record {
        island = rest.island;
        among = Contains-tail island islands rest.island rest.among;
        stands = rest.stands;
        more = ap (λ xs. island ∷ xs) rest.more;
      }

  pub as_many : (looked : List Looked) (islands : List IslandLists) → StandForAll zone side looked islands → length looked ≡ length islands
  as_many [] [] h = refl
  as_many [] (island ∷ islands) h = absurd h
  as_many (seen ∷ looked) [] h = absurd h
  as_many (seen ∷ looked) (island ∷ islands) h = ap (λ n. suc n) (as_many looked islands h.1)

  -- ---- one more island

  -- a defect parts an island of the list, or the one behind it
  some_cases : (islands : List IslandLists) (last : IslandLists) (c : Cell) → SeversSome (islands ++ last ∷ []) side c → SeversSome islands side c ⊎ IsSevered last (IsInFootprint c side)
  some_cases islands last c s = elim (Contains-push_cases islands last s.island s.among) [
    | inl among ↦ inl (record { island = s.island; among = among; severed = s.severed })
    | inr is ↦ inr (subst (λ i. IsSevered i (IsInFootprint c side)) (sym is) s.severed)
  ]

  some_before : (islands : List IslandLists) (last : IslandLists) (c : Cell) → SeversSome islands side c → SeversSome (islands ++ last ∷ []) side c
  some_before islands last c s = record { island = s.island; among = Contains-append_left islands (last ∷ []) s.island s.among; severed = s.severed }

  some_last : (islands : List IslandLists) (last : IslandLists) (c : Cell) → IsSevered last (IsInFootprint c side) → SeversSome (islands ++ last ∷ []) side c
  some_last islands last c s = record { island = last; among = Contains-push islands last; severed = s }

  pub left_none : LeftStandsFor zone side [] []
  left_none = record { others = []; among = λ island among. among; stand = tt; alike = λ c has. (λ s. s, λ s. s) }

  module _ (islands : List IslandLists) (left : List Looked) (so_far : LeftStandsFor zone side islands left) (last : IslandLists) where
    pub left_never : IsToldOf zone side last Never → LeftStandsFor zone side (islands ++ last ∷ []) left
    left_never never = record {
      others = so_far.others;
      among = λ island among. Contains-append_left islands (last ∷ []) island (so_far.among island among);
      stand = so_far.stand;
      alike = λ c has. (
        λ s. elim (some_cases islands last c s) [ inl t ↦ (so_far.alike c has).0 t | inr t ↦ absurd (never c has t) ],
        λ s. some_before islands last c ((so_far.alike c has).1 s),
      );
    }

    pub left_open : (closer : Looked) → IsToldOf zone side last (Open closer) → LeftStandsFor zone side (islands ++ last ∷ []) (left ++ closer ∷ [])
    left_open closer told = record {
      others = so_far.others ++ last ∷ [];
      among = λ island among. elim (Contains-push_cases so_far.others last island among) [
        | inl before ↦ Contains-append_left islands (last ∷ []) island (so_far.among island before)
        | inr is ↦ subst (Contains (islands ++ last ∷ [])) is (Contains-push islands last)
      ];
      stand = AllZip-push (StandsFor zone side) left so_far.others closer last so_far.stand told;
      alike = λ c has. (
        λ s. elim (some_cases islands last c s) [
          | inl t ↦ some_before so_far.others last c ((so_far.alike c has).0 t)
          | inr t ↦ some_last so_far.others last c t
        ],
        λ s. elim (some_cases so_far.others last c s) [
          | inl t ↦ some_before islands last c ((so_far.alike c has).1 t)
          | inr t ↦ some_last islands last c t
        ],
      );
    }

  -- ---- all of them

  pub all_severed : (islands : List IslandLists) (island : IslandLists) → Contains islands island → IsToldOf zone side island Always → AllSever islands side zone
  all_severed islands island among always c has = record { island = island; among = among; severed = always c has }
