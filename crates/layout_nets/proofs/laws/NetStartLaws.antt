-- numbers of nets: half squares of one net have one number
use Rattle.std.proofs.Common.{ℕ, ◌<◌, ◌≡◌, List, length}
use Rattle.lists.proofs.Containing.{Contains-slice_get}
use Rattle.lists.proofs.Words.{slice_get_within}
use Rattle.paths.proofs.PathLaws.{append}
use Rattle.geo_core.specs.declared.plane.Cell.{Cell}
use Rattle.geo_core.specs.declared.plane.Half.{Half}
use Rattle.fault_model.specs.FaultNames.{Cut, IsSameNetOn}
use Rattle.fault_model.proofs.NetLaws.{leads_back}
use Rattle.net_numbers.specs.FirstCells.{Precedes}
use Rattle.net_numbers.proofs.ListLaws.{one_place}
use Rattle.layout_nets.specs.NetNumbers.{AreNetStarts, AreOfOneNet, IsNetStart, IsOfNet}

module _ (covers : ℕ → Cell → Type 0) (cuts : List Cut) (m : ℕ) where
  back : (p q : Half) → IsSameNetOn covers cuts m p q → IsSameNetOn covers cuts m q p
  back p q net = leads_back (record { metal = m; half = p }) (record { metal = m; half = q }) net

  module _ (starts : List Cell) (are : AreNetStarts covers cuts m starts) where
    is_start : (number : ℕ) (h : Half) → (of : IsOfNet covers cuts m starts number h) → IsNetStart covers cuts m of.start
    is_start number h of = (are.all of.start).0 (Contains-slice_get starts number of.start of.at)

    starts_of_one_net : (a b : ℕ) (p q : Half) → (one : IsOfNet covers cuts m starts a p) → (other : IsOfNet covers cuts m starts b q) → IsSameNetOn covers cuts m p q
        → AreOfOneNet covers cuts m one.start other.start
    starts_of_one_net a b p q one other net = record {
      one = one.corner;
      other = other.corner;
      in_one = one.in_start;
      in_other = other.in_start;
      same = append one.same (append net (back other.corner q other.same));
    }

    -- two half squares of one net have one number
    pub one_number : (a b : ℕ) (p q : Half) → IsOfNet covers cuts m starts a p → IsOfNet covers cuts m starts b q → IsSameNetOn covers cuts m p q → a ≡ b
    one_number a b p q one other net =
        one_place Precedes starts are.rising a b one.start other.start one.at other.at
        (λ before. (is_start b q other).first one.start (starts_of_one_net b a q p other one (back p q net)) before)
        (λ before. (is_start a p one).first other.start (starts_of_one_net a b p q one other net) before)

  -- each number is below that of all nets
  pub number_below : (starts : List Cell) (number : ℕ) (h : Half) → IsOfNet covers cuts m starts number h → number < length starts
  number_below starts number h of = slice_get_within starts number of.start of.at
