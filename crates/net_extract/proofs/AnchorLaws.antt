-- terminals as anchors, one after the other
use Rattle.std.proofs.Common.{ℕ, ◌+◌, ◌≡◌, refl, sym, ap, ◌∙◌, subst, List, ◌∷◌, ◌++◌, take, drop, map, arith, All, Some, slice_get}
use Rattle.lists.proofs.Words.{enumerate_from, take-append-drop, drop_more, All-more, slice_get_within, get_or_from_slice_get}
use Rattle.first_refusal.specs.Checks.{IsRefusalOfFirst}
use Rattle.geo_core.specs.declared.plane.Cell.{Cell}
use Rattle.geo_core.specs.declared.plane.Labelled.{Labelled}
use Rattle.map_model.specs.MapNames.{terminal_of}
use Rattle.map_model.specs.declared.layers.Terminal.{Terminal}
use Rattle.net_extract.specs.inside.Anchoring.{IsOnIsland}
use Rattle.net_extract.specs.Extraction.{off_metal}
use Rattle.net_extract.specs.declared.fault.NetFault.TheVariants.{TerminalOffMetal}
use Rattle.lists.proofs.Numbering.{slice_get-enumerate}
use Rattle.net_extract.proofs.IslandLaws.{got_mapped}

module _ (islands : List (List Labelled)) (terminals : List Terminal) (k : ℕ) (terminal : Terminal) (at : slice_get terminals k ≡ Some terminal) where
  abbrev numbered : List (ℕ × (ℕ × Cell))
  numbered = enumerate_from 0 (map terminal_of terminals)

  abbrev this : ℕ × (ℕ × Cell)
  this = (k, terminal_of terminal)

  listed : slice_get numbered k ≡ Some this
  listed = let same : 0 + k ≡ k = omega arith in slice_get-enumerate 0 (map terminal_of terminals) k (terminal_of terminal) (got_mapped terminal_of terminals k terminal at)
      ∙ ap (λ i. Some (i, terminal_of terminal)) same

  -- all terminals so far stand on islands, and so does this one
  pub one_checked : All (IsOnIsland islands) (take k numbered) → IsOnIsland islands this → All (IsOnIsland islands) (take (k + 1) numbered)
  one_checked before here = All-more (IsOnIsland islands) numbered k this (slice_get_within numbered k this listed) before
      (subst (IsOnIsland islands) (sym (get_or_from_slice_get numbered k this this listed)) here)

  -- or this one is the first that does not
  pub first_off : All (IsOnIsland islands) (take k numbered) → (IsOnIsland islands this → ⊥) → IsRefusalOfFirst (IsOnIsland islands) numbered off_metal (TerminalOffMetal k)
  first_off before fails = record {
    check = this;
    is_first = record {
      before = take k numbered;
      after = drop (k + 1) numbered;
      parts = sym (take-append-drop k numbered) ∙ ap (λ xs. take k numbered ++ xs) (drop_more numbered k this (slice_get_within numbered k this listed)
          ∙ ap (λ x. x ∷ drop (k + 1) numbered) (get_or_from_slice_get numbered k this this listed));
      all_before = before;
      fails = fails;
    };
    is_its_refusal = refl;
  }
