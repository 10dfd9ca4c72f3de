-- rectangles of wanted cells
use Rattle.std.proofs.Common.{List, [], arith, Result, Ok, Err, Vec, IfOk, Contains, ◌↔◌}
use Rattle.lists.proofs.Words.{Global}
use Rattle.lists.specs.declared.memory.NoMemory.{NoMemory}
use Rattle.geo_core.specs.Plane.{Has, IsInUnion}
use Rattle.geo_core.specs.declared.plane.Cell.{Cell}
use Rattle.geo_core.specs.declared.plane.Rect.{Rect}
use Rattle.fault_model.specs.FaultNames.{cells_of}
use Rattle.fault_model.proofs.CellLaws.{Contains-cells_of}
use Rattle.fault_model.proofs.UnionLaws.{union_none}
use Rattle.skyline_runs.specs.Runs.{AreApart}
use Rattle.layout_regions.specs.inside.FoundRects.{AreWantedRects}

module _ (wanted : Cell → Type 0) where
  -- where no cell is wanted there is no rectangle
  pub none_wanted : (cells : List Cell) → ((c : Cell) → Contains cells c → wanted c → ⊥) → AreWantedRects wanted cells []
  none_wanted cells none = record {
    cells_are = λ c. (λ u. absurd (union_none c u), λ h. absurd (none c h.0 h.1));
    apart = λ i j d before within. absurd (omega arith);
  }

  -- rectangles that were found in a window, where what was looked for is what is wanted
  pub found_in : (window : Rect) (looked : Cell → Type 0) → ((c : Cell) → Has window c → looked c ↔ wanted c) → (result : Result (Vec Rect Global) NoMemory)
      → IfOk result (λ found. (c : Cell) → IsInUnion found.items c ↔ (looked c × Has window c)) → IfOk result (λ found. AreApart found.items)
      → IfOk result (λ found. AreWantedRects wanted (cells_of window) found.items)
  found_in window looked same (Ok found) cells apart = record {
    cells_are = λ c.
        let listed = Contains-cells_of window c in (
          λ u. let h = (cells c).0 u in (listed.1 h.1, (same c h.1).0 h.0),
          λ h. let has = listed.0 h.0 in (cells c).1 ((same c has).1 h.1, has),
        );
    apart = apart;
  }
  found_in window looked same (Err no_memory) cells apart = tt
