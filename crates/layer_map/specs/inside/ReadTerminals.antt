-- what is read of terminals
use Rattle.std.specs.Prelude.{ℕ, ℤ, Bool, MatchBool, ◌≡◌, ◌≤◌, ◌<◌, List, [], ◌∷◌, ◌++◌, length, map, All, Contains}
use Rattle.lists.specs.Words.{AllZip}
use Rattle.toml.specs.Data.{Data, Members}
use Rattle.layer_map.specs.Documents.{GivesTerminal}
use Rattle.map_model.specs.MapNames.{metal_layer, terminal_of}
use Rattle.lists.specs.Differing.{AreDifferent}
use Rattle.layer_map.specs.Values.{terminals_in}
use Rattle.map_model.specs.declared.limits.TheConstants.{MOST_TERMINALS}
use Rattle.map_model.specs.declared.layers.Metal.{Metal}
use Rattle.map_model.specs.declared.layers.Terminal.{Terminal}

-- a terminal as the numbers by which it is looked up
abbrev pub place_of_terminal : Terminal → ℕ × ℤ × ℤ
place_of_terminal terminal = (terminal.metal, terminal.cell.i, terminal.cell.j)

-- the place is a new one, and was added; or it is one of the old ones
abbrev pub AddsPlace : Bool → List (ℕ × ℤ × ℤ) → List (ℕ × ℤ × ℤ) → ℕ × ℤ × ℤ → Type 0
AddsPlace is_new old new place = MatchBool is_new ((new ≡ old ++ place ∷ []) × (Contains old place → ⊥)) (Contains old place)

-- the item gives this terminal of one of the metals
abbrev pub TakesTerminal : List Metal → Data → Terminal → Type 0
TakesTerminal metals item terminal = GivesTerminal (map metal_layer metals) item (terminal_of terminal)

-- these terminals are those of the document, whose metals are these
pub record TakesTerminals (document : Members) (metals : List Metal) (terminals : List Terminal) : Type 0 where
  pub few : length terminals ≤ MOST_TERMINALS
  pub gives_them : AllZip (GivesTerminal (map metal_layer metals)) (terminals_in document) (map terminal_of terminals)
  pub differ : AreDifferent terminals
  pub on_metals : All (λ terminal. terminal.metal < length metals) terminals
