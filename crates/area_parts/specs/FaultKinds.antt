-- what a fault is, by its kind, and the numbers of the layers that may have it
use Rattle.std.specs.Prelude.{ℕ, ◌+◌, ◌<◌, ◌≤◌, ◌≡◌, ◌≢◌, Contains}
use Rattle.geo_core.specs.declared.plane.Cell.{Cell}
use Rattle.fault_model.specs.FaultNames.{Cut, IsShort, IsViaBlock, IsViasOpen}
use Rattle.map_model.specs.MapNames.{LayerMap}
use Rattle.net_extract.specs.Cuts.{cuts_of, terminal_cuts_of}
use Rattle.questions.specs.declared.kind.Kind.{Kind}
use Rattle.questions.specs.declared.kind.Kind.TheVariants.{Short, Open, Via}

-- a defect of this side at the cell makes this fault on the metal or at the cut with this number, where each metal and
-- each cut covers what `covers` says
abbrev pub IsFault : LayerMap → (ℕ → Cell → Type 0) → Kind → ℕ → ℕ → Cell → Type 0
IsFault layer_map covers Short number side c = IsShort covers (cuts_of layer_map) number side c
IsFault layer_map covers Open number side c = IsViasOpen covers (terminal_cuts_of layer_map) (λ d. Contains layer_map.terminals (number, d))
    number side c
IsFault layer_map covers Via number side c = (cut : Cut) × Contains (cuts_of layer_map) cut × (cut.number ≡ number)
    × IsViaBlock covers cut side c

-- the number is one that a question of this kind may name, of so many metals and cuts: that of a metal, or for via blocks that of a
-- cut, which goes on behind those of the metals
pub record IsNumberFor (kind : Kind) (metals cuts number : ℕ) : Type 0 where
  pub of_metal : kind ≢ Via → number < metals
  pub behind_metals : kind ≡ Via → metals ≤ number
  pub of_cut : kind ≡ Via → number < metals + cuts
