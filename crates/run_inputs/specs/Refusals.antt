-- refusals: each is its number and its place, and the status that the stage gives it
use Rattle.std.specs.Prelude.{ℕ, List, [], ◌∷◌, codes}
use Rattle.lists.specs.Words.{decimal, concat}
use Rattle.layer_map.specs.MapFaults as map_faults
use Rattle.layer_map.specs.declared.fault.MapFault.{MapFault}
use Rattle.net_extract.specs.NetFaults as net_faults
use Rattle.net_extract.specs.declared.fault.NetFault.{NetFault}
use Rattle.flatten.specs.PlaceFaults as place_faults
use Rattle.flatten.specs.declared.fault.PlaceFault.{PlaceFault}
use Rattle.rect_cover.specs.CoverFaults as cover_faults
use Rattle.rect_cover.specs.declared.fault.CoverFault.{CoverFault}
use Rattle.gds_syntax.specs.StreamLimits.{most_bytes}
use Rattle.library_grammar.specs.SyntaxFaults as syntax_faults
use Rattle.library_grammar.specs.declared.fault.SyntaxFault.{SyntaxFault}
use Rattle.run_inputs.specs.declared.layout_fault.LayoutFault.{LayoutFault}
use Rattle.run_inputs.specs.declared.layout_fault.LayoutFault.TheVariants.{Syntax, Place, Cover, Net, Memory}
use Rattle.run_inputs.specs.declared.refusal.Refusal.{Refusal}

-- a refusal of the words
abbrev pub of_words : ℕ → ℕ → Refusal
of_words number place = record { status = 2; number = number; place = place }

-- a refusal of the map
abbrev pub of_map : ℕ → ℕ → Refusal
of_map number place = record { status = 3; number = number; place = place }

-- a refusal of the layout
abbrev pub of_layout : ℕ → ℕ → Refusal
of_layout number place = record { status = 4; number = number; place = place }

-- the words fit no form of the command
abbrev pub usage : Refusal
usage = of_words 2 0

-- the most bytes that a map may have
abbrev pub map_limit : ℕ
map_limit = 1048576

-- the map has more
abbrev pub map_too_long : Refusal
map_too_long = of_map 39 map_limit

-- the map has a fault
abbrev pub of_map_fault : MapFault → Refusal
of_map_fault fault = of_map (map_faults.number_of fault) (map_faults.place_of fault)

-- the map lists no more sizes than this, and the task names one behind them
abbrev pub no_such_size : ℕ → Refusal
no_such_size sizes = of_map 48 sizes

-- the task names a metal that the map has not, or for via blocks a cut
abbrev pub no_such_layer : Refusal
no_such_layer = of_map 49 0

-- the most bytes that a layout may have
abbrev pub layout_limit : ℕ
layout_limit = most_bytes

-- the layout has more
abbrev pub layout_too_long : Refusal
layout_too_long = of_layout 9 layout_limit

-- its bytes are no library
abbrev pub of_syntax_fault : SyntaxFault → Refusal
of_syntax_fault fault = of_layout (syntax_faults.number_of fault) (syntax_faults.place_of fault)

-- the shapes of its library are not placed
abbrev pub of_place_fault : PlaceFault → Refusal
of_place_fault fault = of_layout (place_faults.number_of fault) (place_faults.place_of fault)

-- one of its placed shapes is not cut into rectangles
abbrev pub of_cover_fault : CoverFault → Refusal
of_cover_fault fault = of_layout (cover_faults.number_of fault) (cover_faults.place_of fault)

-- one of the map's terminals is not on its metal
abbrev pub of_net_fault : NetFault → Refusal
of_net_fault fault = of_layout (net_faults.number_of fault) (net_faults.place_of fault)

-- the layout has a fault
abbrev pub of_layout_fault : LayoutFault → Refusal
of_layout_fault (Syntax fault) = of_syntax_fault fault
of_layout_fault (Place fault) = of_place_fault fault
of_layout_fault (Cover fault) = of_cover_fault fault
of_layout_fault (Net fault) = of_net_fault fault
of_layout_fault Memory = of_layout 0 0

-- the line that is printed for a refusal
abbrev pub refusal_text : Refusal → List ℕ
refusal_text refusal = concat (codes "error " ∷ decimal refusal.number ∷ codes " at " ∷ decimal refusal.place ∷ codes "\n" ∷ [])
