use Rattle.std.proofs.Common.{◌≡◌, ◌++◌, take}
use Rattle.map_model.specs.MapNames.{layer_map_of}
use Rattle.questions.specs.Questions.{of_kind, metal_layers}
use Rattle.questions.proofs.question.ask_of_metals.Given as goal

abbrev pub invariant-loop-number : goal.invariant-loop-number
invariant-loop-number l =
    let layer_map = layer_map_of l.map in
    l.asked.items ≡ l.initial.asked.items ++ of_kind l.kind (take l.number (metal_layers layer_map)) layer_map.measure layer_map.sizes
