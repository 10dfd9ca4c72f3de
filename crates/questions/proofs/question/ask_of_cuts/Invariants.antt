use Rattle.std.proofs.Common.{◌≡◌, ◌++◌, take}
use Rattle.map_model.specs.MapNames.{layer_map_of}
use Rattle.questions.specs.Questions.{of_kind, cut_layers}
use Rattle.questions.specs.declared.kind.Kind.TheVariants.{Via}
use Rattle.questions.proofs.question.ask_of_cuts.Given as goal

abbrev pub invariant-loop-number : goal.invariant-loop-number
invariant-loop-number l =
    let layer_map = layer_map_of l.map in
    l.asked.items ≡ l.initial.asked.items ++ of_kind Via (take l.number (cut_layers layer_map)) layer_map.measure layer_map.sizes
