use Rattle.std.proofs.Common.{◌≡◌, ◌++◌, take}
use Rattle.map_model.specs.MapNames.{sizes_of}
use Rattle.questions.specs.Questions.{of_sizes}
use Rattle.questions.proofs.question.ask.Given as goal

abbrev pub invariant-loop-k : goal.invariant-loop-k
invariant-loop-k l = l.asked.items ≡ l.initial.asked.items ++ of_sizes l.kind l.number l.layer l.map.measure (take l.k (sizes_of l.map.sizes l.map.weights))
