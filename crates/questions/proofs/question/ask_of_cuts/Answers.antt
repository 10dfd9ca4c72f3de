use Rattle.std.proofs.Common.{ℕ, ap, length, take_all, ◌∙◌, ◌++◌}
use Rattle.lists.proofs.Reading.{gained_more, flat_mapped_at}
use Rattle.map_model.specs.MapNames.{MappedLayer, layer_map_of}
use Rattle.questions.specs.Questions.{cut_layers, of_kind, of_sizes}
use Rattle.questions.specs.declared.kind.Kind.TheVariants.{Via}
use Rattle.questions.proofs.MapReading.{cut_at, past_cuts}
use Rattle.questions.proofs.question.ask_of_cuts.Goals as goal

pub loop-number-preserved : goal.loop-number-preserved
loop-number-preserved c =
    let given = c.args.map.now in
    let layer_map = layer_map_of given in
    let at = cut_at given _ c.as_slice-cut-items.ensures c.loop-number.number _ c.cut-item.result (ap length c.as_slice-metals.ensures) c.loop-number-test.true c.cut-item.is in
    gained_more _ _ _ _ _ _ c.loop-number.invariant c.in_ok-ask.ensures
    (flat_mapped_at (λ (numbered : ℕ × MappedLayer). of_sizes Via numbered.0 numbered.1.name layer_map.measure layer_map.sizes) (cut_layers layer_map) c.loop-number.number _ at)

pub returns : goal.returns
returns c =
    let given = c.args.map.now in
    let layer_map = layer_map_of given in
    c.loop-number.invariant ∙ ap (λ some. c.args.asked.now.items ++ of_kind Via some layer_map.measure layer_map.sizes)
    (take_all c.loop-number.number (cut_layers layer_map) (past_cuts given _ c.as_slice-cut-items.ensures c.loop-number.number c.loop-number-test.false))
