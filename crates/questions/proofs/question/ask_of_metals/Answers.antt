use Rattle.std.proofs.Common.{ℕ, ap, take_all, ◌∙◌, ◌++◌}
use Rattle.lists.proofs.Reading.{gained_more, flat_mapped_at}
use Rattle.map_model.specs.MapNames.{MappedLayer, layer_map_of}
use Rattle.questions.specs.Questions.{metal_layers, of_kind, of_sizes}
use Rattle.questions.proofs.MapReading.{metal_at, past_metals}
use Rattle.questions.proofs.question.ask_of_metals.Goals as goal

pub loop-number-preserved : goal.loop-number-preserved
loop-number-preserved c =
    let given = c.args.map.now in
    let layer_map = layer_map_of given in
    let at = metal_at given _ c.as_slice-metal-items.ensures c.loop-number.number c.metal-item.result c.loop-number-test.true c.metal-item.is in
    gained_more _ _ _ _ _ _ c.loop-number.invariant c.in_ok-ask.ensures
    (flat_mapped_at (λ (numbered : ℕ × MappedLayer). of_sizes c.args.kind numbered.0 numbered.1.name layer_map.measure layer_map.sizes) (metal_layers layer_map) c.loop-number.number _ at)

pub returns : goal.returns
returns c =
    let given = c.args.map.now in
    let layer_map = layer_map_of given in
    c.loop-number.invariant ∙ ap (λ some. c.args.asked.now.items ++ of_kind c.args.kind some layer_map.measure layer_map.sizes)
    (take_all c.loop-number.number (metal_layers layer_map) (past_metals given _ c.as_slice-metal-items.ensures c.loop-number.number c.loop-number-test.false))
