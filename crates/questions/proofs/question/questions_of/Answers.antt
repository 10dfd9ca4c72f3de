use Rattle.std.proofs.Common.{List, length, arith, ap, sym, subst, All}
use Rattle.lists.proofs.Words.{zip, length-map, length-zip}
use Rattle.map_model.specs.MapNames.{weighed_size, metal_layer, mapped_cut, layer_map_of}
use Rattle.questions.specs.Questions.{IsAskable, questions}
use Rattle.questions.specs.declared.question.Question.{Question}
use Rattle.questions.proofs.Asking.{asked_in_order, askable, askable_sizes, few_questions}
use Rattle.questions.proofs.question.questions_of.Goals as goal

pub returns-clause-questions : goal.returns-clause-questions
returns-clause-questions c = asked_in_order (layer_map_of c.args.map.now) _ _ _ _ c.new-asked.ensures.items c.in_ok-ask_of_metals.ensures c.in_ok-ask_of_metals-2.ensures c.in_ok-ask_of_cuts.ensures

pub returns-clause-askable : goal.returns-clause-askable
returns-clause-askable c =
    let given = c.args.map.now in
    let metals = length-map given.metals metal_layer in
    let cuts = length-map given.cuts mapped_cut in
    let each = askable (layer_map_of given) (askable_sizes given.measure given.sizes given.weights given.are_sizes.each given.are_weights.each) in
    let by_metals = subst (λ n. All (IsAskable n (length (layer_map_of given).cuts)) (questions (layer_map_of given))) metals each in
    let by_both = subst (λ n. All (IsAskable (length given.metals) n) (questions (layer_map_of given))) cuts by_metals in
    subst (λ (qs : List Question). All (IsAskable (length given.metals) (length given.cuts)) qs) (sym (returns-clause-questions c)) by_both

pub returns-clause-few : goal.returns-clause-few
returns-clause-few c =
    let given = c.args.map.now in
    let few = few_questions (layer_map_of given) (omega (arith, length-map given.metals metal_layer)) (omega (arith, length-map given.cuts mapped_cut))
    (omega (arith, length-map (zip given.sizes given.weights) weighed_size, length-zip given.sizes given.weights)) in
    omega (arith, few, ap length (returns-clause-questions c))
