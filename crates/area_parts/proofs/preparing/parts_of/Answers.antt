use Rattle.std.proofs.Common.{◌≡◌, ◌∙◌, map, length, List, arith, sym, subst, ap, All}
use Rattle.lists.proofs.Words.{length-map}
use Rattle.map_model.specs.MapNames.{layer_map_of}
use Rattle.questions.specs.Questions.{IsAskable}
use Rattle.questions.specs.declared.question.Question.{Question}
use Rattle.area_parts.specs.AreaParts.{by_net}
use Rattle.area_parts.specs.LayerParts.{AreAllBoxes, AreAllIslands}
use Rattle.area_parts.proofs.PartLaws.{parts_are}
use Rattle.area_parts.proofs.preparing.parts_of.Goals as goal

pub invariant_of-result : goal.invariant_of-result
invariant_of-result c =
    let asked = c.in_ok-questions.questions.items in
    let metals : length c.in_ok-metals.metals ≡ length c.args.map.now.metals = ap length c.in_ok-metals.ensures ∙ length-map c.args.nets.now.pieces (map by_net) ∙ c.requires.metals in
    let cuts : length c.in_ok-cuts.cuts ≡ length c.args.map.now.cuts = c.in_ok-cuts.ensures.one_each ∙ ap length c.as_slice-3.ensures in
    let by_metals = subst (λ n. All (IsAskable n (length c.args.map.now.cuts)) asked) (sym metals) c.in_ok-questions.ensures.askable in
    let by_both = subst (λ n. All (IsAskable (length c.in_ok-metals.metals) n) asked) (sym cuts) by_metals in
    record {
      askable = subst (λ (qs : List Question). All (IsAskable (length c.in_ok-metals.metals) (length c.in_ok-cuts.cuts)) qs) (sym c.from_vec.ensures) by_both;
      islands_each = c.in_ok-islands.ensures.one_each ∙ ap length c.as_slice-2.ensures ∙ sym metals;
      few = omega (arith, ap length c.from_vec.ensures, c.in_ok-questions.ensures.few);
    }

pub returns-clause-parts : goal.returns-clause-parts
returns-clause-parts c lists are =
    parts_are (layer_map_of c.args.map.now) lists c.args.nets.now _ are (c.from_vec.ensures ∙ c.in_ok-questions.ensures.questions) c.in_ok-metals.ensures
    (subst (λ n. AreAllIslands c.args.nets.now n c.in_ok-islands.islands) (ap length c.as_slice-2.ensures ∙ sym c.requires.metals) c.in_ok-islands.ensures)
    (subst (λ n. AreAllBoxes c.args.nets.now n c.in_ok-cuts.cuts) (ap length c.as_slice-3.ensures ∙ sym c.requires.cuts) c.in_ok-cuts.ensures)
