use Rattle.std.proofs.Common.{◌∙◌, refl, sym}
use Rattle.command_line.specs.inside.Command.{positions_found, values_found}
use Rattle.command_line.proofs.OrderLaws.{value_told}
use Rattle.command_line.proofs.TaskLaws.{kind_cause, layer_name_cause, region_cause, regions_once, size_number_cause}
use Rattle.command_line.proofs.words.regions_given.Goals as goal

pub returns-in_default-three_parts-clause-cause : goal.returns-in_default-three_parts-clause-cause
returns-in_default-three_parts-clause-cause c =
    value_told (values_found c.args.matches.now) (positions_found c.args.matches.now) c.requires.form _ refl
    (region_cause (values_found c.args.matches.now) (positions_found c.args.matches.now)
    c.text_of.result c.in-Some.text c.text_of.ensures c.in-Some.is
    c.in_ok-text.text c.in_default-three_parts.ensures.none c.in_ok-text.ensures)

pub returns-in_default-kind_of-clause-cause : goal.returns-in_default-kind_of-clause-cause
returns-in_default-kind_of-clause-cause c =
    value_told (values_found c.args.matches.now) (positions_found c.args.matches.now) c.requires.form _ refl
    (kind_cause (values_found c.args.matches.now) (positions_found c.args.matches.now)
    c.text_of.result c.in-Some.text c.text_of.ensures c.in-Some.is
    c.in-Some-three_parts.word.now c.in-Some-three_parts.layer.now c.in-Some-three_parts.digits.now c.in-Some-three_parts.ensures.some
    c.in_ok-word.word c.in_default-kind_of.ensures.none c.in_ok-word.ensures)

pub returns-then-not-is_layer_name-clause-cause : goal.returns-then-not-is_layer_name-clause-cause
returns-then-not-is_layer_name-clause-cause c =
    value_told (values_found c.args.matches.now) (positions_found c.args.matches.now) c.requires.form _ refl
    (layer_name_cause (values_found c.args.matches.now) (positions_found c.args.matches.now)
    c.text_of.result c.in-Some.text c.text_of.ensures c.in-Some.is
    c.in-Some-three_parts.word.now c.in-Some-three_parts.layer.now c.in-Some-three_parts.digits.now c.in-Some-three_parts.ensures.some
    c.in-Some-kind_of.kind c.in-Some-kind_of.ensures.some c.in_ok-name.name
    (λ is. let s = sym (c.is_layer_name.ensures.1 is) ∙ c.if-not-is_layer_name.true in cc s) c.in_ok-name.ensures)

pub returns-in_default-number-clause-cause : goal.returns-in_default-number-clause-cause
returns-in_default-number-clause-cause c =
    value_told (values_found c.args.matches.now) (positions_found c.args.matches.now) c.requires.form _ refl
    (size_number_cause (values_found c.args.matches.now) (positions_found c.args.matches.now)
    c.text_of.result c.in-Some.text c.text_of.ensures c.in-Some.is
    c.in-Some-three_parts.word.now c.in-Some-three_parts.layer.now c.in-Some-three_parts.digits.now c.in-Some-three_parts.ensures.some
    c.in-Some-kind_of.kind c.in-Some-kind_of.ensures.some c.in_ok-digits.digits
    (c.is_layer_name.ensures.0 c.if-not-is_layer_name.false) c.in_default-number.ensures.none c.in_ok-digits.ensures)

pub returns-clause-regions : goal.returns-clause-regions
returns-clause-regions c =
    regions_once (values_found c.args.matches.now) (positions_found c.args.matches.now)
    c.text_of.result c.in-Some.text c.text_of.ensures c.in-Some.is
    c.in-Some-three_parts.word.now c.in-Some-three_parts.layer.now c.in-Some-three_parts.digits.now c.in-Some-three_parts.ensures.some
    c.in-Some-kind_of.kind c.in-Some-kind_of.ensures.some c.in_ok-name.name c.in-Some-number.size
    c.in_ok-name.ensures (c.is_layer_name.ensures.0 c.if-not-is_layer_name.false) c.in-Some-number.ensures.some
