use Rattle.command_line.specs.inside.Arguments.{given_by}
use Rattle.command_line.proofs.CheckLaws.{few_named, two_named}
use Rattle.command_line.proofs.OrderLaws.{empty_layout_told, empty_value_told, twice_told, two_layouts_told}
use Rattle.command_line.proofs.arguments.Arguments.check.Goals as goal

pub returns-in-Some-clause-cause : goal.returns-in-Some-clause-cause
returns-in-Some-clause-cause c = empty_value_told (given_by c.args.self.now) _ c.in-Some.ensures.some

pub returns-then-has_empty_position-clause-cause : goal.returns-then-has_empty_position-clause-cause
returns-then-has_empty_position-clause-cause c =
    empty_layout_told (given_by c.args.self.now) c.in_default.ensures.none (rw c.if-has_empty_position.true at c.has_empty_position.ensures)

pub returns-in-Some-repeated_option-clause-cause : goal.returns-in-Some-repeated_option-clause-cause
returns-in-Some-repeated_option-clause-cause c =
    twice_told (given_by c.args.self.now)
    (record { values = c.in_default.ensures.none; positions = rw c.if-has_empty_position.false at c.has_empty_position.ensures })
    _ c.in-Some-repeated_option.ensures.some

pub returns-clause-texts : goal.returns-clause-texts
returns-clause-texts c = record {
  values = c.in_default.ensures.none;
  positions = rw c.if-has_empty_position.false at c.has_empty_position.ensures;
}

pub returns-in-len2-up-clause-cause : goal.returns-in-len2-up-clause-cause
returns-in-len2-up-clause-cause c =
    let two = two_named c.as_slice.result.now c.args.self.now.positions.items _ _ c.in_ok-one.one c.in_ok-other.other c.as_slice.ensures.value c.in-len2-up.len_at_least
    c.in_ok-one.ensures c.in_ok-other.ensures in
    two_layouts_told (given_by c.args.self.now)
    (record { values = c.in_default.ensures.none; positions = rw c.if-has_empty_position.false at c.has_empty_position.ensures })
    c.in_default-repeated_option.ensures.none _ _ two.0 two.1

pub returns-clause-single : goal.returns-clause-single
returns-clause-single c = record {
  options = c.in_default-repeated_option.ensures.none;
  positions = few_named c.as_slice.result.now c.args.self.now.positions.items c.as_slice.ensures.value c.in_default-as_slice.len_below;
}
