use Rattle.std.proofs.Common.{refl}
use Rattle.short_area.proofs.ZoneLaws.{both_whole, split_beside}
use Rattle.short_area.proofs.part_case.left_at_once.Goals as goal

pub returns-in_default : goal.returns-in_default
returns-in_default c d at two = c.in_default.ensures.none d two

pub returns-then-is_other_whole : goal.returns-then-is_other_whole
returns-then-is_other_whole c =
    let other = c.if-is_other_whole.ensures.whole refl in
    both_whole c.args.zones.now c.args.part c.in-Some-whole_label.label other.0 other.1 c.in-Some-whole_label.ensures.some other.2

pub returns : goal.returns
returns c =
    split_beside c.args.zones.now c.args.part c.in-Some-whole_label.label c.in_ok-others.field-0-0.items c.in_ok-others.others.items
    c.in-Some-whole_label.ensures.some c.in_ok-others.ensures
