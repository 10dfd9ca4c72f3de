use Rattle.std.proofs.Common.{sym, ◌∙◌}
use Rattle.skyline_runs.proofs.Joining.{across_both, active_at, both_read, both_turned, joined, joins_none}
use Rattle.skyline_runs.proofs.skyline.Skyline.joined_right.Goals as goal

pub new-requires-clause-across : goal.new-requires-clause-across
new-requires-clause-across c =
    let key = c.requires.sound.by_column _ c.in-Some.right (sym c.get.ensures.value ∙ sym c.copied.ensures ∙ c.in-Some.is) in
    across_both c.args.rect c.in-Some.right (sym key)

pub returns-in-Some : goal.returns-in-Some
returns-in-Some c =
    let at = sym c.get.ensures.value ∙ sym c.copied.ensures ∙ c.in-Some.is in
    let meet = sym (c.requires.sound.by_column _ c.in-Some.right at) in
    joined c.args.self.now c.take_out.new.self c.in-Some.right c.args.rect c.new.result c.requires.room c.take_out.ensures
    (both_turned c.args.rect c.in-Some.right c.new.result (both_read c.args.rect c.in-Some.right meet c.new.result c.if-right-rect.true c.if-right-rect-2.true
    c.new.ensures.left c.new.ensures.bottom c.new.ensures.right c.new.ensures.top))
    (active_at c.args.self.now _ c.in-Some.right c.requires.sound at)

pub take_out-requires-clause-is_active : goal.take_out-requires-clause-is_active
take_out-requires-clause-is_active c = active_at c.args.self.now _ c.in-Some.right c.requires.sound (sym c.get.ensures.value ∙ sym c.copied.ensures ∙ c.in-Some.is)

pub returns-in_default : goal.returns-in_default
returns-in_default c = joins_none c.args.self.now c.args.rect c.requires.sound c.requires.room

pub returns-in_default-2 : goal.returns-in_default-2
returns-in_default-2 c = joins_none c.args.self.now c.args.rect c.requires.sound c.requires.room

pub returns-in_default-3 : goal.returns-in_default-3
returns-in_default-3 c = joins_none c.args.self.now c.args.rect c.requires.sound c.requires.room
