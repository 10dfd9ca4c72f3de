use Rattle.std.proofs.Common.{arith}
use Rattle.lists.proofs.Words.{ints, to_z-of_z}
use Rattle.geo_core.proofs.IntervalLaws.{clip_none, clipped}
use Rattle.net_pairs.proofs.StretchLaws.{row_part_is}
use Rattle.net_pairs.proofs.changes.row_part.Goals as goal

pub returns-then-end-first-clause-none : goal.returns-then-end-first-clause-none
returns-then-end-first-clause-none c p h =
    let window = c.args.window in let corner = c.args.corner in
    clip_none corner.column c.args.end window.x0 window.x1 c.max-first.result c.min-end.result
    (grind (arith, to_z-of_z, c.max-first.ensures.value)) (grind (arith, to_z-of_z, c.min-end.ensures.value)) (let t = c.if-end-first.true in omega (arith, ints))
    (p.i, h.across, h.has.across)

pub returns-clause-some : goal.returns-clause-some
returns-clause-some c =
    let window = c.args.window in let corner = c.args.corner in
    row_part_is window c.new.result corner.row corner.column c.args.end
    (λ x. clipped corner.column c.args.end window.x0 window.x1 c.new.result.x0 c.new.result.x1 x
    (grind (arith, to_z-of_z, c.max-first.ensures.value, c.new.ensures.left)) (grind (arith, to_z-of_z, c.min-end.ensures.value, c.new.ensures.right)))
    (grind (arith, to_z-of_z, c.new.ensures.bottom)) (let top = c.new.ensures.top in omega (arith, ints, top))
    (let f = c.if-corner-window.false in omega (arith, ints, f)) (let f = c.if-window-corner.false in omega (arith, ints, f))

pub new-requires-clause-up : goal.new-requires-clause-up
new-requires-clause-up c =
    let low = c.if-corner-window.false in let high = c.if-window-corner.false in
    let least = c.args.window.up.least in let most = c.args.window.up.most in
    record { some = omega (arith, ints); least = omega (arith, ints); most = omega (arith, ints) }

pub returns-then-corner-window-clause-none : goal.returns-then-corner-window-clause-none
returns-then-corner-window-clause-none c p h =
    let t = c.if-corner-window.true in let from = h.has.up.from in let level = h.level in absurd (omega (arith, ints))

pub returns-then-window-corner-clause-none : goal.returns-then-window-corner-clause-none
returns-then-window-corner-clause-none c p h =
    let t = c.if-window-corner.true in let before = h.has.up.before in let level = h.level in absurd (omega (arith, ints))
