use Rattle.std.proofs.Common.{◌≡◌, Some, of_z, rules, to_z, w64}
use Rattle.lists.proofs.Words.{to_z-of_z}
use Rattle.toml.specs.Data.{integer, string}
use Rattle.toml.specs.View.{view}
use Rattle.layer_map.specs.TerminalChecks.{place_in}
use Rattle.layer_map.proofs.FirstLaws.{first_at, nowhere}
use Rattle.layer_map.proofs.SearchLaws.{none_before_more}
use Rattle.layer_map.proofs.firsts.terminal_in.Goals as goal

pub loop-number-preserved : goal.loop-number-preserved
loop-number-preserved c =
    let x : to_z w64 (of_z w64 c.args.x) ≡ c.args.x = to_z-of_z w64 c.args.x (search rules) in
    let y : to_z w64 (of_z w64 c.args.y) ≡ c.args.y = to_z-of_z w64 c.args.y (search rules) in
    let told = rw (x, y) at c.is_terminal.ensures in
    rw (x, y) (none_before_more (λ item. place_in (view item)) c.args.items.now (Some (string c.args.metal.now), Some (integer c.args.x), Some (integer c.args.y)) c.loop-number.number c.index-items-number.result c.loop-number-test.true
    (λ same. cc (told.1 (rw (← c.index-items-number.is) at same), c.if-is_terminal.false)) (rw (x, y) at c.loop-number.invariant))

pub returns-then-is_terminal-clause-some : goal.returns-then-is_terminal-clause-some
returns-then-is_terminal-clause-some c =
    let x : to_z w64 (of_z w64 c.args.x) ≡ c.args.x = to_z-of_z w64 c.args.x (search rules) in
    let y : to_z w64 (of_z w64 c.args.y) ≡ c.args.y = to_z-of_z w64 c.args.y (search rules) in
    let told = rw (x, y) at c.is_terminal.ensures in
    first_at place_in view c.args.items.now (Some (string c.args.metal.now), Some (integer c.args.x), Some (integer c.args.y)) c.loop-number.number c.index-items-number.result c.loop-number-test.true c.index-items-number.is
    (told.0 c.if-is_terminal.true) (rw (x, y) at c.loop-number.invariant)

pub returns-clause-none : goal.returns-clause-none
returns-clause-none c =
    let x : to_z w64 (of_z w64 c.args.x) ≡ c.args.x = to_z-of_z w64 c.args.x (search rules) in
    let y : to_z w64 (of_z w64 c.args.y) ≡ c.args.y = to_z-of_z w64 c.args.y (search rules) in
    nowhere place_in view c.args.items.now (Some (string c.args.metal.now), Some (integer c.args.x), Some (integer c.args.y)) c.loop-number.number c.loop-number-test.false (rw (x, y) at c.loop-number.invariant)
