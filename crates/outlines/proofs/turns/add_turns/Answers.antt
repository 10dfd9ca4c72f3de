use Rattle.std.proofs.Common.{refl, arith}
use Rattle.lists.proofs.Words.{ints}
use Rattle.outlines.proofs.OutlineTurnLaws.{no_turns, two_turns}
use Rattle.outlines.proofs.turns.add_turns.Goals as goal

pub returns-then-from-to : goal.returns-then-from-to
returns-then-from-to c = no_turns (c.args.from, c.args.to) c.args.turns.now.items (omega (arith, ints, c.if-from-to.true))

pub returns : goal.returns
returns c =
    rw (c.in_ok-push-2.ensures.items, c.in_ok-push.ensures.items)
    (two_turns (c.args.from, c.args.to) c.args.turns.now.items _ _ (omega (arith, ints)) (omega (arith, ints)) refl (omega (arith, ints)) (omega (arith, ints)) refl)
