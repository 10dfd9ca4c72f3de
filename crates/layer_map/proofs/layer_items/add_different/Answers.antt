use Rattle.std.proofs.Common.{List, ℕ, get_or, sym, subst, Contains}
use Rattle.lists.proofs.Words.{append-nil}
use Rattle.layer_map.proofs.PairLaws.{adds_more, all_added, stands_earlier}
use Rattle.layer_map.proofs.layer_items.add_different.Goals as goal

pub returns-then-has_pair : goal.returns-then-has_pair
returns-then-has_pair c differ =
    stands_earlier c.args.pairs.now.items c.args.more.now c.loop-pair.pairs.items c.loop-pair.pair-index c.loop-pair-test.true c.loop-pair.invariant
    (subst (λ (pairs : List (ℕ × ℕ)). Contains pairs (get_or c.args.more.now c.loop-pair.pair-index (0, 0))) c.deref.ensures.value (c.has_pair.ensures.0 c.if-has_pair.true))

pub loop-pair-preserved : goal.loop-pair-preserved
loop-pair-preserved c =
    rw c.in_ok-push.ensures.items
    (adds_more c.args.pairs.now.items c.args.more.now c.loop-pair.pairs.items c.loop-pair.pair-index c.loop-pair-test.true c.loop-pair.invariant
    (λ among. cc (
      c.has_pair.ensures.1 (subst (λ (pairs : List (ℕ × ℕ)). Contains pairs (get_or c.args.more.now c.loop-pair.pair-index (0, 0))) (sym c.deref.ensures.value) among),
      c.if-has_pair.false,
    )))

pub loop-pair-init : goal.loop-pair-init
loop-pair-init c = record { added = sym (append-nil c.args.pairs.now.items); differ = λ h. h }

pub returns : goal.returns
returns c differ =
    (all_added c.args.pairs.now.items c.args.more.now c.loop-pair.pairs.items c.loop-pair.pair-index c.loop-pair-test.false c.loop-pair.invariant, c.loop-pair.invariant.differ differ)
