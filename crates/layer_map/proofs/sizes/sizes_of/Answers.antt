use Rattle.std.proofs.Common.{◌≤◌, arith, length, sym, subst}
use Rattle.lists.proofs.Words.{IsStrictlyIncreasing, nat_tests}
use Rattle.layer_map.proofs.FindLaws.{found, none_found}
use Rattle.layer_map.proofs.SizeLaws.{are_sizes, no_sizes, not_sizes}
use Rattle.layer_map.proofs.sizes.sizes_of.Goals as goal

pub returns-in-None : goal.returns-in-None
returns-in-None c = not_sizes c.args.measure c.args.values.now (none_found (rw (c.in-None.is, c.greatest.ensures) at c.in_ok-sizes.ensures))

pub returns-then-is_empty : goal.returns-then-is_empty
returns-then-is_empty c =
    no_sizes c.args.measure c.args.values.now c.in-Some.sizes.items (found (rw (c.in-Some.is, c.greatest.ensures) at c.in_ok-sizes.ensures)) (λ numbers. 1 ≤ length numbers) (λ sizes is. is.some)
    (λ some. grind (arith, nat_tests, c.is_empty.ensures, c.if-is_empty.true, some))

pub returns-then-not-is_rising : goal.returns-then-not-is_rising
returns-then-not-is_rising c =
    no_sizes c.args.measure c.args.values.now c.in-Some.sizes.items (found (rw (c.in-Some.is, c.greatest.ensures) at c.in_ok-sizes.ensures)) IsStrictlyIncreasing (λ sizes is. is.rising)
    (λ rising. cc (c.is_rising.ensures.1 (subst IsStrictlyIncreasing (sym c.deref.ensures.value) rising), c.if-not-is_rising.true))

pub returns-else-not-is_rising : goal.returns-else-not-is_rising
returns-else-not-is_rising c =
    are_sizes c.args.measure c.args.values.now c.in-Some.sizes.items (found (rw (c.in-Some.is, c.greatest.ensures) at c.in_ok-sizes.ensures)) c.requires (grind (arith, nat_tests, c.is_empty.ensures, c.if-is_empty.false))
    (subst IsStrictlyIncreasing c.deref.ensures.value (c.is_rising.ensures.0 c.if-not-is_rising.false))
