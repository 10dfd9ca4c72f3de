use Rattle.std.proofs.Common.{◌≡◌, ◌*ℤ◌, ◌≤◌, nat_abs, sym, subst}
use Rattle.gds_syntax.proofs.StepLaws.{quotient_is, no_rest, rest_is_none, part_makes_up, part_is_shorter}
use Rattle.gds_syntax.proofs.arrays.part_of.Goals as goal

pub returns-then-way-count-eq0-clause-whole : goal.returns-then-way-count-eq0-clause-whole
returns-then-way-count-eq0-clause-whole c =
    subst (λ part. (c.args.count *ℤ part) ≡ c.args.way) (sym (quotient_is c.args.way c.args.count c.ranges.way c.ranges.count c.requires))
    (part_makes_up c.args.way c.args.count (no_rest c.args.way c.args.count c.ranges.way c.ranges.count c.if-way-count-eq0.true))

pub returns-then-way-count-eq0-clause-shorter : goal.returns-then-way-count-eq0-clause-shorter
returns-then-way-count-eq0-clause-shorter c =
    subst (λ part. nat_abs part ≤ nat_abs c.args.way) (sym (quotient_is c.args.way c.args.count c.ranges.way c.ranges.count c.requires))
    (part_is_shorter c.args.way c.args.count c.requires)

pub returns-else-way-count-eq0-clause-none : goal.returns-else-way-count-eq0-clause-none
returns-else-way-count-eq0-clause-none c part e = c.if-way-count-eq0.false (rest_is_none c.args.way c.args.count c.ranges.way c.ranges.count part e)
