use Rattle.std.proofs.Common.{None, Some, arith}
use Rattle.std.proofs.lemmas.Str.Pattern.{split_parts}
use Rattle.command_line.proofs.RegionLaws.{have_three, no_three, not_three}
use Rattle.command_line.proofs.region.three_parts.Goals as goal

pub returns-in_default-clause-none : goal.returns-in_default-clause-none
returns-in_default-clause-none c = no_three c.args.text.now (split_parts 44 c.args.text.now None c.in_default.ensures.cases (omega arith))

pub returns-in_default-parts-clause-none : goal.returns-in_default-parts-clause-none
returns-in_default-parts-clause-none c =
    let cut = split_parts 44 c.args.text.now (Some (c.in-Some.first, c.in-Some.rest)) c.in-Some.ensures.cases (omega arith) in
    not_three c.args.text.now c.in-Some.first.now c.in-Some.rest.now cut.0 cut.1 c.in_default-parts.ensures.none

pub returns-clause-some : goal.returns-clause-some
returns-clause-some c =
    let cut = split_parts 44 c.args.text.now (Some (c.in-Some.first, c.in-Some.rest)) c.in-Some.ensures.cases (omega arith) in
    have_three c.args.text.now c.in-Some.first.now c.in-Some.rest.now c.in-Some-parts.second.now c.in-Some-parts.third.now cut.0 cut.1
    c.in-Some-parts.ensures.some
