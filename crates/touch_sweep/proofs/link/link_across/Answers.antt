use Rattle.std.proofs.Common.{◌∙◌, refl, ap, arith, length, List}
use Rattle.touch_sweep.specs.inside.Strips.{crosses}
use Rattle.touch_sweep.proofs.SearchSteps.{IsByRow-filter}
use Rattle.touch_sweep.proofs.LinkLaws.{links_thinned}
use Rattle.touch_sweep.proofs.LinkSteps.{column_across}
use Rattle.touch_sweep.proofs.WorkLaws.{filter_few}
use Rattle.touch_sweep.specs.declared.numbered.Numbered.{Numbered}
use Rattle.touch_sweep.proofs.link.link_across.Goals as goal

pub join-requires : goal.join-requires
join-requires c =
    let low = c.args.strip.low in let high = c.args.strip.high in
    let across_is = c.as_slice.ensures.value ∙ c.in_ok-across.ensures.across in
    record {
      points = c.requires.points;
      spans = IsByRow-filter (crosses low high) c.args.spans.now _ across_is c.requires.spans;
      rows = column_across low high c.args.points.now c.args.spans.now _ c.requires.begin refl _ across_is;
    }

pub returns-clause-across : goal.returns-clause-across
returns-clause-across c = links_thinned (rw (c.as_slice.ensures.value, c.in_ok-across.ensures.across) at c.in_ok-join.ensures.joined) c.in_ok-thin.ensures.joined

pub returns-clause-few : goal.returns-clause-few
returns-clause-few c =
    let low = c.args.strip.low in let high = c.args.strip.high in
    let across = ap (λ (xs : List Numbered). length xs) (c.as_slice.ensures.value ∙ c.in_ok-across.ensures.across) in
    let fewer = filter_few (crosses low high) c.args.spans.now in
    let joined = c.in_ok-join.ensures.few in let thinned = c.in_ok-thin.ensures.few in omega arith
