use Rattle.std.proofs.Common.{rules, ◌∙◌, FitsSigned, w32}
use Rattle.lists.proofs.Words.{to_z-of_z, All-nil}
use Rattle.lists.proofs.Reading.{All-read_all}
use Rattle.half_boxes.specs.inside.Ranks.{HasEnds, IsAnEnd}
use Rattle.half_boxes.specs.HalfBoxes.{span_along}
use Rattle.half_boxes.proofs.RankLaws.{ends_next, theirs_next}
use Rattle.half_boxes.proofs.ranks.all_ends_along.Goals as goal

pub loop-one-init : goal.loop-one-init
loop-one-init c = record { all = All-nil _; theirs = rw c.new-ends.ensures.items (All-nil (IsAnEnd c.args.axis c.args.boxes.now)) }

pub loop-one-preserved : goal.loop-one-preserved
loop-one-preserved c =
    let low : FitsSigned w32 c.along-span.result.low = search rules in
    let high : FitsSigned w32 c.along-span.result.high = search rules in
    let first = to_z-of_z w32 c.along-span.result.low low ∙ c.along-span.ensures.low in
    let second = to_z-of_z w32 c.along-span.result.high high ∙ c.along-span.ensures.high in
    record {
      all = ends_next c.args.axis c.args.boxes.now c.loop-one.one-index c.one-item.result _ _ _ _ _ c.loop-one-test.true c.one-item.is first second
          c.in_ok-push.ensures.items c.in_ok-push-2.ensures.items c.loop-one.invariant.all;
      theirs = theirs_next c.args.axis c.args.boxes.now c.loop-one.one-index c.one-item.result _ _ _ _ _ c.loop-one-test.true c.one-item.is first second
          c.in_ok-push.ensures.items c.in_ok-push-2.ensures.items c.loop-one.invariant.theirs;
    }

pub returns-clause-all : goal.returns-clause-all
returns-clause-all c = All-read_all (λ one. HasEnds c.loop-one.ends.items (span_along c.args.axis one)) c.args.boxes.now c.loop-one.one-index c.loop-one-test.false c.loop-one.invariant.all
