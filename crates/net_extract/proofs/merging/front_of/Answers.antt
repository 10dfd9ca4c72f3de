use Rattle.std.proofs.Common.{◌≡◌, sym, subst, ◌∙◌, arith, All, take_all, length}
use Rattle.lists.proofs.Words.{All-more, slice_get_within}
use Rattle.geo_core.specs.declared.plane.Labelled.{Labelled}
use Rattle.net_extract.proofs.SlimLaws.{not_the_first}
use Rattle.net_extract.proofs.merging.front_of.Goals as goal

pub returns-then-one-first : goal.returns-then-one-first
returns-then-one-first c = record {
  some = not_the_first c.args.rects.now c.loop-k.k c.args.first c.index-rects-k.result c.requires c.index-rects-k.is c.if-one-first.true;
  within = c.loop-k.auto.k-end;
  alike = c.loop-k.invariant;
}

pub loop-k-preserved : goal.loop-k-preserved
loop-k-preserved c =
    let alike = λ (one : Labelled). one.label ≡ c.args.first.label in
    let here : alike c.index-rects-k.result = c.if-one-first.false in
    All-more alike c.args.rects.now c.loop-k.k c.index-rects-k.result c.loop-k-test.true c.loop-k.invariant (subst alike c.index-rects-k.is here)

pub returns : goal.returns
returns c =
    let rects = c.args.rects.now in
    let some = slice_get_within rects 0 c.args.first c.requires in
    let whole = take_all c.loop-k.k rects c.loop-k-test.false ∙ sym (take_all (length rects) rects (omega arith)) in
    record { some = some; within = omega arith; alike = subst (All (λ (one : Labelled). one.label ≡ c.args.first.label)) whole c.loop-k.invariant }
