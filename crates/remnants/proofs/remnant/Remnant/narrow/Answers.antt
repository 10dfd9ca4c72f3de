use Rattle.std.proofs.Common.{◌∙◌, All, refl, subst, sym}
use Rattle.lists.proofs.Words.{false≢true}
use Rattle.half_boxes.specs.HalfBoxes.{LiesWithin}
use Rattle.remnants.specs.declared.parts.Loose.{Loose}
use Rattle.remnants.proofs.remnant.Remnant.narrow.Goals as goal

pub returns-then-is_seen_whole-clause-split : goal.returns-then-is_seen_whole-clause-split
returns-then-is_seen_whole-clause-split c = λ has_inner.
    let cut = c.in_ok-cut.ensures.same c.args.outer has_inner (λ h has. has) in (
      λ some. absurd (false≢true some),
      λ split. absurd (c.is_seen_whole.ensures c.if-is_seen_whole.true c.args.outer c.in_ok-cut.ensures.within (cut.1 split)),
    )

pub returns-then-not-is_split-clause-split : goal.returns-then-not-is_split-clause-split
returns-then-not-is_split-clause-split c = λ has_inner.
    let cut = c.in_ok-cut.ensures.same c.args.outer has_inner (λ h has. has) in
    let thinned = c.in_ok-thinned.ensures.same c.args.outer in
    let within = c.in_ok-thinned.ensures.within c.args.outer c.in_ok-cut.ensures.within in (
      λ some. absurd (false≢true some),
      λ split. absurd (false≢true (sym c.if-not-is_split.true ∙ (c.is_split.ensures c.args.outer within).1 (thinned.1 (cut.1 split)))),
    )

pub keep-requires : goal.keep-requires
keep-requires c = c.in_ok-thinned.ensures.within c.args.outer c.in_ok-cut.ensures.within

pub returns-clause-split : goal.returns-clause-split
returns-clause-split c = λ has_inner.
    let cut = c.in_ok-cut.ensures.same c.args.outer has_inner (λ h has. has) in
    let thinned = c.in_ok-thinned.ensures.same c.args.outer in
    let within = c.in_ok-thinned.ensures.within c.args.outer c.in_ok-cut.ensures.within in
    (λ some. cut.0 (thinned.0 ((c.is_split.ensures c.args.outer within).0 c.if-not-is_split.false)), λ split. refl)

pub returns-clause-same : goal.returns-clause-same
returns-clause-same c = λ removed has_inner within.
    let cut = c.in_ok-cut.ensures.same removed has_inner within in
    let thinned = c.in_ok-thinned.ensures.same removed in
    let kept = c.in_ok-kept.ensures.same removed in
    (λ s. cut.0 (thinned.0 (kept.0 s)), λ s. kept.1 (thinned.1 (cut.1 s)))

pub returns-clause-within : goal.returns-clause-within
returns-clause-within c =
    subst (All (λ (one : Loose). LiesWithin one.part c.args.outer)) (sym c.in_ok-kept.ensures.loose) (c.in_ok-thinned.ensures.within c.args.outer c.in_ok-cut.ensures.within)
