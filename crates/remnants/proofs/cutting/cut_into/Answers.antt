use Rattle.std.proofs.Common.{◌≡◌, ◌∙◌, ap, subst, sym, All}
use Rattle.lists.proofs.Words.{IfOk-weaker}
use Rattle.half_boxes.specs.HalfBoxes.{LiesWithin}
use Rattle.remnants.specs.Remnants.{RemnantLists, IsLooseWithin}
use Rattle.remnants.specs.declared.parts.Loose.{Loose}
use Rattle.remnants.specs.inside.Parting.{IsCutInto, loose_of, with_loose}
use Rattle.remnants.proofs.CutLaws.{AreParts, cut_alike, kept_within}
use Rattle.remnants.proofs.cutting.cut_into.Goals as goal

pub returns-clause-cut : goal.returns-clause-cut
returns-clause-cut c =
    let parts = c.outside-parts.result in
    let e = c.outside-parts.ensures in
    let are : AreParts c.args.loose.part c.args.outer parts.below parts.above parts.left parts.right = record { below = e.below; above = e.above; left = e.left; right = e.right } in
    IfOk-weaker c.hold.result (λ (held : RemnantLists). held ≡ with_loose c.in_ok-right.right (loose_of c.kept_part.result c.args.loose.terminal))
    (λ (cut : RemnantLists). IsCutInto c.args.inner c.args.outer c.args.loose c.args.unjoined cut)
    (λ (held : RemnantLists) is. subst (IsCutInto c.args.inner c.args.outer c.args.loose c.args.unjoined) (sym is)
    (cut_alike c.args.inner c.args.outer c.args.loose.part parts.below parts.above parts.left parts.right c.kept_part.result are c.kept_part.ensures c.args.loose.terminal
    c.args.unjoined c.in_ok-below.below c.in_ok-above.above c.in_ok-left.left c.in_ok-right.right
    c.in_ok-below.ensures.settled c.in_ok-above.ensures.settled c.in_ok-left.ensures.settled c.in_ok-right.ensures.settled)) c.hold.ensures

pub returns-clause-within : goal.returns-clause-within
returns-clause-within c =
    let parts = c.outside-parts.result in
    let e = c.outside-parts.ensures in
    let are : AreParts c.args.loose.part c.args.outer parts.below parts.above parts.left parts.right = record { below = e.below; above = e.above; left = e.left; right = e.right } in
    let same = c.in_ok-right.ensures.loose ∙ c.in_ok-left.ensures.loose ∙ c.in_ok-above.ensures.loose ∙ c.in_ok-below.ensures.loose in
    IfOk-weaker c.hold.result (λ (held : RemnantLists). held ≡ with_loose c.in_ok-right.right (loose_of c.kept_part.result c.args.loose.terminal))
    (λ (cut : RemnantLists). IsLooseWithin c.args.unjoined c.args.outer → IsLooseWithin cut c.args.outer) (λ (held : RemnantLists) is all.
    subst (All (λ (one : Loose). LiesWithin one.part c.args.outer)) (sym (ap (λ (r : RemnantLists). r.loose) is))
    (kept_within c.args.inner c.args.outer c.args.loose.part parts.below parts.above parts.left parts.right c.kept_part.result are c.kept_part.ensures c.args.loose.terminal c.in_ok-right.right.loose
    (subst (All (λ (one : Loose). LiesWithin one.part c.args.outer)) (sym same) all))) c.hold.ensures
