use Rattle.std.proofs.Common.{◌+◌, ◌*◌, ap, ◌∙◌}
use Rattle.flatten.specs.inside.Weights.{kept_of}
use Rattle.flatten.proofs.KeptLaws.{kept_total}
use Rattle.flatten.proofs.summing.kept_sum.Goals as goal

pub returns : goal.returns
returns c one other for_one for_other =
    c.min-3.ensures ∙ ap (λ x. kept_of (x + c.args.copies * c.min-2.result)) c.min.ensures ∙ ap (λ x. kept_of (kept_of c.args.sum + c.args.copies * x)) c.min-2.ensures
    ∙ kept_total c.args.sum c.args.count one other for_one for_other c.args.copies
