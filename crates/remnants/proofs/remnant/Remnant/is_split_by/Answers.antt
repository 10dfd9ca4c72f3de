use Rattle.remnants.proofs.remnant.Remnant.is_split_by.Goals as goal

pub returns : goal.returns
returns c =
    let cut = c.in_ok-cut.ensures.same c.args.removed (λ h has. has) (λ h has. has) in
    let is = c.is_split.ensures c.args.removed c.in_ok-cut.ensures.within in
    (λ t. cut.0 (is.0 t), λ s. is.1 (cut.1 s))
