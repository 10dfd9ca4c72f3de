use Rattle.std.proofs.Common.{◌≡◌, inl, inr, refl, true}
use Rattle.near_index.proofs.TwoLeastLaws.{turned}
use Rattle.near_index.proofs.keeping.first_of.Goals as goal

pub returns-then-is_no_later : goal.returns-then-is_no_later
returns-then-is_no_later c = inl (refl, c.is_no_later.ensures.0 c.if-is_no_later.true)

pub returns : goal.returns
returns c =
    inr (refl, turned c.args.one c.args.other (λ before. let h : c.is_no_later.result ≡ true = c.is_no_later.ensures.1 before in cc (h, c.if-is_no_later.false)))
