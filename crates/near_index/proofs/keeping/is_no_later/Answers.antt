use Rattle.std.proofs.Common.{arith, inl, refl}
use Rattle.near_index.proofs.TwoLeastLaws.{by_labels, no_nearer}
use Rattle.near_index.proofs.keeping.is_no_later.Goals as goal

pub returns-then-one-other : goal.returns-then-one-other
returns-then-one-other c = (λ t. inl c.if-one-other.true, λ before. refl)

pub returns-then-other-one : goal.returns-then-other-one
returns-then-other-one c = (λ t. cc, λ before. let k = no_nearer c.args.one c.args.other.distance c.args.other.label before in absurd (omega (arith, k, c.if-other-one.true)))

pub returns : goal.returns
returns c = by_labels c.args.one c.args.other.distance c.args.other.label c.if-one-other.false c.if-other-one.false
