use Rattle.std.proofs.Common.{inl, inr, refl, ◌∙◌, sym}
use Rattle.lists.proofs.Words.{false≢true}
use Rattle.remnants.proofs.releasing.release.Goals as goal

pub returns-in_default : goal.returns-in_default
returns-in_default c = inl refl

pub returns-then-has : goal.returns-then-has
returns-then-has c = inl refl

pub returns-then-lies_in_one : goal.returns-then-lies_in_one
returns-then-lies_in_one c = (
  (c.in-Some.terminal, c.in-Some.is, λ h. false≢true (sym c.if-has.false ∙ c.has.ensures.1 h)),
  c.lies_in_one.ensures c.if-lies_in_one.true,
)

pub returns : goal.returns
returns c = inr (refl, (c.in-Some.terminal, c.in-Some.is, λ h. false≢true (sym c.if-has.false ∙ c.has.ensures.1 h)))
