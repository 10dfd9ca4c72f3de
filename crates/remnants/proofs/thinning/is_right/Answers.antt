use Rattle.std.proofs.Common.{◌∙◌, sym}
use Rattle.lists.proofs.Words.{false≢true}
use Rattle.remnants.proofs.thinning.is_right.Goals as goal

pub returns : goal.returns
returns c = λ yes. record {
  listed = c.has.ensures.0 c.if-not-has.false;
  stays = λ g. false≢true (sym c.if-has.false ∙ c.has-2.ensures.1 g);
  settled = λ l. false≢true (sym c.if-has-2.false ∙ c.has-3.ensures.1 l);
  somewhere = c.is_covered.ensures.somewhere yes;
  covered = c.is_covered.ensures.covered yes;
}
