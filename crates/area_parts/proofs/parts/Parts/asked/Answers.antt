use Rattle.std.proofs.Common.{ap, arith, length, sym, subst, All}
use Rattle.questions.specs.Questions.{IsAskable}
use Rattle.area_parts.proofs.parts.Parts.asked.Goals as goal

pub invariant_of-result : goal.invariant_of-result
invariant_of-result c =
    let parts = c.args.self.now in
    record {
      askable = subst (All (IsAskable (length parts.metals) (length parts.cuts))) (sym c.as_slice.ensures) parts.askable;
      few = omega (arith, ap length c.as_slice.ensures, parts.few);
    }
