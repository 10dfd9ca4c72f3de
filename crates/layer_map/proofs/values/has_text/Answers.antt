use Rattle.std.proofs.Common.{refl}
use Rattle.lists.proofs.Words.{slice_eq-Decides, Decides-eqb}
use Rattle.layer_map.proofs.SearchLaws.{contained, none_before_more, not_contained}
use Rattle.layer_map.proofs.values.has_text.Goals as goal

pub loop-other-preserved : goal.loop-other-preserved
loop-other-preserved c =
    none_before_more (λ text. text.now) c.args.texts.now c.args.text.now c.loop-other.other-index _ c.loop-other-test.true
    (λ same. cc ((slice_eq-Decides Decides-eqb _ _ _ c.eq.ensures).1 same, c.if-eq.false)) c.loop-other.invariant

pub returns-then-eq : goal.returns-then-eq
returns-then-eq c =
    (λ _. contained (λ text. text.now) c.args.texts.now c.args.text.now c.loop-other.other-index _ c.loop-other-test.true ((slice_eq-Decides Decides-eqb _ _ _ c.eq.ensures).0 c.if-eq.true), λ _. refl)

pub returns : goal.returns
returns c =
    (λ same. cc same, λ h. absurd (not_contained (λ text. text.now) c.args.texts.now c.args.text.now c.loop-other.other-index c.loop-other-test.false c.loop-other.invariant h))
