use Rattle.std.proofs.Common.{arith, Bool, false, IsTrue, refl, subst, true}
use Rattle.lists.proofs.Words.{false≢true, ints}
use Rattle.ring_test.specs.inside.NumberRuns.{IsMerged}
use Rattle.ring_test.proofs.MergeLaws.{more_no_arc, nothing_arc, one_arc, two_apart, two_arcs}
use Rattle.ring_test.proofs.merging.Merged.is_arc.Goals as goal

-- a test that cannot fail passes
by_test : (b : Bool) → ((IsTrue b → ⊥) → ⊥) → IsTrue b
by_test true some = refl
by_test false some = absurd (some false≢true)

pub returns-in-Nothing : goal.returns-in-Nothing
returns-in-Nothing c runs is inside = (λ t. nothing_arc runs c.args.length inside (subst (IsMerged runs) c.in-Nothing.is is), λ arc. refl)

pub returns-in-One : goal.returns-in-One
returns-in-One c runs is inside = (λ t. one_arc runs c.args.length inside _ (subst (IsMerged runs) c.in-One.is is), λ arc. refl)

pub returns-in-More : goal.returns-in-More
returns-in-More c runs is inside = (λ f. absurd (false≢true f), λ arc. absurd (more_no_arc runs c.args.length inside (subst (IsMerged runs) c.in-More.is is) arc))

pub returns-then-first-eq0 : goal.returns-then-first-eq0
returns-then-first-eq0 c runs is inside = (
  λ t. two_arcs runs c.args.length inside c.in-Two.first c.in-Two.last (subst (IsMerged runs) c.in-Two.is is) (omega (arith, ints)) (grind (arith, ints)),
  λ arc. by_test _ (λ n. two_apart runs c.args.length inside c.in-Two.first c.in-Two.last (subst (IsMerged runs) c.in-Two.is is) (λ e f. n (grind (arith, ints))) arc),
)

pub returns-else-first-eq0 : goal.returns-else-first-eq0
returns-else-first-eq0 c runs is inside = (
  λ t. absurd (grind (arith, ints)),
  λ arc. absurd (two_apart runs c.args.length inside c.in-Two.first c.in-Two.last (subst (IsMerged runs) c.in-Two.is is) (λ e f. absurd (omega (arith, ints))) arc),
)
