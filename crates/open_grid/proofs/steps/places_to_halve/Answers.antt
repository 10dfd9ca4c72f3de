use Rattle.std.proofs.Common.{arith, sym, vec_len}
use Rattle.lists.proofs.Words.{eqb-true}
use Rattle.open_grid.proofs.steps.places_to_halve.Goals as goal

pub returns-then-has_several : goal.returns-then-has_several
returns-then-has_several c = (
  c.has_several.ensures.0 c.if-has_several.true,
  λ seen among one x at change.
      let listed = c.in_ok-places.ensures.changes.complete seen one x among at change in
      let none = eqb-true (vec_len c.in_ok-places.places) 0 (sym c.if-is_empty.ensures) in
      absurd (omega (arith, listed.1, none, c.in_ok-places.places.ok.0)),
)
