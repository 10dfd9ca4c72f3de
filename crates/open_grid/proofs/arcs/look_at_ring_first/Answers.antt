use Rattle.open_grid.proofs.arcs.look_at_ring_first.Goals as goal

pub returns-then-branch-clause-told : goal.returns-then-branch-clause-told
returns-then-branch-clause-told c = λ island stands. c.in_ok-is_spared.ensures island stands c.if-branch.true
