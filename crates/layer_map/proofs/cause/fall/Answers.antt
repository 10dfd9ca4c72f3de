use Rattle.layer_map.proofs.cause.fall.Goals as goal

pub returns-in-None-clause-none : goal.returns-in-None-clause-none
returns-in-None-clause-none c n number (rises, falls) = c.in-None.ensures.none number falls
