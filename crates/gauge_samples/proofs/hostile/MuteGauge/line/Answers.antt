use Rattle.gauge_samples.proofs.hostile.MuteGauge.line.Goals as goal

-- two letters went out
pub returns-clause-prefix : goal.returns-clause-prefix
returns-clause-prefix c = (2, c.in_ok-extend_from_slice.ensures.items)
