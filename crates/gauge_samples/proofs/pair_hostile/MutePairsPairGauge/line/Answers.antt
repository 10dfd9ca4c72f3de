use Rattle.gauge_samples.proofs.pair_hostile.MutePairsPairGauge.line.Goals as goal

-- two letters went out
pub returns-clause-prefix : goal.returns-clause-prefix
returns-clause-prefix c = (2, c.in_ok-extend_from_slice.ensures.items)
