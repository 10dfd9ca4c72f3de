use Rattle.std.proofs.Common.{◌≡◌, ◌++◌, take, string_bytes}
use Rattle.gauge_samples.specs.PairTexts.{areas_text}
use Rattle.gauge_samples.proofs.pair_hostile.write_areas.Given as goal

abbrev pub invariant-loop-row : goal.invariant-loop-row
invariant-loop-row l = string_bytes l.text ≡ string_bytes l.fn.text ++ areas_text (take l.row-index l.rows)
