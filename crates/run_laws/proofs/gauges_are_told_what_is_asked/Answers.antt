use Rattle.run_laws.proofs.TellingLaws.{pairs_untold, rows_untold}
use Rattle.run_laws.proofs.gauges_are_told_what_is_asked.Goals as goal

pub returns-clause-rows : goal.returns-clause-rows
returns-clause-rows g c words request asks none files holds starts failures out err gauges status ends =
    rows_untold words (record {
      files = record { holds = holds; sure = g.F.Files.sure files; starts = starts; failures = failures };
      out = out;
      err = err;
      gauges = gauges;
    }) request asks none status ends

pub returns-clause-pairs : goal.returns-clause-pairs
returns-clause-pairs g c words request asks none files holds starts failures out err gauges status ends =
    pairs_untold words (record {
      files = record { holds = holds; sure = g.F.Files.sure files; starts = starts; failures = failures };
      out = out;
      err = err;
      gauges = gauges;
    }) request asks none status ends
