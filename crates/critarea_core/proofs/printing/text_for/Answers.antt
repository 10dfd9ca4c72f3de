use Rattle.std.proofs.Common.{[]}
use Rattle.gauges.proofs.laws.Told.{on_err, untold, untold_prefixes}
use Rattle.critarea_core.proofs.PrintLaws.{on_err_then, on_ok, on_ok_then}
use Rattle.critarea_core.proofs.printing.text_for.Goals as goal

pub returns-in-Report-clause-printed : goal.returns-in-Report-clause-printed
returns-in-Report-clause-printed g c = rw c.in-Report.is (rw c.as_slice.ensures.value at c.text_of_report.ensures.printed)

pub returns-in-Report-clause-told : goal.returns-in-Report-clause-told
returns-in-Report-clause-told g c =
    rw c.in-Report.is (on_ok_then c.text_of_report.result (λ told. record { of_rows = told; of_pairs = untold _ }) (rw c.as_slice.ensures.value at c.text_of_report.ensures.told))

pub returns-in-Report-clause-some : goal.returns-in-Report-clause-some
returns-in-Report-clause-some g c =
    rw c.in-Report.is (on_err_then c.text_of_report.result (λ some. record { of_rows = some; of_pairs = untold_prefixes [] _ }) (rw c.as_slice.ensures.value at c.text_of_report.ensures.prefixes))

pub returns-in-Pairs-clause-told : goal.returns-in-Pairs-clause-told
returns-in-Pairs-clause-told g c = rw c.in-Pairs.is (on_ok_then c.text_of_pairs.result (λ told. record { of_rows = untold _; of_pairs = told }) c.text_of_pairs.ensures.told)

pub returns-in-Pairs-clause-some : goal.returns-in-Pairs-clause-some
returns-in-Pairs-clause-some g c = rw c.in-Pairs.is (on_err_then c.text_of_pairs.result (λ some. record { of_rows = untold_prefixes [] _; of_pairs = some }) c.text_of_pairs.ensures.prefixes)

pub returns-in-Probe-clause-printed : goal.returns-in-Probe-clause-printed
returns-in-Probe-clause-printed g c = rw c.in-Probe.is (rw c.as_slice-in-Probe.ensures.value at c.text_of_probe.ensures)

pub returns-in-Probe-clause-told : goal.returns-in-Probe-clause-told
returns-in-Probe-clause-told g c = rw c.in-Probe.is (on_ok c.text_of_probe.result (record { of_rows = untold _; of_pairs = untold _ }))

pub returns-in-Probe-clause-some : goal.returns-in-Probe-clause-some
returns-in-Probe-clause-some g c =
    rw c.in-Probe.is (on_err c.text_of_probe.result (record { of_rows = untold_prefixes [] _; of_pairs = untold_prefixes [] _ }))

pub returns-in-Region-clause-printed : goal.returns-in-Region-clause-printed
returns-in-Region-clause-printed g c = rw c.in-Region.is c.bytes_of_region.ensures

pub returns-in-Region-clause-told : goal.returns-in-Region-clause-told
returns-in-Region-clause-told g c = rw c.in-Region.is (on_ok c.bytes_of_region.result (record { of_rows = untold _; of_pairs = untold _ }))

pub returns-in-Region-clause-some : goal.returns-in-Region-clause-some
returns-in-Region-clause-some g c =
    rw c.in-Region.is (on_err c.bytes_of_region.result (record { of_rows = untold_prefixes [] _; of_pairs = untold_prefixes [] _ }))
