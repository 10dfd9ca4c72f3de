use Rattle.gds_syntax.proofs.ReaderLaws.{stops_unexpected}
use Rattle.gds_syntax.proofs.records.expect.Goals as goal

pub returns-then-found-kind-clause-faulty : goal.returns-then-found-kind-clause-faulty
returns-then-found-kind-clause-faulty c = λ from only.
    rw (c.unexpected.ensures) (stops_unexpected from c.in_ok-found.ensures.found (only c.in_ok-found.found.kind c.if-found-kind.true))
