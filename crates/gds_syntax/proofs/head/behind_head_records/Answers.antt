use Rattle.lists.proofs.Words.{iff_false}
use Rattle.gds_syntax.proofs.HeadLaws.{head_begins, head_further, head_goes_on, head_stops, head_ends}
use Rattle.first_refusal.proofs.AnswerLaws.{error_handed_on}
use Rattle.gds_syntax.proofs.ReaderLaws.{stops_later}
use Rattle.gds_syntax.proofs.head.behind_head_records.Goals as goal

pub loop-found-init : goal.loop-found-init
loop-found-init c = head_begins c.args.kind c.args.records.now c.next_record.new.records c.in_ok-found.found c.in_ok-found.ensures.found

pub returns-then-not-is_head_kind-clause-faulty : goal.returns-then-not-is_head_kind-clause-faulty
returns-then-not-is_head_kind-clause-faulty c = λ from to place.
    rw c.unexpected.ensures (head_stops from to place c.loop-found-test.true (iff_false c.is_head_kind.ensures c.if-not-is_head_kind.true) c.loop-found.invariant)

pub returns-in_err-found-2-clause-faulty : goal.returns-in_err-found-2-clause-faulty
returns-in_err-found-2-clause-faulty c =
    error_handed_on c.from_residual-in_err-found-2.result c.in_err-found-2.field-0.0 _ c.from_residual-in_err-found-2.ensures.1 (λ from to place. stops_later
    (head_further c.loop-found-test.true (c.is_head_kind.ensures.0 c.if-not-is_head_kind.false) c.loop-found.invariant from to place)
    (c.in_err-found-2.ensures.faulty from))

pub loop-found-preserved : goal.loop-found-preserved
loop-found-preserved c = head_goes_on
    c.loop-found-test.true (c.is_head_kind.ensures.0 c.if-not-is_head_kind.false) c.loop-found.invariant c.in_ok-found-2.ensures.found

pub returns-clause-found : goal.returns-clause-found
returns-clause-found c = head_ends c.loop-found-test.false c.loop-found.invariant
