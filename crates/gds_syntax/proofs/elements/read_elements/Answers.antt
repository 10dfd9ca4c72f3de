use Rattle.std.proofs.Common.{[], sym}
use Rattle.gds_syntax.specs.ElementKinds.{form_for}
use Rattle.library_grammar.specs.GrammarNames.{between_elements}
use Rattle.gds_syntax.specs.inside.LibraryReaders.{standing}
use Rattle.gds_syntax.proofs.ElementsReading.{elements_go_on, elements_stop, elements_end, element_further, element_fault_stops, opens}
use Rattle.first_refusal.proofs.AnswerLaws.{handed_on, out_of_memory}
use Rattle.first_refusal.specs.Answers.{gives, refuses}
use Rattle.library_grammar.specs.declared.fault.SyntaxFault.TheVariants.{Memory}
use Rattle.gds_syntax.proofs.ReaderLaws.{has_less_left, passed_on, read, stops_later}
use Rattle.library_grammar.proofs.laws.Forms.{opening_ends_no_library}
use Rattle.gds_syntax.proofs.elements.read_elements.Goals as goal

pub returns-in_default : goal.returns-in_default
returns-in_default c = rw c.unexpected.ensures
    (refuses (elements_stop c.loop-found-test.true (sym c.in_default.ensures) c.loop-found.invariant))

pub read_element-requires-clause-opens : goal.read_element-requires-clause-opens
read_element-requires-clause-opens c = opens c.loop-found.found.kind (form_for c.in-Some.kind) (sym c.in-Some.ensures)

pub read_element-requires-clause-ready : goal.read_element-requires-clause-ready
read_element-requires-clause-ready c =
    c.loop-found.invariant.takes.ready (opening_ends_no_library c.loop-found.found.kind (form_for c.in-Some.kind) (opens c.loop-found.found.kind (form_for c.in-Some.kind) (sym c.in-Some.ensures)))

pub returns-in_err-kept : goal.returns-in_err-kept
returns-in_err-kept c =
    passed_on c.from_residual-in_err-kept.result c.from_residual-in_err-kept.ensures.1 c.in_err-kept.ensures
    (element_fault_stops c.loop-found-test.true (sym c.in-Some.ensures) c.loop-found.invariant c.in_err-kept.field-0.0)

pub returns-in_err-found-2 : goal.returns-in_err-found-2
returns-in_err-found-2 c =
    handed_on Memory _ c.from_residual-in_err-found-2.result _ c.from_residual-in_err-found-2.ensures.1 (refuses (λ names. stops_later
    (element_further c.loop-found-test.true (sym c.in-Some.ensures) c.loop-found.invariant (read c.in_ok-kept.ensures) names)
    (c.in_err-found-2.ensures.faulty (standing between_elements names))))

pub loop-found-smaller : goal.loop-found-smaller
loop-found-smaller c = has_less_left _ ((read c.in_ok-kept.ensures).advances []).takes c.in_ok-found-2.ensures.found

pub loop-found-preserved : goal.loop-found-preserved
loop-found-preserved c =
    rw c.in_ok-keep.ensures (elements_go_on
    c.loop-found-test.true (sym c.in-Some.ensures) c.loop-found.invariant (read c.in_ok-kept.ensures) c.in_ok-found-2.ensures.found)

pub returns : goal.returns
returns c = gives (elements_end c.loop-found-test.false c.loop-found.invariant)

pub returns-in_err-found : goal.returns-in_err-found
returns-in_err-found c = handed_on Memory _ c.from_residual.result _ c.from_residual.ensures.1 (refuses c.in_err-found.ensures.faulty)

pub next_record-requires : goal.next_record-requires
next_record-requires c = (read c.in_ok-kept.ensures).ready

pub returns-in_err-keep : goal.returns-in_err-keep
returns-in_err-keep c = out_of_memory _ _ c.from_residual-in_err-keep.result c.from_residual-in_err-keep.ensures.1

pub loop-found-init : goal.loop-found-init
loop-found-init c = rw c.new-elements.ensures.items c.in_ok-found.ensures.found
