use Rattle.std.proofs.Common.{refl}
use Rattle.gds_records.specs.declared.kinds.TheConstants as kind
use Rattle.library_grammar.specs.GrammarNames.{behind_attribute, behind_property}
use Rattle.gds_syntax.specs.inside.LibraryReaders.{standing}
use Rattle.library_grammar.proofs.laws.Forms.{plain}
use Rattle.gds_syntax.proofs.PropertyReading.{properties_begin, properties_go_on, properties_stop, properties_end, attribute_further, property_further}
use Rattle.first_refusal.proofs.AnswerLaws.{error_handed_on}
use Rattle.gds_syntax.proofs.ReaderLaws.{stops_later, only_one, advances_kind}
use Rattle.gds_syntax.proofs.elements.read_properties.Goals as goal

pub returns-in_err-_text-clause-faulty : goal.returns-in_err-_text-clause-faulty
returns-in_err-_text-clause-faulty c =
    error_handed_on c.from_residual.result c.in_err-_text.field-0.0 _ c.from_residual.ensures.1
    (λ names. c.in_err-_text.ensures.faulty (standing behind_attribute names) (only_one kind.PROPVALUE behind_property))

pub returns-in_err-found-clause-faulty : goal.returns-in_err-found-clause-faulty
returns-in_err-found-clause-faulty c =
    error_handed_on c.from_residual-in_err-found.result c.in_err-found.field-0.0 _ c.from_residual-in_err-found.ensures.1 (λ names. stops_later
    (advances_kind kind.PROPVALUE behind_attribute behind_property names c.in_ok-_text.ensures.found c.in_ok-_text.ensures.of_kind refl (plain kind.PROPVALUE refl))
    (c.in_err-found.ensures.faulty (standing behind_property names)))

pub loop-found-init : goal.loop-found-init
loop-found-init c = properties_begin c.in_ok-_text.ensures.found c.in_ok-_text.ensures.of_kind c.in_ok-found.ensures.found

pub returns-in_err-_text-2-clause-faulty : goal.returns-in_err-_text-2-clause-faulty
returns-in_err-_text-2-clause-faulty c =
    error_handed_on c.from_residual-in_err-_text-2.result c.in_err-_text-2.field-0.0 _ c.from_residual-in_err-_text-2.ensures.1 (λ names. stops_later
    (attribute_further c.loop-found-test.true c.loop-found.invariant names)
    (c.in_err-_text-2.ensures.faulty (standing behind_attribute names) (only_one kind.PROPVALUE behind_property)))

pub returns-in_err-found-2-clause-faulty : goal.returns-in_err-found-2-clause-faulty
returns-in_err-found-2-clause-faulty c =
    error_handed_on c.from_residual-in_err-found-2.result c.in_err-found-2.field-0.0 _ c.from_residual-in_err-found-2.ensures.1 (λ names. stops_later
    (property_further c.loop-found-test.true c.loop-found.invariant c.in_ok-_text-2.ensures.found c.in_ok-_text-2.ensures.of_kind names)
    (c.in_err-found-2.ensures.faulty (standing behind_property names)))

pub loop-found-preserved : goal.loop-found-preserved
loop-found-preserved c =
    properties_go_on c.loop-found-test.true c.loop-found.invariant c.in_ok-_text-2.ensures.found c.in_ok-_text-2.ensures.of_kind c.in_ok-found-2.ensures.found

pub returns-then-found-ne-ENDEL-clause-faulty : goal.returns-then-found-ne-ENDEL-clause-faulty
returns-then-found-ne-ENDEL-clause-faulty c = λ names.
    rw c.unexpected.ensures (properties_stop c.loop-found-test.false c.if-found-ne-ENDEL.true c.loop-found.invariant names)

pub returns-clause-read : goal.returns-clause-read
returns-clause-read c = properties_end c.if-found-ne-ENDEL.false c.loop-found.invariant
