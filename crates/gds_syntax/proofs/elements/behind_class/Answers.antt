use Rattle.library_grammar.specs.GrammarNames.{behind_strname, between_elements}
use Rattle.gds_syntax.specs.inside.LibraryReaders.{standing}
use Rattle.gds_syntax.proofs.ElementsReading.{elements_begin, elements_begin_behind_class, class_further}
use Rattle.first_refusal.proofs.AnswerLaws.{error_handed_on}
use Rattle.gds_syntax.proofs.ReaderLaws.{stops_later}
use Rattle.gds_syntax.proofs.elements.behind_class.Goals as goal
use Rattle.gds_syntax.proofs.elements.behind_class.Goals.{then-found-eq-STRCLASS+in_ok-found-2, else-found-eq-STRCLASS}

pub returns-in_err-found-clause-faulty : goal.returns-in_err-found-clause-faulty
returns-in_err-found-clause-faulty c =
    error_handed_on c.from_residual.result c.in_err-found.field-0.0 _ c.from_residual.ensures.1 (λ names. c.in_err-found.ensures.faulty (standing behind_strname names))

pub returns-in_err-found-2-clause-faulty : goal.returns-in_err-found-2-clause-faulty
returns-in_err-found-2-clause-faulty c =
    error_handed_on c.from_residual-in_err-found-2.result c.in_err-found-2.field-0.0 _ c.from_residual-in_err-found-2.ensures.1 (λ names. stops_later
    (class_further c.in_ok-found.ensures.found c.if-found-eq-STRCLASS.true names) (c.in_err-found-2.ensures.faulty (standing between_elements names)))

pub returns-clause-found : goal.returns-clause-found
returns-clause-found c =
    elim c.if-found-eq-STRCLASS.branch [
      | then-found-eq-STRCLASS+in_ok-found-2 w ↦
          rw (w.records-is, w.found-is) (elements_begin_behind_class c.in_ok-found.ensures.found w.if-found-eq-STRCLASS.true w.in_ok-found-2.ensures.found)
      | else-found-eq-STRCLASS w ↦
          rw (w.records-is, w.found-is) (elements_begin c.in_ok-found.ensures.found w.if-found-eq-STRCLASS.false)
    ]
