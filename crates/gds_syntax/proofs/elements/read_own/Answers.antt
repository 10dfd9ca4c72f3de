use Rattle.std.proofs.Common.{[], inl, inr}
use Rattle.lists.proofs.Words.{iff_false}
use Rattle.gds_syntax.specs.ElementKinds.{form_for}
use Rattle.library_grammar.specs.GrammarNames.{among_own}
use Rattle.gds_syntax.specs.inside.LibraryReaders.{standing}
use Rattle.gds_syntax.proofs.OwnReading.{own_begins, own_is_ready, own_further, own_goes_on, own_stops}
use Rattle.first_refusal.proofs.AnswerLaws.{handed_on, out_of_memory}
use Rattle.first_refusal.specs.Answers.{gives, refuses}
use Rattle.library_grammar.specs.declared.fault.SyntaxFault.TheVariants.{Memory}
use Rattle.gds_syntax.proofs.ReaderLaws.{stops_later, one_less_left}
use Rattle.gds_syntax.proofs.elements.read_own.Goals as goal
use Rattle.gds_syntax.proofs.elements.read_own.Goals.{then-loop-own-test+else-not-has, else-loop-own-test}

pub returns-in_err-found : goal.returns-in_err-found
returns-in_err-found c =
    handed_on Memory _ c.from_residual.result _ c.from_residual.ensures.1 (refuses (λ names. c.in_err-found.ensures.faulty (standing (among_own (form_for c.args.kind) []) names)))

pub returns-in_err-found-2 : goal.returns-in_err-found-2
returns-in_err-found-2 c =
    handed_on Memory _ c.from_residual-in_err-found-2.result _ c.from_residual-in_err-found-2.ensures.1 (refuses (λ names. stops_later
    (own_further c.args.kind (c.owns.ensures.0 c.loop-own-test.true) (iff_false c.has.ensures c.if-not-has.true) c.loop-own.invariant names)
    (c.in_err-found-2.ensures.faulty _)))

pub loop-own-init : goal.loop-own-init
loop-own-init c = rw c.requires.none (own_begins (form_for c.args.kind) c.in_ok-found.ensures.found)

pub next_record-requires-in-loop-own : goal.next_record-requires-in-loop-own
next_record-requires-in-loop-own c = own_is_ready c.args.kind (c.owns.ensures.0 c.loop-own-test.true) c.loop-own.invariant

pub loop-own-preserved : goal.loop-own-preserved
loop-own-preserved c =
    let all = own_goes_on c.args.kind
    (c.owns.ensures.0 c.loop-own-test.true) (iff_false c.has.ensures c.if-not-has.true) c.loop-own.invariant c.in_ok-found-2.ensures.found in
    rw c.in_ok-push.ensures all

pub returns-then-found-ne-ENDEL : goal.returns-then-found-ne-ENDEL
returns-then-found-ne-ENDEL c = rw c.unexpected.ensures (refuses (own_stops
    (λ owned fresh. elim c.loop-own-test.branch [
      | then-loop-own-test+else-not-has w ↦ fresh (w.has.ensures.0 w.if-not-has.false)
      | else-loop-own-test w ↦ iff_false c.owns.ensures w.loop-own-test.false owned
    ])
    c.if-found-ne-PROPATTR.true c.if-found-ne-ENDEL.true c.loop-own.invariant))

pub returns : goal.returns
returns c = gives (record { so_far = c.loop-own.invariant; ends = elim c.else-found-ne-PROPATTR.either [ inl w ↦ inr w.1 | inr is ↦ inl is ] })

pub returns-in_err-push : goal.returns-in_err-push
returns-in_err-push c = out_of_memory _ _ c.from_residual-in_err-push.result c.from_residual-in_err-push.ensures.1

pub push-requires : goal.push-requires
push-requires c = c.loop-own.invariant.takes.in_profile

pub loop-own-smaller : goal.loop-own-smaller
loop-own-smaller c = one_less_left c.in_ok-found-2.ensures.found
