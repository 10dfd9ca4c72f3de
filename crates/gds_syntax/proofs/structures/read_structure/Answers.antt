use Rattle.std.proofs.Common.{[], ◌∷◌, ◌++◌, refl, sym, subst, ◌∙◌, arith}
use Rattle.gds_records.specs.declared.kinds.TheConstants as kind
use Rattle.library_grammar.specs.GrammarNames.{AreBytes, before_strname, behind_strname}
use Rattle.gds_syntax.specs.inside.LibraryReaders.{standing}
use Rattle.gds_syntax.proofs.HeadLaws.{text_fits}
use Rattle.gds_syntax.proofs.StructureReading.{name_further, name_stops, structure_read}
use Rattle.first_refusal.proofs.AnswerLaws.{handed_on, out_of_memory}
use Rattle.first_refusal.specs.Answers.{gives, refuses}
use Rattle.library_grammar.specs.declared.fault.SyntaxFault.TheVariants.{Memory}
use Rattle.gds_syntax.proofs.ReaderLaws.{passed_on, read, stops_later, only_one}
use Rattle.gds_syntax.proofs.structures.read_structure.Goals as goal

pub returns-in_err-found : goal.returns-in_err-found
returns-in_err-found c =
    handed_on Memory _ c.from_residual.result _ c.from_residual.ensures.1
    (refuses (c.in_err-found.ensures.faulty (standing before_strname c.args.names.now) (only_one kind.STRNAME behind_strname)))

pub add-requires : goal.add-requires
add-requires c = omega (arith, c.requires.few, c.requires.ready.within, c.requires.ready.short)

pub read_elements-requires : goal.read_elements-requires
read_elements-requires c = c.in_ok-found.ensures.found.ready (λ same. omega (arith, c.in_ok-found.ensures.of_kind, same))

pub returns-then-not-branch : goal.returns-then-not-branch
returns-then-not-branch c =
    refuses (name_stops c.args.names.now c.text-name.result.now c.in_ok-found.ensures.found c.in_ok-found.ensures.of_kind c.text-name.ensures (c.in_ok-add.ensures.known c.if-not-branch.true))

pub returns-in_err-elements : goal.returns-in_err-elements
returns-in_err-elements c =
    passed_on c.from_residual-in_err-elements.result c.from_residual-in_err-elements.ensures.1 c.in_err-elements.ensures (λ stop. stops_later
    (name_further c.args.names.now c.text-name.result.now c.in_ok-found.ensures.found c.in_ok-found.ensures.of_kind c.text-name.ensures (c.in_ok-add.ensures.fresh.0 c.if-not-branch.false))
    (stop (c.args.names.now ++ c.text-name.result.now ∷ [])))

pub returns : goal.returns
returns c =
    let named = rw c.if-not-branch.false at c.in_ok-add.ensures.names in
    rw named (gives (structure_read c.args.opening.now c.args.names.now c.text-name.result.now _
    c.requires.opens c.requires.place c.in_ok-found.ensures.found c.in_ok-found.ensures.of_kind c.text-name.ensures (c.in_ok-add.ensures.fresh.0 c.if-not-branch.false)
    (read c.in_ok-elements.ensures)
    refl (c.from_vec.ensures ∙ c.in_ok-name.ensures.items) c.from_vec-2.ensures))

pub returns-in_err-add : goal.returns-in_err-add
returns-in_err-add c = out_of_memory _ _ c.from_residual-in_err-add.result c.from_residual-in_err-add.ensures.1

pub returns-in_err-name : goal.returns-in_err-name
returns-in_err-name c = out_of_memory _ _ c.from_residual-in_err-name.result c.from_residual-in_err-name.ensures.1

pub invariant_of-result : goal.invariant_of-result
invariant_of-result c =
    let fits = text_fits c.in_ok-found.found.body.now c.text-name.result.now c.in_ok-found.ensures.found.in_profile.spelled.body c.text-name.ensures in
    record { name_fits = subst AreBytes (sym (c.from_vec.ensures ∙ c.in_ok-name.ensures.items)) fits }
