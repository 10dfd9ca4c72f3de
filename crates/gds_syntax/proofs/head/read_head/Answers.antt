use Rattle.std.proofs.Common.{[], refl, sym, ap, ◌∙◌, subst, length}
use Rattle.gds_records.specs.declared.kinds.TheConstants as kind
use Rattle.library_grammar.specs.GrammarNames.{entry_of, AreBytes, before_header, before_bgnlib, before_name, before_units, between_structures}
use Rattle.gds_syntax.specs.inside.LibraryReaders.{standing, ReadsHead}
use Rattle.gds_syntax.proofs.HeadLaws.{text_fits, begins, names, reads_head}
use Rattle.library_grammar.proofs.laws.Forms.{plain}
use Rattle.first_refusal.proofs.AnswerLaws.{handed_on, out_of_memory}
use Rattle.first_refusal.specs.Answers.{gives, refuses}
use Rattle.library_grammar.specs.declared.fault.SyntaxFault.TheVariants.{Memory}
use Rattle.gds_syntax.proofs.ReaderLaws.{stops_later, advances_kind, only_one}
use Rattle.library_grammar.proofs.laws.Sizes.{sizes}
use Rattle.gds_syntax.proofs.head.read_head.Goals as goal

pub returns-in_err-_version : goal.returns-in_err-_version
returns-in_err-_version c =
    handed_on Memory _ c.from_residual.result _ c.from_residual.ensures.1
    (refuses (c.in_err-_version.ensures.faulty (standing before_header []) (only_one kind.HEADER before_bgnlib)))

pub returns-in_err-_dates : goal.returns-in_err-_dates
returns-in_err-_dates c =
    handed_on Memory _ c.from_residual-in_err-_dates.result _ c.from_residual-in_err-_dates.ensures.1 (refuses (stops_later
    (advances_kind kind.HEADER before_header before_bgnlib [] c.in_ok-_version.ensures.found c.in_ok-_version.ensures.of_kind refl (plain kind.HEADER refl))
    (c.in_err-_dates.ensures.faulty (standing before_bgnlib []) (only_one kind.BGNLIB before_name))))

pub returns-in_err-name : goal.returns-in_err-name
returns-in_err-name c =
    let begun = begins c.in_ok-_version.ensures.found c.in_ok-_version.ensures.of_kind c.in_ok-_dates.ensures.found c.in_ok-_dates.ensures.of_kind in
    handed_on Memory _ c.from_residual-in_err-name.result _ c.from_residual-in_err-name.ensures.1 (refuses (stops_later
    begun (c.in_err-name.ensures.faulty (standing before_name []) before_units (λ k. refl))))

pub returns-in_err-found : goal.returns-in_err-found
returns-in_err-found c =
    let begun = begins c.in_ok-_version.ensures.found c.in_ok-_version.ensures.of_kind c.in_ok-_dates.ensures.found c.in_ok-_dates.ensures.of_kind in
    handed_on Memory _ c.from_residual-in_err-found.result _ c.from_residual-in_err-found.ensures.1 (refuses (stops_later
    (names c.in_ok-_version._version c.in_ok-_dates._dates begun c.in_ok-name.ensures.found) (c.in_err-found.ensures.faulty (standing before_units []) between_structures (λ k. refl))))

pub copy_from_slice-requires : goal.copy_from_slice-requires
copy_from_slice-requires c = sym (sizes.units (entry_of c.in_ok-found.found) c.in_ok-found.ensures.found.in_profile c.in_ok-found.ensures.found.of_kind)

pub returns : goal.returns
returns c =
    let begun = begins c.in_ok-_version.ensures.found c.in_ok-_version.ensures.of_kind c.in_ok-_dates.ensures.found c.in_ok-_dates.ensures.of_kind in
    let all : ReadsHead c.args.records.now c.behind_head_records-2.new.records c.text.result.now c.in_ok-found.found.body.now =
    reads_head c.in_ok-_version._version c.in_ok-_dates._dates c.text.result.now
    c.in_ok-_version.ensures.of_kind c.in_ok-_dates.ensures.of_kind begun c.in_ok-name.ensures.found c.text.ensures c.in_ok-found.ensures.found in
    gives (rw (c.from_vec.ensures, c.in_ok-name-2.ensures.items, c.copy_from_slice.ensures.after) all)

pub invariant_of-result : goal.invariant_of-result
invariant_of-result c =
    let units = c.in_ok-found.ensures.found in
    let name = c.in_ok-name.ensures.found.in_profile.spelled.body in
    record {
      name_fits = subst AreBytes (sym (c.from_vec.ensures ∙ c.in_ok-name-2.ensures.items)) (text_fits c.in_ok-name.name.body.now c.text.result.now name c.text.ensures);
      units_count = ap length c.copy_from_slice.ensures.after ∙ sizes.units (entry_of c.in_ok-found.found) units.in_profile units.of_kind;
      units_fit = subst AreBytes (sym c.copy_from_slice.ensures.after) units.in_profile.spelled.body;
    }

pub returns-in_err-name-2 : goal.returns-in_err-name-2
returns-in_err-name-2 c = out_of_memory _ _ c.from_residual-in_err-name-2.result c.from_residual-in_err-name-2.ensures.1
