use Rattle.std.proofs.Common.{[], ◌∷◌, ◌∙◌, arith, inl, inr, refl}
use Rattle.lists.proofs.Words.{ints}
use Rattle.command_line.specs.declared.task.Task.TheVariants.{Generated}
use Rattle.first_refusal.proofs.AnswerLaws.{out_of_memory}
use Rattle.layout_gen.specs.Generated.{generated_map}
use Rattle.run_inputs.specs.StageAnswers.{files_serve}
use Rattle.run_inputs.specs.Failures.{IsUnsureOf}
use Rattle.run_inputs.proofs.laws.ReadingLaws.{found_bytes, not_found}
use Rattle.run_inputs.proofs.SourceLaws.{HasMapIn, map_of_file, map_of_generated, map_read, map_unread, mapped_in, one_metal_found, pairs_in, probe_in, refused_text, regions_in}
use Rattle.run_inputs.proofs.sources.map_for.Goals as goal

pub one_metal-requires : goal.one_metal-requires
one_metal-requires g c =
    let limits = rw c.in-OneMetal.is at c.args.request.now.task_limits in
    record { least = limits.2.least; most = let most = limits.2.most in omega (arith, ints) }

pub returns-in_err-one_metal-in-OneMetal-clause-found : goal.returns-in_err-one_metal-in-OneMetal-clause-found
returns-in_err-one_metal-in-OneMetal-clause-found g c = files_serve refl (out_of_memory _ _ c.from_residual.result c.from_residual.ensures.1)

pub returns-in_ok-one_metal-in-OneMetal-clause-found : goal.returns-in_ok-one_metal-in-OneMetal-clause-found
returns-in_ok-one_metal-in-OneMetal-clause-found g c =
    let metal = c.in-OneMetal in
    rw metal.is (files_serve refl (one_metal_found (g.F.Files.holds c.args.files.now) metal.layout metal.layer metal.datatype metal.radius metal.top
    c.in_ok-one_metal-in-OneMetal.field-0 c.in_ok-one_metal-in-OneMetal.ensures))

pub returns-in_err-bytes-in-Mapped-clause-found : goal.returns-in_err-bytes-in-Mapped-clause-found
returns-in_err-bytes-in-Mapped-clause-found g c =
    let mapped = c.in-Mapped in
    let in_file : HasMapIn c.args.request.now.task mapped.map = elim mapped.is [ inl h ↦ rw h.2 (mapped_in h.0 _ h.1) | inr h ↦ elim h [ inl p ↦ rw p.3 (pairs_in p.0 _ p.1 p.2) | inr q ↦ elim q [ inl r ↦ rw r.3 (probe_in r.0 _ r.1 r.2) | inr t ↦ rw t.5 (regions_in t.0 _ t.1 t.2 t.3 t.4) ] ] ] in
    let named = IsUnsureOf (g.F.Files.sure c.args.files.now) (mapped.map ∷ []) in
    rw in_file.names (not_found _ named named _ _ _ _ (λ one. one) (refused_text (g.F.Files.holds c.args.files.now) c.args.request.now.task mapped.map in_file) c.in_err-bytes-in-Mapped.field-0.0
    c.from_residual-in_err-bytes-in-Mapped.result c.from_residual-in_err-bytes-in-Mapped.ensures.1 (rw c.as_slice.ensures at c.in_err-bytes-in-Mapped.ensures.found))

pub returns-in_err-read_map-in-Mapped-clause-found : goal.returns-in_err-read_map-in-Mapped-clause-found
returns-in_err-read_map-in-Mapped-clause-found g c =
    let told = g.F.Files.holds c.args.files.now in
    let mapped = c.in-Mapped in
    let in_file : HasMapIn c.args.request.now.task mapped.map = elim mapped.is [ inl h ↦ rw h.2 (mapped_in h.0 _ h.1) | inr h ↦ elim h [ inl p ↦ rw p.3 (pairs_in p.0 _ p.1 p.2) | inr q ↦ elim q [ inl r ↦ rw r.3 (probe_in r.0 _ r.1 r.2) | inr t ↦ rw t.5 (regions_in t.0 _ t.1 t.2 t.3 t.4) ] ] ] in
    let read = c.in_ok-bytes-in-Mapped.bytes in
    let bytes = found_bytes _ _ _ read (rw c.as_slice.ensures at c.in_ok-bytes-in-Mapped.ensures.found) in
    (files_serve bytes.0 (map_unread told c.args.request.now.task read.items (map_of_file told c.args.request.now.task mapped.map in_file read.items bytes.1)
    c.in_err-read_map-in-Mapped.field-0.0 c.from_residual-in_err-read_map-in-Mapped.result c.from_residual-in_err-read_map-in-Mapped.ensures.1
    (rw c.as_slice-in-Mapped.ensures.value at c.in_err-read_map-in-Mapped.ensures.answers)))

pub returns-in_ok-read_map-in-Mapped-clause-found : goal.returns-in_ok-read_map-in-Mapped-clause-found
returns-in_ok-read_map-in-Mapped-clause-found g c =
    let told = g.F.Files.holds c.args.files.now in
    let mapped = c.in-Mapped in
    let in_file : HasMapIn c.args.request.now.task mapped.map = elim mapped.is [ inl h ↦ rw h.2 (mapped_in h.0 _ h.1) | inr h ↦ elim h [ inl p ↦ rw p.3 (pairs_in p.0 _ p.1 p.2) | inr q ↦ elim q [ inl r ↦ rw r.3 (probe_in r.0 _ r.1 r.2) | inr t ↦ rw t.5 (regions_in t.0 _ t.1 t.2 t.3 t.4) ] ] ] in
    let read = c.in_ok-bytes-in-Mapped.bytes in
    let bytes = found_bytes _ _ _ read (rw c.as_slice.ensures at c.in_ok-bytes-in-Mapped.ensures.found) in
    (files_serve bytes.0 (map_read told c.args.request.now.task read.items (map_of_file told c.args.request.now.task mapped.map in_file read.items bytes.1)
    c.in_ok-read_map-in-Mapped.field-0 (rw c.as_slice-in-Mapped.ensures.value at c.in_ok-read_map-in-Mapped.ensures.answers)))

pub returns-in_err-read_map-in-Generated-clause-found : goal.returns-in_err-read_map-in-Generated-clause-found
returns-in_err-read_map-in-Generated-clause-found g c =
    let told = g.F.Files.holds c.args.files.now in
    let n = c.in-Generated.n in
    rw c.in-Generated.is (files_serve refl (map_unread told (Generated n) generated_map (map_of_generated told n)
    c.in_err-read_map-in-Generated.field-0.0 c.from_residual-in_err-read_map-in-Generated.result c.from_residual-in_err-read_map-in-Generated.ensures.1
    (rw (c.as_bytes.ensures.value ∙ c.layer_map.ensures.text) at c.in_err-read_map-in-Generated.ensures.answers)))

pub returns-in_ok-read_map-in-Generated-clause-found : goal.returns-in_ok-read_map-in-Generated-clause-found
returns-in_ok-read_map-in-Generated-clause-found g c =
    let told = g.F.Files.holds c.args.files.now in
    let n = c.in-Generated.n in
    rw c.in-Generated.is (files_serve refl (map_read told (Generated n) generated_map (map_of_generated told n)
    c.in_ok-read_map-in-Generated.field-0 (rw (c.as_bytes.ensures.value ∙ c.layer_map.ensures.text) at c.in_ok-read_map-in-Generated.ensures.answers)))
