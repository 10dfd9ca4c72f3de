use Rattle.std.proofs.Common.{◌≡◌, arith, inl, inr, length, refl, sym}
use Rattle.first_refusal.specs.Answers.{gives}
use Rattle.first_refusal.specs.Outcomes.{reads}
use Rattle.first_refusal.proofs.AnswerLaws.{out_of_memory}
use Rattle.layout_gen.specs.Generated.{generated_layout}
use Rattle.run_inputs.specs.Contents.{file, layout_source}
use Rattle.run_inputs.specs.StageAnswers.{files_serve, gives_thing}
use Rattle.run_inputs.proofs.laws.ReadingLaws.{some_contents, some_may_be}
use Rattle.run_inputs.proofs.sources.layout_for.Goals as goal

pub generate-requires-clause-some : goal.generate-requires-clause-some
generate-requires-clause-some g c = (rw c.in-Generated.is at c.args.request.now.task_limits).least

pub generate-requires-clause-few : goal.generate-requires-clause-few
generate-requires-clause-few g c = (rw c.in-Generated.is at c.args.request.now.task_limits).most

pub returns-in-OneMetal-clause-found : goal.returns-in-OneMetal-clause-found
returns-in-OneMetal-clause-found g c =
    let named : layout_source c.args.request.now.task ≡ file c.as_slice-name.result.now = rw c.as_slice-name.ensures (elim c.in-OneMetal.is [ inl h ↦ rw h.4 refl | inr h ↦ elim h [ inl m ↦ rw m.2 refl | inr p ↦ elim p [ inl q ↦ rw q.3 refl | inr r ↦ elim r [ inl t ↦ rw t.3 refl | inr u ↦ rw u.5 refl ] ] ] ]) in
    rw named c.bytes_in.ensures.found

pub returns-in-OneMetal-clause-starts : goal.returns-in-OneMetal-clause-starts
returns-in-OneMetal-clause-starts g c =
    let named : layout_source c.args.request.now.task ≡ file c.as_slice-name.result.now = rw c.as_slice-name.ensures (elim c.in-OneMetal.is [ inl h ↦ rw h.4 refl | inr h ↦ elim h [ inl m ↦ rw m.2 refl | inr p ↦ elim p [ inl q ↦ rw q.3 refl | inr r ↦ elim r [ inl t ↦ rw t.3 refl | inr u ↦ rw u.5 refl ] ] ] ]) in
    rw named c.bytes_in.ensures.starts

pub returns-in_err-made-in-Generated-clause-found : goal.returns-in_err-made-in-Generated-clause-found
returns-in_err-made-in-Generated-clause-found g c = files_serve refl (out_of_memory _ _ c.from_residual.result c.from_residual.ensures.1)

pub returns-in_ok-made-in-Generated-clause-found : goal.returns-in_ok-made-in-Generated-clause-found
returns-in_ok-made-in-Generated-clause-found g c =
    let told = g.F.Files.holds c.args.files.now in
    let made = c.in_ok-made-in-Generated.ensures in
    let size : length (generated_layout c.in-Generated.n) ≡ 454 = rw made.layout at made.size in
    rw c.in-Generated.is (files_serve refl (gives (gives_thing {v = generated_layout c.in-Generated.n}
    (record { bytes = some_contents told; may_be = some_may_be told; comes = reads (record { is_text = refl; short = omega (arith, size) }) }) (sym made.layout))))
