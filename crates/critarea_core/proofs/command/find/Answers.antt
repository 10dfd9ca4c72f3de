use Rattle.std.proofs.Common.{◌≡◌, ◌≢◌, Err, ap, refl}
use Rattle.command_line.specs.declared.fault.WordsFault.{WordsFault}
use Rattle.command_line.specs.declared.fault.WordsFault.TheVariants.{Memory, Usage}
use Rattle.run_inputs.specs.StageAnswers.{files_serve}
use Rattle.run_inputs.specs.Refusals.{usage}
use Rattle.run_inputs.proofs.laws.ReadingLaws.{not_read}
use Rattle.critarea_core.proofs.RunLaws.{starts_none, words_refused}
use Rattle.critarea_core.proofs.command.find.Goals as goal

-- words have one fault besides want of memory
only_usage : (fault : WordsFault) → fault ≢ Memory → fault ≡ Usage
only_usage Usage known = refl
only_usage Memory known = absurd (known refl)

pub returns-in_err-request-clause-found : goal.returns-in_err-request-clause-found
returns-in_err-request-clause-found g c =
    let fault = c.in_err-request.field-0.0 in
    files_serve refl (not_read _ _ _ _ Memory (λ _. usage) fault c.from_residual.result c.from_residual.ensures.1
    (λ known. words_refused c.args.words.now (g.F.Files.holds c.args.files.now) (c.in_err-request.ensures.usage (ap (λ one. Err one) (only_usage fault known)))))

pub returns-in_err-request-clause-started : goal.returns-in_err-request-clause-started
returns-in_err-request-clause-started g c = starts_none c.args.words.now (g.F.Files.holds c.args.files.now) (g.F.Files.starts c.args.files.now)
