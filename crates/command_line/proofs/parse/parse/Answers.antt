use Rattle.std.proofs.Common.{◌∙◌, ap, ap₂}
use Rattle.lists.proofs.Words.{IfErr-weaker, IfOk-weaker}
use Rattle.clap.specs.Words.{is_simple, takes, matches_of}
use Rattle.command_line.proofs.MatchLaws.{simple, taken, have}
use Rattle.command_line.proofs.parse.parse.Goals as goal

pub returns-clause-matches : goal.returns-clause-matches
returns-clause-matches c given single words_are =
    let command = c.in_ok-command.ensures in
    IfOk-weaker c.try_get_matches_from.result _ _ (λ matches has. have matches given single ((has (ap is_simple command ∙ simple)).0 ∙ ap₂ matches_of command words_are))
    c.try_get_matches_from.ensures.matches

pub returns-clause-memory : goal.returns-clause-memory
returns-clause-memory c given single words_are =
    let command = c.in_ok-command.ensures in
    IfErr-weaker c.try_get_matches_from.result _ _ (λ error passes. passes (ap₂ takes command words_are ∙ taken given single)) c.try_get_matches_from.ensures.passes
