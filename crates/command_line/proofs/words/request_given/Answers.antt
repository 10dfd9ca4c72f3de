use Rattle.std.proofs.Common.{◌∙◌, ap, map, string_bytes}
use Rattle.lists.proofs.Words.{IfErr-weaker, IfOk-weaker}
use Rattle.command_line.specs.inside.Arguments.{given_by}
use Rattle.command_line.specs.inside.Command.{positions_found, values_found}
use Rattle.command_line.specs.Requests.{values_of}
use Rattle.command_line.proofs.AskLaws.{refusal_moved, request_moved}
use Rattle.command_line.proofs.words.request_given.Goals as goal

pub returns-in-Ok-clause-request : goal.returns-in-Ok-clause-request
returns-in-Ok-clause-request c =
    let given = given_by c.args.arguments.now in
    let found = c.in-Ok.ensures.matches given c.requires (ap (map string_bytes) c.as_slice.ensures.value ∙ c.in_ok-words.ensures) in
    IfOk-weaker c.request_of.result _ _
    (request_moved (values_found c.in-Ok.matches) (values_of given.options) (positions_found c.in-Ok.matches) given.positions found.values found.positions) c.request_of.ensures.request

pub returns-in-Ok-clause-cause : goal.returns-in-Ok-clause-cause
returns-in-Ok-clause-cause c =
    let given = given_by c.args.arguments.now in
    let found = c.in-Ok.ensures.matches given c.requires (ap (map string_bytes) c.as_slice.ensures.value ∙ c.in_ok-words.ensures) in
    IfErr-weaker c.request_of.result _ _
    (refusal_moved (values_found c.in-Ok.matches) (values_of given.options) (positions_found c.in-Ok.matches) given.positions found.values found.positions) c.request_of.ensures.cause

pub unreachable-requires : goal.unreachable-requires
unreachable-requires c =
    let memory = c.in-Err.ensures.memory (given_by c.args.arguments.now) c.requires (ap (map string_bytes) c.as_slice.ensures.value ∙ c.in_ok-words.ensures) in
    c.in_default.not-OutOfMemory (c.kind.ensures ∙ memory)
