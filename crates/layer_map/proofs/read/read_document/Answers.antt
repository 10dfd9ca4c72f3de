use Rattle.std.proofs.Common.{◌≡◌, ◌∙◌, None, Some, sym}
use Rattle.first_refusal.specs.Answers.{gives, no_memory, refuses}
use Rattle.first_refusal.specs.Outcomes.{lacks, reads}
use Rattle.layer_map.proofs.read.read_document.Goals as goal

pub returns-in-Ok : goal.returns-in-Ok
returns-in-Ok c = gives (reads (record { is_text = c.in-Ok.ensures.ok.0; parsed = c.in-Ok.ensures.ok.1 }))

pub returns-then-is_memory : goal.returns-then-is_memory
returns-then-is_memory c = no_memory

pub returns-else-is_memory : goal.returns-else-is_memory
returns-else-is_memory c = refuses (lacks (λ document is.
    let none = c.in-Err.ensures.refused (λ memory. cc (c.is_memory.ensures.1 memory, c.if-is_memory.false)) is.is_text in
    let e : None ≡ Some document = sym none ∙ is.parsed in
    cc e))
