use Rattle.std.proofs.Common.{◌+◌, length, eqb, refl, ap, arith, Err}
use Rattle.lists.proofs.Words.{take_rest}
use Rattle.gds_records.specs.Reading.{Reading, entry_of}
use Rattle.gds_records.proofs.ReadingLaws.{left_at_fault, only_fault, left_at_record}
use Rattle.gds_records.proofs.records.Records.next.Goals as goal

pub returns-in-Err-clause-split : goal.returns-in-Err-clause-split
returns-in-Err-clause-split c = λ entries end.
    let all = take_rest c.self.inside.bytes.now c.self.inside.at in
    let fault = rw all at c.in-Err.ensures.fault in
    rw (← c.self.view_is) (left_at_fault (record { bytes = c.self.inside.bytes.now; at = c.self.inside.at; ended = c.self.inside.ended }) c.in-Err.fault c.if-self.false fault entries end)

pub returns-in-Err-clause-fault : goal.returns-in-Err-clause-fault
returns-in-Err-clause-fault c = λ f.
    let all = take_rest c.self.inside.bytes.now c.self.inside.at in
    let fault = rw all at c.in-Err.ensures.fault in
    let only = only_fault (record { bytes = c.self.inside.bytes.now; at = c.self.inside.at; ended = c.self.inside.ended }) c.in-Err.fault c.if-self.false fault f in
    rw (← c.self.view_is) (λ e. only.0 (cc e), λ h. ap Err (only.1 h))

pub returns-in-Ok-clause-split : goal.returns-in-Ok-clause-split
returns-in-Ok-clause-split c = λ entries end.
    let from : Reading = record { bytes = c.self.inside.bytes.now; at = c.self.inside.at; ended = c.self.inside.ended } in
    let to : Reading = record { bytes = c.self.inside.bytes.now; at = c.self.inside.at + (4 + length c.in-Ok.found.body.now); ended = eqb c.in-Ok.found.kind 4 } in
    let all = take_rest c.self.inside.bytes.now c.self.inside.at in
    let found = rw all at c.in-Ok.ensures.found in
    rw (← c.self.view_is) (left_at_record from to (entry_of c.in-Ok.found) found.after c.if-self.false found.in_profile found.parts refl (omega arith) refl entries end)
