use Rattle.std.proofs.Common.{◌≡◌, ◌-◌, ◌%◌, [], ◌∷◌, drop, refl, arith}
use Rattle.lists.proofs.Words.{iff_false}
use Rattle.gds_records.specs.RecordChecks.{kind_field, form_field, head_is_there, length_counts_head, length_is_even, body_is_there, form_is_listed, size_is_permitted}
use Rattle.gds_records.proofs.TableLaws.{not_permitted}
use Rattle.gds_records.proofs.laws.Bodies.{bytes_are_bytes}
use Rattle.gds_records.proofs.Heads.{IsInProfile-entry_at, spelling-entry_at}
use Rattle.gds_records.proofs.RecordCheckLaws.{fault_behind}
use Rattle.gds_records.proofs.records.record_at.Goals.{then-len-lt4-via-then-len-lt4, then-len-lt4-via-else-len-lt4+then-len-eq1}
use Rattle.gds_records.proofs.records.record_at.Goals as goal

pub returns-then-rest-lt-HEAD-clause-fault : goal.returns-then-rest-lt-HEAD-clause-fault
returns-then-rest-lt-HEAD-clause-fault c =
    let short = c.if-rest-lt-HEAD.true in fault_behind c.args.at c.args.rest.now [] head_is_there _ refl tt (λ h. omega arith)

pub returns-then-len-lt4-clause-fault : goal.returns-then-len-lt4-clause-fault
returns-then-len-lt4-clause-fault c =
    let rest = c.args.rest.now in
    let field = c.read_u16-len.ensures in
    let head = c.if-rest-lt-HEAD.false in
    elim c.then-len-lt4.branch [
      | then-len-lt4-via-then-len-lt4 w ↦
          let low = w.if-len-lt4.true in rw field (fault_behind c.args.at rest (head_is_there ∷ []) length_counts_head _ refl (head, tt) (λ h. omega arith))
      | then-len-lt4-via-else-len-lt4+then-len-eq1 w ↦
          rw field (fault_behind c.args.at rest (head_is_there ∷ length_counts_head ∷ []) length_is_even _ refl (head, (omega arith, tt)) (λ h. omega arith))
    ]

pub returns-then-rest-end-clause-fault : goal.returns-then-rest-end-clause-fault
returns-then-rest-end-clause-fault c =
    fault_behind c.args.at c.args.rest.now (head_is_there ∷ length_counts_head ∷ length_is_even ∷ []) body_is_there _ refl
    (c.if-rest-lt-HEAD.false, (omega arith, (omega arith, tt))) (λ h. omega arith)

pub returns-in_default-clause-fault : goal.returns-in_default-clause-fault
returns-in_default-clause-fault c =
    fault_behind c.args.at c.args.rest.now (head_is_there ∷ length_counts_head ∷ length_is_even ∷ body_is_there ∷ []) form_is_listed _ refl
    (c.if-rest-lt-HEAD.false, (omega arith, (omega arith, (omega arith, tt)))) c.in_default.ensures.none

pub returns-then-not-takes_size-clause-fault : goal.returns-then-not-takes_size-clause-fault
returns-then-not-takes_size-clause-fault c =
    let rest = c.args.rest.now in
    let field = c.read_u16-len.ensures in
    let is = c.in-Some.ensures.some in
    let refused = not_permitted (kind_field rest) (form_field rest) (c.read_u16-len.result - 4) c.in-Some.rule is (iff_false c.takes_size.ensures c.if-not-takes_size.true) in
    fault_behind c.args.at rest (head_is_there ∷ length_counts_head ∷ length_is_even ∷ body_is_there ∷ form_is_listed ∷ []) size_is_permitted _ refl
    (c.if-rest-lt-HEAD.false, (omega arith, (omega arith, (omega arith, ((c.in-Some.rule, is), tt))))) (rw field at refused)

pub returns-clause-found : goal.returns-clause-found
returns-clause-found c =
    let rest = c.args.rest.now in
    let n = c.read_u16-len.result in
    let bytes = bytes_are_bytes rest (λ i. omega (arith, c.type_inv.rest i)) in
    let even : n % 2 ≡ 0 = omega arith in
    record {
      place = refl;
      in_profile = IsInProfile-entry_at rest n bytes c.read_u16-len.ensures c.if-len-lt4.false even c.if-rest-end.false
          (c.in-Some.rule, c.in-Some.ensures.some, c.takes_size.ensures.0 c.if-not-takes_size.false);
      after = drop n rest;
      parts = spelling-entry_at rest n bytes c.read_u16-len.ensures c.if-len-lt4.false c.if-rest-end.false;
    }
