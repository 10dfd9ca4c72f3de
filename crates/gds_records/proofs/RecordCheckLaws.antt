-- Bytes have one fault at most. They begin with a record, and then have none, or they have a fault.
use Rattle.std.proofs.Common.{◌≡◌, ℕ, ◌%◌, ◌⊎◌, inl, inr, ◌-◌, List, ◌++◌, ◌∷◌, length, drop, All, refl, subst, arith, length-append}
use Rattle.lists.proofs.Words.{cases_lt, All-from_recursion}
use Rattle.std.specs.List.{AllByRecursion}
use Rattle.first_refusal.proofs.CheckLaws.{all_hold_or_one_fails, first_refusals_agree}
use Rattle.gds_records.specs.declared.fault.RecordFault.{RecordFault}
use Rattle.gds_records.specs.RecordSpelling.{Entry, spelling}
use Rattle.lists.specs.ByteLists.{AreBytes}
use Rattle.gds_records.specs.Profile.{IsInProfile}
use Rattle.gds_records.specs.Table.{IsPermitted}
use Rattle.gds_records.specs.RecordChecks.{length_field, kind_field, form_field, RecordCheck, head_is_there, length_counts_head, length_is_even, body_is_there, form_is_listed, size_is_permitted}
use Rattle.gds_records.specs.RecordChecks.{record_checks, Holds, fault_at, IsFaultOf}
use Rattle.gds_records.proofs.Heads.{length_field-spelling, IsInProfile-entry_at, entry_at, spelling-entry_at}
use Rattle.gds_records.proofs.TableLaws.{listed_or_not, permitted_or_not}

-- bytes have one fault at most
pub faults_agree : (offset : ℕ) (rest : List ℕ) (f g : RecordFault) → IsFaultOf offset rest f → IsFaultOf offset rest g → f ≡ g
faults_agree offset rest f g one other =
    first_refusals_agree (Holds rest) record_checks (fault_at offset rest) f g one other

-- each check holds of bytes that begin with a record, and so these have no fault
holds_of_record : (e : Entry) (rest : List ℕ) → IsInProfile e → (check : RecordCheck) → Holds (spelling e ++ rest) check
holds_of_record e rest h head_is_there = omega arith
holds_of_record e rest h length_counts_head = omega (arith, length_field-spelling e rest h.spelled)
holds_of_record e rest h length_is_even = omega (arith, length_field-spelling e rest h.spelled, h.spelled.even)
holds_of_record e rest h body_is_there = omega (arith, length_field-spelling e rest h.spelled, length-append e.body rest)
holds_of_record e rest h form_is_listed = (h.permitted.0, h.permitted.1)
holds_of_record e rest h size_is_permitted =
    let size : length e.body ≡ length_field (spelling e ++ rest) - 4 = omega (arith, length_field-spelling e rest h.spelled) in
    subst (IsPermitted e.kind e.form) size h.permitted

pub records_have_no_fault : (offset : ℕ) (e : Entry) (rest : List ℕ) (fault : RecordFault) → IsInProfile e → IsFaultOf offset (spelling e ++ rest) fault → ⊥
records_have_no_fault offset e rest fault h f = f.is_first.fails (holds_of_record e rest h f.check)

-- a check holds or not
holds_or_not : (rest : List ℕ) (check : RecordCheck) → Holds rest check ⊎ (Holds rest check → ⊥)
holds_or_not rest head_is_there = elim (cases_lt (length rest) 4) [ inl less ↦ inr (λ h. omega arith) | inr h ↦ inl h ]
holds_or_not rest length_counts_head = elim (cases_lt (length_field rest) 4) [ inl less ↦ inr (λ h. omega arith) | inr h ↦ inl h ]
holds_or_not rest length_is_even = elim (cases_lt 0 (length_field rest % 2)) [ inl odd ↦ inr (λ h. omega arith) | inr h ↦ inl (omega arith) ]
holds_or_not rest body_is_there = elim (cases_lt (length rest) (length_field rest)) [ inl less ↦ inr (λ h. omega arith) | inr h ↦ inl h ]
holds_or_not rest form_is_listed = listed_or_not (kind_field rest) (form_field rest)
holds_or_not rest size_is_permitted = permitted_or_not (kind_field rest) (form_field rest) (length_field rest - 4)

-- what holds of each of the checks, check by check
holds_of_all : (rest : List ℕ) → All (Holds rest) record_checks → (check : RecordCheck) → Holds rest check
holds_of_all rest all head_is_there = all 0 head_is_there (omega arith)
holds_of_all rest all length_counts_head = all 1 head_is_there (omega arith)
holds_of_all rest all length_is_even = all 2 head_is_there (omega arith)
holds_of_all rest all body_is_there = all 3 head_is_there (omega arith)
holds_of_all rest all form_is_listed = all 4 head_is_there (omega arith)
holds_of_all rest all size_is_permitted = all 5 head_is_there (omega arith)

-- each check holds of bytes, or they have a fault
hold_or_fault : (offset : ℕ) (rest : List ℕ) → ((check : RecordCheck) → Holds rest check) ⊎ ((f : RecordFault) × IsFaultOf offset rest f)
hold_or_fault offset rest =
    elim (all_hold_or_one_fails (Holds rest) (holds_or_not rest) record_checks) [
      | inl all ↦ inl (holds_of_all rest all)
      | inr (check, first) ↦ inr (fault_at offset rest check, record { check = check; is_first = first; is_its_refusal = refl })
    ]

-- bytes begin with a record, or they have a fault
pub record_or_fault : (offset : ℕ) (rest : List ℕ) → AreBytes rest
    → ((n : ℕ) × (e : Entry) × IsInProfile e × (rest ≡ spelling e ++ drop n rest)) ⊎ ((f : RecordFault) × IsFaultOf offset rest f)
record_or_fault offset rest bytes =
    elim (hold_or_fault offset rest) [
      | inl holds ↦
          let n : ℕ = length_field rest in
          let counts_head = holds length_counts_head in
          let room = holds body_is_there in
          inl (n, entry_at rest n, IsInProfile-entry_at rest n bytes refl counts_head (holds length_is_even) room (holds size_is_permitted), spelling-entry_at rest n bytes refl counts_head room)
      | inr fault ↦ inr fault
    ]

-- the fault of bytes where the checks before one hold, and that one fails
pub fault_behind : (offset : ℕ) (rest : List ℕ) (before : List RecordCheck) (check : RecordCheck) (behind : List RecordCheck) → record_checks ≡ before ++ check ∷ behind
    → AllByRecursion (Holds rest) before → (Holds rest check → ⊥) → IsFaultOf offset rest (fault_at offset rest check)
fault_behind offset rest before check behind parts holds fails = record {
  check = check;
  is_first = record { before = before; after = behind; parts = parts; all_before = All-from_recursion (Holds rest) before holds; fails = fails };
  is_its_refusal = refl;
}
