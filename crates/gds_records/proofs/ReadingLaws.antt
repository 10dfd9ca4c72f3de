-- What is left in a reader where it meets a fault, and where it gives a record.
use Rattle.std.proofs.Common.{◌≡◌, ◌↔◌, ℕ, ◌+◌, Bool, false, eqb, List, [], ◌∷◌, ◌++◌, length, drop, refl, sym, ap, subst, ◌∙◌}
use Rattle.lists.proofs.Words.{drop-drop, drop_at}
use Rattle.gds_records.specs.declared.fault.RecordFault.{RecordFault}
use Rattle.gds_records.specs.RecordSpelling.{Entry, spelling}
use Rattle.gds_records.specs.Profile.{IsInProfile}
use Rattle.gds_records.specs.RecordChecks.{IsFaultOf}
use Rattle.gds_records.specs.Split.{End, stops}
use Rattle.gds_records.specs.Reading.{Reading, left_in, IsLeft}
use Rattle.gds_records.proofs.laws.Splits.{fault_splits, splits_agree, GoesOn, first_is}
use Rattle.gds_records.proofs.RecordCheckLaws.{faults_agree}
use Rattle.gds_records.proofs.SplitLaws.{splits_from}

-- where a fault is, it is all that is left
pub left_at_fault : (r : Reading) (f : RecordFault) → r.ended ≡ false → IsFaultOf r.at (left_in r) f → (entries : List Entry) (end : End)
    → (IsLeft r entries end → (entries ≡ []) × (end ≡ stops f)) × ((entries ≡ []) × (end ≡ stops f) → IsLeft r entries end)
left_at_fault r f running fault entries end =
    let here = fault_splits r.at (left_in r) f fault in (
      λ s. splits_agree entries r.at (left_in r) [] end (stops f) (rw running at s) here,
      λ (none, stopped). rw (none, stopped, running) here,
    )

-- and it is the only fault
pub only_fault : (r : Reading) (f : RecordFault) → r.ended ≡ false → IsFaultOf r.at (left_in r) f → (g : RecordFault) → f ≡ g ↔ ((r.ended ≡ false) × IsFaultOf r.at (left_in r) g)
only_fault r f running fault g = (
  λ same. (running, subst (IsFaultOf r.at (left_in r)) same fault),
  λ (runs, other). faults_agree r.at (left_in r) f g fault other,
)

-- what is left behind a record
goes_on : (new : Reading) (at : ℕ) (is_last : Bool) (others : List Entry) (end : End) → new.at ≡ at → new.ended ≡ is_last → GoesOn at (left_in new) is_last others end ↔ IsLeft new others end
goes_on new at is_last others end place last =
    let Here : ℕ → Type 0 = λ a. GoesOn a (left_in new) is_last others end in
    ((λ s. rw last (subst Here (sym place) s)), λ s. subst Here place (rw last at s))

-- the bytes behind a record are those that are left when the reader has moved past it
left_behind : (old new : Reading) (e : Entry) (after : List ℕ) → left_in old ≡ spelling e ++ after → new.bytes ≡ old.bytes → new.at ≡ old.at + length (spelling e)
    → left_in old ≡ spelling e ++ left_in new
left_behind old new e after parts bytes place =
    let n : ℕ = length (spelling e) in
    let left : left_in new ≡ drop (old.at + n) old.bytes = rw (place, bytes) refl in
    let behind : left_in new ≡ after = left ∙ sym (drop-drop n old.at old.bytes) ∙ ap (drop n) parts ∙ drop_at (spelling e) after n refl in
    parts ∙ ap (λ (xs : List ℕ). spelling e ++ xs) (sym behind)

-- where a record is, it is the first of what is left
pub left_at_record : (old new : Reading) (e : Entry) (after : List ℕ) → old.ended ≡ false → IsInProfile e → left_in old ≡ spelling e ++ after
    → new.bytes ≡ old.bytes → new.at ≡ old.at + length (spelling e) → new.ended ≡ eqb e.kind 4 → (entries : List Entry) (end : End)
    → (IsLeft old entries end → (others : List Entry) × (entries ≡ e ∷ others) × IsLeft new others end)
    × ((others : List Entry) × (entries ≡ e ∷ others) × IsLeft new others end → IsLeft old entries end)
left_at_record old new e after running in_profile parts bytes place last entries end =
    let begins = left_behind old new e after parts bytes place in
    let on = λ (others : List Entry). goes_on new (old.at + length (spelling e)) (eqb e.kind 4) others end place last in (
      λ s.
          let first = first_is old.at (left_in old) e (left_in new) entries end in_profile begins (rw running at s) in
          (first.0, first.1, (on first.0).0 first.2),
      λ (others, same, s). rw (same, running) (splits_from old.at (left_in old) e (left_in new) others end in_profile begins ((on others).1 s)),
    )
