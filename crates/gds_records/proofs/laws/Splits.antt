-- Bytes split into records, and in one way alone.
use Rattle.std.proofs.Common.{add-zero, ◌≡◌, ℕ, zero, suc, ◌+◌, ◌<◌, ◌⊎◌, inl, inr, Bool, eqb, List, [], ◌∷◌, ◌++◌, length, drop, All, refl, sym, ap, subst, ◌∙◌, arith, append_assoc, length-append}
use Rattle.lists.proofs.Words.{cases_Bool, eqb-true, eqb-false, eq-eqb, ne_eqb, All-nil, All-cons, All-head, All-tail, All-drop}
use Rattle.std.specs.Prelude.{MatchBool}
use Rattle.std.proofs.lemmas.List.{append_cancel_left}
use Rattle.gds_records.specs.declared.fault.RecordFault.{RecordFault}
use Rattle.gds_records.specs.RecordSpelling.{Entry, IsEndlib, IsNoEndlib, spelling, spellings}
use Rattle.lists.specs.ByteLists.{IsByte, AreBytes}
use Rattle.gds_records.specs.Profile.{IsInProfile}
use Rattle.gds_records.specs.RecordChecks.{IsFaultOf}
use Rattle.gds_records.specs.Split.{End, whole, stops, EndsWithEndlib, IsEnd, Splits, HasSplit}
use Rattle.gds_records.proofs.RecordCheckLaws.{records_have_no_fault, faults_agree, record_or_fault}
use Rattle.gds_records.proofs.Heads.{spellings_agree}

-- ENDLIB is the last of some records
nothing_ends : EndsWithEndlib [] → ⊥
nothing_ends e = let parts : [] ≡ e.before ++ e.last ∷ [] = e.parts in omega (arith, ap length parts, length-append e.before (e.last ∷ []))

-- a split without records ends with the fault of the bytes
pub nothing_splits : (offset : ℕ) (bytes : List ℕ) (end : End) → Splits offset bytes [] end → (f : RecordFault) × (end ≡ stops f) × IsFaultOf offset bytes f
nothing_splits offset bytes whole s = absurd (nothing_ends s.ends)
nothing_splits offset bytes (stops f) s =
    let here : offset + 0 ≡ offset = add-zero offset in
    (f, refl, subst (λ (o : ℕ). IsFaultOf o bytes f) here (subst (λ (r : List ℕ). IsFaultOf (offset + 0) r f) (sym s.joined) s.ends.1))

-- bytes with a fault split into no records
pub fault_splits : (offset : ℕ) (bytes : List ℕ) (f : RecordFault) → IsFaultOf offset bytes f → Splits offset bytes [] (stops f)
fault_splits offset bytes f fault =
    record { rest = bytes; joined = refl; each = All-nil IsInProfile; ends = (All-nil IsNoEndlib, subst (λ (o : ℕ). IsFaultOf o bytes f) (sym (add-zero offset)) fault) }

-- what comes behind a first record: nothing behind ENDLIB, and else the split of the bytes behind it
abbrev pub GoesOn : ℕ → List ℕ → Bool → List Entry → End → Type 0
GoesOn offset after is_last others end = MatchBool is_last ((others ≡ []) × (end ≡ whole)) (Splits offset after others end)

-- the first record of a list that ends with ENDLIB is ENDLIB, or the others end so
ends_on : (e : Entry) (others : List Entry) (before : List Entry) (last : Entry) → e ∷ others ≡ before ++ last ∷ [] → All IsNoEndlib before → IsEndlib last
    → (IsEndlib e × (others ≡ [])) ⊎ (IsNoEndlib e × EndsWithEndlib others)
ends_on e others [] last parts none is_last =
    let first : e ≡ last = cc in
    inl (ap (λ (x : Entry). x.kind) first ∙ is_last, cc)
ends_on e others (b ∷ before) last parts none is_last =
    let first : b ≡ e = cc in
    let rest : others ≡ before ++ last ∷ [] = cc in
    inr (subst IsNoEndlib first (All-head IsNoEndlib b before none), record { before = before; last = last; parts = rest; none_before = All-tail IsNoEndlib b before none; is_endlib = is_last })

offset_on : (offset : ℕ) (e : Entry) (others : List Entry) → offset + length (spellings (e ∷ others)) ≡ offset + length (spelling e) + length (spellings others)
offset_on offset e others = omega (arith, length-append (spelling e) (spellings others))

-- the bytes behind the first record
behind : (bytes : List ℕ) (e : Entry) (after : List ℕ) (others : List Entry) (rest : List ℕ) → bytes ≡ spelling e ++ after → bytes ≡ spellings (e ∷ others) ++ rest → after ≡ spellings others ++ rest
behind bytes e after others rest begins joined =
    append_cancel_left (spelling e) after (spellings others ++ rest) (sym begins ∙ joined ∙ append_assoc (spelling e) (spellings others) rest)

-- a split behind its first record
pub splits_on : (offset : ℕ) (bytes : List ℕ) (e : Entry) (after : List ℕ) (others : List Entry) (end : End) → bytes ≡ spelling e ++ after
    → Splits offset bytes (e ∷ others) end → GoesOn (offset + length (spelling e)) after (eqb e.kind 4) others end
splits_on offset bytes e after others whole begins s =
    let joined = behind bytes e after others s.rest begins s.joined in
    elim (ends_on e others s.ends.before s.ends.last s.ends.parts s.ends.none_before s.ends.is_endlib) [
      | inl is_last ↦ rw (eq-eqb e.kind 4 is_last.0) (is_last.1, refl)
      | inr goes ↦ rw (ne_eqb e.kind 4 goes.0) (record { rest = s.rest; joined = joined; each = All-tail IsInProfile e others s.each; ends = goes.1 })
    ]
splits_on offset bytes e after others (stops f) begins s =
    let joined = behind bytes e after others s.rest begins s.joined in
    let is_none : IsNoEndlib e = All-head IsNoEndlib e others s.ends.0 in
    rw (ne_eqb e.kind 4 is_none)
    (record {
      rest = s.rest;
      joined = joined;
      each = All-tail IsInProfile e others s.each;
      ends =
          (All-tail IsNoEndlib e others s.ends.0, subst (λ (o : ℕ). IsFaultOf o s.rest f) (offset_on offset e others) s.ends.1);
    })

-- a record before a split
joined_on : (bytes : List ℕ) (e : Entry) (after : List ℕ) (others : List Entry) (rest : List ℕ) → bytes ≡ spelling e ++ after → after ≡ spellings others ++ rest
    → bytes ≡ spellings (e ∷ others) ++ rest
joined_on bytes e after others rest begins joined =
    begins ∙ ap (λ (x : List ℕ). spelling e ++ x) joined ∙ sym (append_assoc (spelling e) (spellings others) rest)

ends_behind : (offset : ℕ) (e : Entry) (others : List Entry) (rest : List ℕ) (end : End) → IsNoEndlib e → IsEnd others (offset + length (spelling e) + length (spellings others)) rest end
    → IsEnd (e ∷ others) (offset + length (spellings (e ∷ others))) rest end
ends_behind offset e others rest whole none ends = record {
  before = e ∷ ends.before;
  last = ends.last;
  parts = ap (λ (x : List Entry). e ∷ x) ends.parts;
  none_before = All-cons IsNoEndlib e ends.before none ends.none_before;
  is_endlib = ends.is_endlib;
}
ends_behind offset e others rest (stops f) none ends =
    (All-cons IsNoEndlib e others none ends.0, subst (λ (o : ℕ). IsFaultOf o rest f) (sym (offset_on offset e others)) ends.1)

pub more_splits : (offset : ℕ) (bytes : List ℕ) (e : Entry) (after : List ℕ) (others : List Entry) (end : End) → IsInProfile e → IsNoEndlib e → bytes ≡ spelling e ++ after
    → Splits (offset + length (spelling e)) after others end → Splits offset bytes (e ∷ others) end
more_splits offset bytes e after others end in_profile is_none begins s =
    record {
      rest = s.rest;
      joined = joined_on bytes e after others s.rest begins s.joined;
      each = All-cons IsInProfile e others in_profile s.each;
      ends = ends_behind offset e others s.rest end is_none s.ends;
    }

pub endlib_splits : (offset : ℕ) (bytes : List ℕ) (e : Entry) (after : List ℕ) → IsInProfile e → IsEndlib e → bytes ≡ spelling e ++ after → Splits offset bytes (e ∷ []) whole
endlib_splits offset bytes e after in_profile is_last begins =
    record {
      rest = after;
      joined = joined_on bytes e after [] after begins refl;
      each = All-cons IsInProfile e [] in_profile (All-nil IsInProfile);
      ends = record { before = []; last = e; parts = refl; none_before = All-nil IsNoEndlib; is_endlib = is_last };
    }

pub first_is : (offset : ℕ) (bytes : List ℕ) (e : Entry) (after : List ℕ) (entries : List Entry) (end : End) → IsInProfile e → bytes ≡ spelling e ++ after
    → Splits offset bytes entries end → (others : List Entry) × (entries ≡ e ∷ others) × GoesOn (offset + length (spelling e)) after (eqb e.kind 4) others end
first_is offset bytes e after [] end in_profile begins s =
    let fault = nothing_splits offset bytes end s in
    absurd (records_have_no_fault offset e after fault.0 in_profile (subst (λ (b : List ℕ). IsFaultOf offset b fault.0) begins fault.2))
first_is offset bytes e after (o ∷ others) end in_profile begins s =
    let joined : spelling e ++ after ≡ spelling o ++ (spellings others ++ s.rest) = sym begins ∙ s.joined ∙ append_assoc (spelling o) (spellings others) s.rest in
    let same : e ≡ o = (spellings_agree e o after (spellings others ++ s.rest) in_profile.spelled (All-head IsInProfile o others s.each).spelled joined).0 in
    (others, ap (λ (x : Entry). x ∷ others) (sym same), splits_on offset bytes e after others end begins (subst (λ (x : Entry). Splits offset bytes (x ∷ others) end) (sym same) s))

pub splits_agree : (entries : List Entry) (offset : ℕ) (bytes : List ℕ) (others : List Entry) (end other : End) → Splits offset bytes entries end → Splits offset bytes others other
    → (entries ≡ others) × (end ≡ other)
splits_agree [] offset bytes [] end other s t =
    let f = nothing_splits offset bytes end s in
    let g = nothing_splits offset bytes other t in
    (refl, f.1 ∙ ap (λ (x : RecordFault). stops x) (faults_agree offset bytes f.0 g.0 f.2 g.2) ∙ sym g.1)
splits_agree [] offset bytes (o ∷ others) end other s t =
    let f = nothing_splits offset bytes end s in
    let begins : bytes ≡ spelling o ++ (spellings others ++ t.rest) = t.joined ∙ append_assoc (spelling o) (spellings others) t.rest in
    absurd (records_have_no_fault offset o (spellings others ++ t.rest) f.0 (All-head IsInProfile o others t.each) (subst (λ (b : List ℕ). IsFaultOf offset b f.0) begins f.2))
splits_agree (e ∷ entries) offset bytes others end other s t =
    let begins : bytes ≡ spelling e ++ (spellings entries ++ s.rest) = s.joined ∙ append_assoc (spelling e) (spellings entries) s.rest in
    let first = first_is offset bytes e (spellings entries ++ s.rest) others other (All-head IsInProfile e entries s.each) begins t in
    let mine = splits_on offset bytes e (spellings entries ++ s.rest) entries end begins s in
    elim (cases_Bool (eqb e.kind 4)) [
      | inl t ↦
          let one = rw t at mine in
          let also = rw t at first.2 in
          (ap (λ (x : List Entry). e ∷ x) (one.0 ∙ sym also.0) ∙ sym first.1, one.1 ∙ sym also.1)
      | inr f ↦
          let both = splits_agree entries (offset + length (spelling e)) (spellings entries ++ s.rest) first.0 end other (rw f at mine) (rw f at first.2) in
          (ap (λ (x : List Entry). e ∷ x) both.0 ∙ sym first.1, both.1)
    ]

pub has_split : (fuel offset : ℕ) (bytes : List ℕ) → length bytes < fuel → AreBytes bytes → HasSplit offset bytes
has_split zero offset bytes lt h = absurd (omega arith)
has_split (suc fuel) offset bytes lt h =
    elim (record_or_fault offset bytes h) [
      | inl (n, e, in_profile, begins) ↦
          let shorter : length (drop n bytes) < fuel = omega (arith, ap length begins, length-append (spelling e) (drop n bytes)) in
          let behind = has_split fuel (offset + length (spelling e)) (drop n bytes) shorter (All-drop IsByte n bytes h) in
          elim (cases_Bool (eqb e.kind 4)) [
            | inl t ↦ (e ∷ [], whole, endlib_splits offset bytes e (drop n bytes) in_profile (eqb-true e.kind 4 t) begins)
            | inr f ↦ (e ∷ behind.0, behind.1, more_splits offset bytes e (drop n bytes) behind.0 behind.1 in_profile (eqb-false e.kind 4 f) begins behind.2)
          ]
      | inr (f, fault) ↦ ([], stops f, fault_splits offset bytes f fault)
    ]

-- bytes split
pub all_bytes_split : (offset : ℕ) (bytes : List ℕ) → AreBytes bytes → HasSplit offset bytes
all_bytes_split offset bytes h = has_split (suc (length bytes)) offset bytes (omega arith) h
