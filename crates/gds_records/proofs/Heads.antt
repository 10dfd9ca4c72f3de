-- The head of a record: what is spelled is read, and what is read is spelled so.
use Rattle.std.proofs.Common.{◌≡◌, ℕ, ◌+◌, ◌-◌, ◌/◌, ◌%◌, ◌<◌, ◌≤◌, List, [], ◌∷◌, ◌++◌, length, get_or, take, drop, refl, sym, ap, subst, ◌∙◌, arith}
use Rattle.lists.proofs.Words.{take_at, drop_at, take-append-drop, length-take-le, length-drop, drop-drop, All-take, All-drop}
use Rattle.byteorder.specs.Numbers.{big_number-reads_back}
use Rattle.gds_records.specs.RecordSpelling.{Entry, HasSpelling, spelling}
use Rattle.lists.specs.ByteLists.{IsByte, AreBytes}
use Rattle.gds_records.specs.Profile.{IsInProfile}
use Rattle.gds_records.specs.Table.{IsPermitted}
use Rattle.gds_records.specs.RecordChecks.{length_field, kind_field, form_field}

-- the length in a spelling
pub length_field-spelling : (e : Entry) (rest : List ℕ) → HasSpelling e → length_field (spelling e ++ rest) ≡ length e.body + 4
length_field-spelling e rest h = big_number-reads_back 2 (length e.body + 4) (e.kind ∷ e.form ∷ (e.body ++ rest)) h.fits

-- bytes begin with one record at most
pub spellings_agree : (e o : Entry) (rest others : List ℕ) → HasSpelling e → HasSpelling o → spelling e ++ rest ≡ spelling o ++ others → (e ≡ o) × (rest ≡ others)
spellings_agree e o rest others he ho eq =
    let lens : length e.body + 4 ≡ length o.body + 4 = sym (length_field-spelling e rest he) ∙ ap length_field eq ∙ length_field-spelling o others ho in
    let len : length o.body ≡ length e.body = omega arith in
    let kinds : e.kind ≡ o.kind = ap (λ (xs : List ℕ). get_or xs 2 0) eq in
    let forms : e.form ≡ o.form = ap (λ (xs : List ℕ). get_or xs 3 0) eq in
    let tails : e.body ++ rest ≡ o.body ++ others = ap (λ (xs : List ℕ). drop 4 xs) eq in
    let bodies : e.body ≡ o.body = sym (take_at e.body rest (length e.body) refl) ∙ ap (take (length e.body)) tails ∙ take_at o.body others (length e.body) len in
    let rests : rest ≡ others = sym (drop_at e.body rest (length e.body) refl) ∙ ap (drop (length e.body)) tails ∙ drop_at o.body others (length e.body) len in
    let entry : ℕ → ℕ → List ℕ → Entry = λ k f b. record { kind = k; form = f; body = b } in
    let same : entry e.kind e.form e.body ≡ entry o.kind o.form o.body = cc in
    (same, rests)

-- the record that bytes begin with where its length is n
abbrev pub entry_at : List ℕ → ℕ → Entry
entry_at rest n = record { kind = get_or rest 2 0; form = get_or rest 3 0; body = take (n - 4) (drop 4 rest) }

-- it is in the profile
pub IsInProfile-entry_at : (rest : List ℕ) (n : ℕ) → AreBytes rest → n ≡ length_field rest → 4 ≤ n → n % 2 ≡ 0 → n ≤ length rest
    → IsPermitted (kind_field rest) (form_field rest) (n - 4) → IsInProfile (entry_at rest n)
IsInProfile-entry_at rest n h field counts_head is_even room permitted =
    let len : length (take (n - 4) (drop 4 rest)) ≡ n - 4 = length-take-le (n - 4) (drop 4 rest) (omega (arith, length-drop 4 rest)) in
    let a = h 0 0 (omega arith) in
    let b = h 1 0 (omega arith) in
    record {
      spelled = record {
        kind = h 2 0 (omega arith);
        form = h 3 0 (omega arith);
        body = All-take IsByte (n - 4) (drop 4 rest) (All-drop IsByte 4 rest h);
        even = omega arith;
        fits = omega arith;
      };
      permitted = subst (IsPermitted (kind_field rest) (form_field rest)) (sym len) permitted;
    }

-- and the bytes begin with its spelling
pub spelling-entry_at : (rest : List ℕ) (n : ℕ) → AreBytes rest → n ≡ length_field rest → 4 ≤ n → n ≤ length rest → rest ≡ spelling (entry_at rest n) ++ drop n rest
spelling-entry_at [] n h field counts_head room = absurd (omega arith)
spelling-entry_at (a ∷ []) n h field counts_head room = absurd (omega arith)
spelling-entry_at (a ∷ b ∷ []) n h field counts_head room = absurd (omega arith)
spelling-entry_at (a ∷ b ∷ k ∷ []) n h field counts_head room = absurd (omega arith)
spelling-entry_at (a ∷ b ∷ k ∷ f ∷ more) n h field counts_head room =
    let first : a < 256 = h 0 0 (omega arith) in
    let second : b < 256 = h 1 0 (omega arith) in
    let len : length (take (n - 4) more) ≡ n - 4 = length-take-le (n - 4) more (omega arith) in
    let high : (length (take (n - 4) more) + 4) / 256 % 256 ≡ a = omega arith in
    let low : (length (take (n - 4) more) + 4) % 256 ≡ b = omega arith in
    let behind : take (n - 4) more ++ drop (n - 4) more ≡ more = take-append-drop (n - 4) more in
    let counts : 4 + (n - 4) ≡ n = omega arith in
    let there : drop n (a ∷ b ∷ k ∷ f ∷ more) ≡ drop (n - 4) more = ap (λ (m : ℕ). drop m (a ∷ b ∷ k ∷ f ∷ more)) (sym counts) ∙ sym (drop-drop (n - 4) 4 (a ∷ b ∷ k ∷ f ∷ more)) in
    rw (high, low, there, behind) refl
