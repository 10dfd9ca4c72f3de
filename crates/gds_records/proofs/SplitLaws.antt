-- a whole split with bytes behind it, and a stream that is cut
use Rattle.std.proofs.Common.{◌≡◌, ◌≢◌, ℕ, ◌+◌, inl, inr, eqb, List, [], ◌∷◌, ◌++◌, length, refl, sym, ap, ◌∙◌, arith, append_assoc, length-append}
use Rattle.lists.proofs.Words.{cases_Bool, eqb-true, eqb-false}
use Rattle.gds_records.specs.RecordSpelling.{Entry, spelling, spellings}
use Rattle.gds_records.specs.Profile.{IsInProfile}
use Rattle.gds_records.specs.Split.{End, whole, Splits}
use Rattle.gds_records.proofs.laws.Splits.{GoesOn, endlib_splits, more_splits, splits_agree}

-- the split of bytes that begin with a record, in both directions
pub splits_from : (offset : ℕ) (bytes : List ℕ) (e : Entry) (after : List ℕ) (others : List Entry) (end : End) → IsInProfile e → bytes ≡ spelling e ++ after
    → GoesOn (offset + length (spelling e)) after (eqb e.kind 4) others end → Splits offset bytes (e ∷ others) end
splits_from offset bytes e after others end in_profile begins goes = elim (cases_Bool (eqb e.kind 4)) [
  | inl t ↦
      let h = rw t at goes in
      rw (h.0, h.1) (endlib_splits offset bytes e after in_profile (eqb-true e.kind 4 t) begins)
  | inr f ↦ more_splits offset bytes e after others end in_profile (eqb-false e.kind 4 f) begins (rw f at goes)
]

-- ---- bytes behind ENDLIB

pub padded_splits : (offset : ℕ) (bytes padding : List ℕ) (entries : List Entry) → Splits offset bytes entries whole → Splits offset (bytes ++ padding) entries whole
padded_splits offset bytes padding entries s =
    record { rest = s.rest ++ padding; joined = ap (λ (x : List ℕ). x ++ padding) s.joined ∙ append_assoc (spellings entries) s.rest padding; each = s.each; ends = s.ends }

-- the records of a whole stream are no longer whole where bytes are lost at the end
pub cut_is_not_whole : (offset : ℕ) (front lost : List ℕ) (entries others : List Entry) → lost ≢ [] → front ++ lost ≡ spellings entries
    → Splits offset (front ++ lost) entries whole → Splits offset front others whole → ⊥
cut_is_not_whole offset front [] entries others some joined s t = some refl
cut_is_not_whole offset front (b ∷ lost) entries others some joined s t =
    let same : entries ≡ others = (splits_agree entries offset (front ++ b ∷ lost) others whole whole s (padded_splits offset front (b ∷ lost) others t)).0 in
    let again : front ≡ spellings entries ++ t.rest = t.joined ∙ ap (λ (x : List Entry). spellings x ++ t.rest) (sym same) in
    let longer : length front ≡ length (spellings entries) + length t.rest = ap length again ∙ length-append (spellings entries) t.rest in
    let shorter : length front + length (b ∷ lost) ≡ length (spellings entries) = sym (length-append front (b ∷ lost)) ∙ ap length joined in
    omega arith
