-- how long the text of a body is, and where it ends
use Rattle.std.proofs.Common.{◌≡◌, ◌≢◌, ℕ, suc, ◌+◌, ◌-◌, ◌<◌, ◌≤◌, inl, inr, List, [], ◌∷◌, ◌++◌, length, get_or, take, drop, All, refl, sym, ap, ◌∙◌, arith, take_all, length-append}
use Rattle.lists.proofs.Words.{cases_lt, take_more, length-take-le, take-append-drop, get_or_append_left, get_or-take, get_or_push}
use Rattle.std.proofs.lemmas.List.{get_or-append_right}
use Rattle.gds_records.specs.Fields.{IsText}

-- what ends with an item is what stands before it, and the item
last_of : (xs : List ℕ) (n : ℕ) → suc n ≡ length xs → xs ≡ take n xs ++ get_or xs n 0 ∷ []
last_of xs n len =
    let lt : n < length xs = omega arith in
    let more = take_more xs n 0 lt in
    let all = take_all (n + 1) xs (omega arith) in
    sym all ∙ more

-- no text is longer than another: its last byte would be among the zero bytes
pub no_longer : (body text other : List ℕ) → IsText body text → IsText body other → length other ≤ length text
no_longer body text other t o =
    elim (cases_lt (length text) (length other)) [
      | inr le ↦ le
      | inl longer ↦
          let is_last : suc (length other - 1) ≡ length other = omega arith in
          let in_other : get_or body (length other - 1) 0 ≡ get_or other (length other - 1) 0 = ap (λ (xs : List ℕ). get_or xs (length other - 1) 0) o.parts
          ∙ get_or_append_left other o.zeros 0 (length other - 1) (omega arith) in
          let in_zeros : get_or body (length other - 1) 0 ≡ get_or t.zeros (length other - 1 - length text) 0 = ap (λ (xs : List ℕ). get_or xs (length other - 1) 0) t.parts
          ∙ get_or-append_right text t.zeros (length text) (length other - 1) 0 refl (omega arith) in
          let long : length other + length o.zeros ≡ length text + length t.zeros = sym (length-append other o.zeros) ∙ ap length (sym o.parts ∙ t.parts) ∙ length-append text t.zeros in
          let is_zero : get_or t.zeros (length other - 1 - length text) 0 ≡ 0 = t.each_zero (length other - 1 - length text) 0 (omega arith) in
          let zero_last : get_or other (length other - 1) 0 ≡ 0 = sym in_other ∙ in_zeros ∙ is_zero in
          absurd (o.no_zero_last (take (length other - 1) other) (last_of other (length other - 1) is_last ∙ ap (λ (b : ℕ). take (length other - 1) other ++ b ∷ []) zero_last))
    ]

-- what is left before zero bytes, where it ends with none
pub front_is_text : (body : List ℕ) (n : ℕ) → n ≤ length body → All (λ b. b ≡ 0) (drop n body) → (0 < n → get_or body (n - 1) 0 ≢ 0) → IsText body (take n body)
front_is_text body n room zeros last =
    record {
      zeros = drop n body;
      parts = sym (take-append-drop n body);
      each_zero = zeros;
      no_zero_last = λ front e.
          let len : n ≡ length front + 1 = sym (length-take-le n body room) ∙ ap length e ∙ length-append front (0 ∷ []) in
          let at_end : get_or (take n body) (length front) 0 ≡ 0 = ap (λ (xs : List ℕ). get_or xs (length front) 0) e ∙ get_or_push front 0 0 (length front) refl in
          let here : n - 1 ≡ length front = omega arith in
          last (omega arith) (ap (λ (k : ℕ). get_or body k 0) here ∙ sym (get_or-take n body (length front) 0 (omega arith)) ∙ at_end);
    }
