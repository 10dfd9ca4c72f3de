-- Each body has a text.
use Rattle.std.proofs.Common.{◌≡◌, ◌≢◌, ℕ, zero, suc, List, [], ◌∷◌, ◌++◌, refl, ap, arith}
use Rattle.lists.proofs.Words.{All-nil, All-cons, All-head, All-tail}
use Rattle.library_grammar.specs.GrammarNames.{IsText, IsByte, AreBytes}

-- an empty list has no item
pub no_item : {A : Type 0} (front after : List A) (x : A) → [] ≡ front ++ x ∷ after → ⊥
no_item [] after x same = cc same
no_item (f ∷ front) after x same = cc same

-- a text with one more byte in front
with_byte : (b : ℕ) (body text : List ℕ) → ((front : List ℕ) → b ∷ text ≢ front ++ 0 ∷ []) → IsText body text → IsText (b ∷ body) (b ∷ text)
with_byte b body text ends is = record { zeros = is.zeros; parts = ap (λ (x : List ℕ). b ∷ x) is.parts; each_zero = is.each_zero; no_zero_last = ends }

-- it ends as the text does, or is the byte alone
ends_so : (b c : ℕ) (text : List ℕ) → ((front : List ℕ) → c ∷ text ≢ front ++ 0 ∷ []) → (front : List ℕ) → b ∷ c ∷ text ≢ front ++ 0 ∷ []
ends_so b c text none [] same = cc same
ends_so b c text none (f ∷ front) same = let others : c ∷ text ≡ front ++ 0 ∷ [] = cc in none front others

alone : (b : ℕ) → b ≢ 0 → (front : List ℕ) → b ∷ [] ≢ front ++ 0 ∷ []
alone b some [] same = let is_zero : b ≡ 0 = cc in some is_zero
alone b some (f ∷ front) same = no_item front [] 0 (cc same)

-- zero bytes alone
no_byte : (body : List ℕ) → IsText body [] → IsText (0 ∷ body) []
no_byte body is = record {
  zeros = 0 ∷ is.zeros;
  parts = ap (λ (x : List ℕ). 0 ∷ x) is.parts;
  each_zero = All-cons (λ b. b ≡ 0) 0 is.zeros refl is.each_zero;
  no_zero_last = λ front. no_item front [] 0;
}

-- a text of a body, of bytes
pub record HasText (body : List ℕ) : Type 0 where
  pub text : List ℕ
  pub is_text : IsText body text
  pub are_bytes : AreBytes text

one_more_byte : (b : ℕ) (body text : List ℕ) → IsByte b → IsText body text → AreBytes text → HasText (b ∷ body)
one_more_byte b body (c ∷ text) is_byte is are =
    record { text = b ∷ c ∷ text; is_text = with_byte b body (c ∷ text) (ends_so b c text is.no_zero_last) is; are_bytes = All-cons IsByte b (c ∷ text) is_byte are }
one_more_byte zero body [] is_byte is are = record { text = []; is_text = no_byte body is; are_bytes = All-nil IsByte }
one_more_byte (suc b) body [] is_byte is are =
    record { text = suc b ∷ []; is_text = with_byte (suc b) body [] (alone (suc b) (λ same. omega arith)) is; are_bytes = All-cons IsByte (suc b) [] is_byte are }

pub text_there : (body : List ℕ) → AreBytes body → HasText body
text_there [] are = record {
  text = [];
  is_text = record { zeros = []; parts = refl; each_zero = All-nil (λ b. b ≡ 0); no_zero_last = λ front. no_item front [] 0 };
  are_bytes = All-nil IsByte;
}
text_there (b ∷ body) are =
    let rest = text_there body (All-tail IsByte b body are) in
    one_more_byte b body rest.text (All-head IsByte b body are) rest.is_text rest.are_bytes
