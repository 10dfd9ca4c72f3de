-- What the body of a record holds: numbers of equal width, or a text.
use Rattle.std.specs.Prelude.{◌≡◌, ◌≢◌, ℕ, ◌+◌, ◌*◌, ◌≤◌, List, [], ◌∷◌, ◌++◌, length, drop, All}
use Rattle.byteorder.specs.Endian.{big_number}

-- the body has an item k, counted from 0, where each item has n bytes
abbrev pub HasItem : ℕ → ℕ → List ℕ → Type 0
HasItem n k body = n * k + n ≤ length body

-- the number in item k, where each item has n bytes, the highest first
abbrev pub item : ℕ → ℕ → List ℕ → ℕ
item n k body = big_number n (drop (n * k) body)

-- the text in a body: all of it but the zero bytes at its end
pub record IsText (body text : List ℕ) : Type 0 where
  pub zeros : List ℕ
  pub parts : body ≡ text ++ zeros
  pub each_zero : All (λ b. b ≡ 0) zeros
  pub no_zero_last : (front : List ℕ) → text ≢ front ++ 0 ∷ []

-- a body has one text
abbrev pub TextsAgree : List ℕ → Type 0
TextsAgree body = (text other : List ℕ) → IsText body text → IsText body other → text ≡ other
