-- The numbers in bodies of bytes fit their widths.
use Rattle.std.proofs.Common.{inl, inr, ℕ, ℤ, pos, ◌*◌, ◌<◌, ◌^◌, List, length, drop, All, Option, Some, None, option_map, arith, unwrap_or, FitsSigned, w16, w32}
use Rattle.lists.proofs.Words.{cast_signed, ints, cases_lt, get_or_past, All-nil, All-drop}
use Rattle.std.specs.Prelude.{slice_index}
use Rattle.std.specs.Int.{Width}
use Rattle.library_grammar.specs.GrammarNames.{item, Entry, IsByte, AreBytes, field, body_of, unsigned_of, short_of, long_of}
use Rattle.library_grammar.proofs.laws.Fields.{body_has}

-- the bodies of records are of bytes
abbrev pub HaveBytes : List Entry → Type 0
HaveBytes entries = All (λ e. AreBytes e.body) entries

-- ---- items

byte_at : (body : List ℕ) → AreBytes body → (k : ℕ) → slice_index body k < 256
byte_at body are k = elim (cases_lt k (length body)) [ inl within ↦ are k 0 within | inr beyond ↦ rw (get_or_past body k 0 beyond) (omega arith) ]

two_fit : (k : ℕ) (body : List ℕ) → AreBytes body → item 2 k body < 2 ^ 16
two_fit k body are =
    let from : List ℕ = drop (2 * k) body in
    let bytes = All-drop IsByte (2 * k) body are in
    let first = byte_at from bytes 0 in
    let second = byte_at from bytes 1 in
    omega arith

-- numbers with sign fit, whatever the bytes are
pub short_fits : (n : ℕ) → FitsSigned w16 (cast_signed w16 n)
short_fits n = omega (arith, ints)

pub long_fits : (n : ℕ) → FitsSigned w32 (cast_signed w32 n)
long_fits n = omega (arith, ints)

-- ---- the body of a kind

signed_or_zero : (w : Width) (read : List ℕ → ℤ) (o : Option (List ℕ)) → FitsSigned w (pos 0) → ((body : List ℕ) → FitsSigned w (read body)) → FitsSigned w (unwrap_or (option_map read o) (pos 0))
signed_or_zero w read None zero_fits fits = zero_fits
signed_or_zero w read (Some body) zero_fits fits = fits body

pub short_of_fits : (own : List Entry) (k : ℕ) → FitsSigned w16 (short_of k own)
short_of_fits own k = signed_or_zero w16 (λ body. cast_signed w16 (item 2 0 body)) (field k own) (record { sfits = omega arith }) (λ body. short_fits _)

pub long_of_fits : (own : List Entry) (k : ℕ) → FitsSigned w32 (long_of k own)
long_of_fits own k = signed_or_zero w32 (λ body. cast_signed w32 (item 4 0 body)) (field k own) (record { sfits = omega arith }) (λ body. long_fits _)

module _ (own : List Entry) (have : HaveBytes own) where
  pub body_has_bytes : (k : ℕ) → AreBytes (body_of k own)
  body_has_bytes k = body_has AreBytes (All-nil IsByte) k own have

  pub unsigned_of_fits : (k : ℕ) → unsigned_of k own < 2 ^ 16
  unsigned_of_fits k = two_fit 0 (body_of k own) (body_has_bytes k)
