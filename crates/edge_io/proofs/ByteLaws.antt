-- what is read of a source and written to a sink, piece by piece
use Rattle.std.proofs.Common.{ℕ, ◌≡◌, ◌≤◌, ◌<◌, ◌+◌, ◌-◌, refl, sym, ap, ◌∙◌, List, [], ◌++◌, append_assoc, length, take, drop, length-append, arith, Option, Some, None, IfSome, IsSomeAnd, option_map}
use Rattle.lists.proofs.Words.{append-nil, take_rest}
use Rattle.std.proofs.Math.Seq.{take-add, drop-append_seam}
use Rattle.edge_io.specs.Bytes.{Appends, Drops, DropsUpTo, Gives}

-- of what a source tells these bytes were read, and the others are left
abbrev pub HasRead : Option (List ℕ) → Option (List ℕ) → List ℕ → Type 0
HasRead None rest bytes = rest ≡ None
HasRead (Some told) rest bytes = IsSomeAnd rest (λ left. told ≡ bytes ++ left)

-- the next bytes were read
pub HasRead-more : (told rest rest' : Option (List ℕ)) (bytes given : List ℕ) → HasRead told rest bytes → Gives rest rest' given → HasRead told rest' (bytes ++ given)
HasRead-more None None rest' bytes given was gives = gives
HasRead-more None (Some left) rest' bytes given was gives = absurd (cc was)
HasRead-more (Some told) None rest' bytes given was gives = absurd was
HasRead-more (Some told) (Some left) None bytes given was gives = absurd gives
HasRead-more (Some told) (Some left) (Some left') bytes given was gives = was ∙ ap (λ xs. bytes ++ xs) gives.0 ∙ sym (append_assoc bytes given left')

-- all was read where no more is given
pub HasRead-all : (told rest rest' : Option (List ℕ)) (bytes : List ℕ) → HasRead told rest bytes → Gives rest rest' [] → IfSome told (λ all. bytes ≡ all)
HasRead-all None rest rest' bytes was gives = tt
HasRead-all (Some told) None rest' bytes was gives = absurd was
HasRead-all (Some told) (Some left) None bytes was gives = absurd gives
HasRead-all (Some told) (Some left) (Some left') bytes was gives = sym (was ∙ ap (λ xs. bytes ++ xs) (gives.1 refl) ∙ append-nil bytes)

-- there is no less than was read
pub HasRead-long : (told rest : Option (List ℕ)) (bytes : List ℕ) (limit : ℕ) → HasRead told rest bytes → limit < length bytes → IfSome told (λ all. limit < length all)
HasRead-long None rest bytes limit was long = tt
HasRead-long (Some told) None bytes limit was long = absurd was
HasRead-long (Some told) (Some left) bytes limit was long = omega (arith, ap length was, length-append bytes left)

-- what was read is gone from the front
pub HasRead-Drops : (told rest : Option (List ℕ)) (bytes : List ℕ) → HasRead told rest bytes → Drops told rest (length bytes)
HasRead-Drops None rest bytes was = was
HasRead-Drops (Some told) None bytes was = absurd was
HasRead-Drops (Some told) (Some left) bytes was = ap Some (sym (ap (drop (length bytes)) was ∙ drop-append_seam bytes left))

pub HasRead-DropsUpTo : (told rest : Option (List ℕ)) (bytes : List ℕ) (most : ℕ) → HasRead told rest bytes → length bytes ≤ most → DropsUpTo told rest most
HasRead-DropsUpTo told rest bytes most was fits = (length bytes, fits, HasRead-Drops told rest bytes was)

-- the next bytes of a list were written
pub appends_more : (a b c : Option (List ℕ)) (bytes : List ℕ) (at n : ℕ) → Appends a b (take at bytes) → Appends b c (take n (drop at bytes)) → Appends a c (take (at + n) bytes)
appends_more None b c bytes at n h k = k ∙ ap (option_map (λ told. told ++ take n (drop at bytes))) h
appends_more (Some told) b c bytes at n h k =
    k ∙ ap (option_map (λ xs. xs ++ take n (drop at bytes))) h ∙ ap Some (simp (append_assoc, take-add at n bytes))

-- the same, where the next bytes are those of the slice from `at` on
pub written_more : (a b c : Option (List ℕ)) (bytes : List ℕ) (at n : ℕ) → Appends a b (take at bytes) → Appends b c (take n (take (length bytes - at) (drop at bytes)))
    → Appends a c (take (at + n) bytes)
written_more a b c bytes at n h k = appends_more a b c bytes at n h (rw take_rest at k)
