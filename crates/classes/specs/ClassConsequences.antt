-- what follows for any classes of the pairs
use Rattle.std.specs.Prelude.{ℕ, List, Some, slice_get, ◌≡◌, ◌↔◌}
use Rattle.classes.specs.Classes.{AreJoined, IsClasses}

-- two numbers have the same class exactly where they are joined
abbrev pub EqualWhereJoined : ℕ → List (ℕ × ℕ) → List ℕ → Type 0
EqualWhereJoined n pairs classes =
    (i k m m' : ℕ) → slice_get classes i ≡ Some m → slice_get classes k ≡ Some m' →
    m ≡ m' ↔ AreJoined n pairs i k

-- two lists that are both the classes of the pairs are the same list
abbrev pub ClassesAgree : ℕ → List (ℕ × ℕ) → Type 0
ClassesAgree n pairs =
    (classes classes' : List ℕ) → IsClasses n pairs classes → IsClasses n pairs classes' → classes ≡ classes'
