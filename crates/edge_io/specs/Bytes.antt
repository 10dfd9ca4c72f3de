-- What a source or a sink tells before a call and after it, such as the bytes that a sink took: `None` where it does not tell
-- them, at both times.
use Rattle.std.specs.Prelude.{ℕ, ◌≡◌, ◌≤◌, List, [], ◌++◌, length, take, drop, Option, None, Some, IsSomeAnd, option_map}

-- where a list is told, these are at its end now
abbrev pub Appends : {A : Type 0} → Option (List A) → Option (List A) → List A → Type 0
Appends old new items = new ≡ option_map (λ told. told ++ items) old

-- where bytes are told, the first few of these, perhaps none or all, are at their end now
abbrev pub AppendsPrefix : Option (List ℕ) → Option (List ℕ) → List ℕ → Type 0
AppendsPrefix old new bytes = (count : ℕ) × (count ≤ length bytes) × Appends old new (take count bytes)

-- where bytes are told, so many at their front are gone
abbrev pub Drops : Option (List ℕ) → Option (List ℕ) → ℕ → Type 0
Drops old new count = new ≡ option_map (drop count) old

-- where bytes are told, at most so many at their front are gone
abbrev pub DropsUpTo : Option (List ℕ) → Option (List ℕ) → ℕ → Type 0
DropsUpTo old new most = (count : ℕ) × (count ≤ most) × Drops old new count

-- A read gave these bytes: what was unread is they and then what is unread now, and none was given only where none was
-- unread.
abbrev pub Gives : Option (List ℕ) → Option (List ℕ) → List ℕ → Type 0
Gives None new given = new ≡ None
Gives (Some unread) new given = IsSomeAnd new (λ left. (unread ≡ given ++ left) × (given ≡ [] → unread ≡ []))
