-- lists of different items
use Rattle.std.specs.Prelude.{List, ◌≢◌, AllPairs}

-- no two items of the list are the same
abbrev pub AreDifferent : {A : Type 0} → List A → Type 0
AreDifferent items = AllPairs (λ one other. one ≢ other) items
