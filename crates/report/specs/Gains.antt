-- bytes that gain a text at their end
use Rattle.std.specs.Prelude.{ℕ, ◌≡◌, List, ◌++◌, take}

-- they gained the text
abbrev pub Gains : List ℕ → List ℕ → List ℕ → Type 0
Gains old new text = new ≡ old ++ text

-- they gained the first part of the text, perhaps none or all of it
abbrev pub GainsPrefix : List ℕ → List ℕ → List ℕ → Type 0
GainsPrefix old new text = (count : ℕ) × Gains old new (take count text)
