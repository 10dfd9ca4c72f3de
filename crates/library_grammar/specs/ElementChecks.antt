-- what is checked of an element once its own records are read, one check after the other, and their faults
use Rattle.std.specs.Prelude.{ℕ, ℤ, pos, negsuc, ◌≤ℤ◌, List, [], ◌∷◌, ◌++◌, map, length, Contains, IfSome, Result}
use Rattle.gds_records.specs.declared.kinds.TheConstants as kind
use Rattle.gds_records.specs.RecordSpelling.{Entry}
use Rattle.gds_records.specs.Reals.{HasValue}
use Rattle.first_refusal.specs.Answers.{Answers}
use Rattle.first_refusal.specs.Checks.{Checks, IsRefusalOfFirst}
use Rattle.library_grammar.specs.ElementForms as forms
use Rattle.library_grammar.specs.ElementForms.{ElementForm, Sort, outline, open_line, reference, array, annotation, IsCount}
use Rattle.library_grammar.specs.Grammar.{kinds_of}
use Rattle.library_grammar.specs.OwnRecords.{field, points_of, HasAbsoluteAngle, HasQuarters, columns_of, rows_of, HasSteps}
use Rattle.geo_core.specs.Plane.{IsClosed}
use Rattle.library_grammar.specs.declared.fault.SyntaxFault.{SyntaxFault}
use Rattle.library_grammar.specs.declared.fault.SyntaxFault.TheVariants.{Missing, PointCount, NotClosed, Magnified, BadAngle, AbsoluteAngle}
use Rattle.library_grammar.specs.declared.fault.SyntaxFault.TheVariants.{EmptyArray, UnevenArray, Memory}

-- what is checked
pub data ElementCheck : Type 0 where
  has : ℕ → ElementCheck
  has_right_count : forms.PointCount → ElementCheck
  is_closed : ElementCheck
  is_not_magnified : ElementCheck
  angle_is_not_absolute : ElementCheck
  turns_by_quarters : ElementCheck
  has_columns_and_rows : ElementCheck
  has_whole_steps : ElementCheck

-- the checks of a reference, an array or not
abbrev pub reference_checks : List ElementCheck
reference_checks = is_not_magnified ∷ angle_is_not_absolute ∷ turns_by_quarters ∷ []

-- the checks that an array has beside them
abbrev pub array_checks : List ElementCheck
array_checks = has_columns_and_rows ∷ has_whole_steps ∷ []

-- the checks that elements of one sort have and others have not
abbrev pub checks_of_sort : Sort → List ElementCheck
checks_of_sort outline = is_closed ∷ []
checks_of_sort open_line = []
checks_of_sort reference = reference_checks
checks_of_sort array = reference_checks ++ array_checks
checks_of_sort annotation = []

-- the checks of an element in their order. The records that it needs are looked for in the order of their kinds, so that the
-- first that is missing is the least.
abbrev pub element_checks : ElementForm → List ElementCheck
element_checks form = map has form.required ++ has_right_count form.points ∷ checks_of_sort form.sort

-- what each demands of an element's own records
abbrev pub ElementHolds : List Entry → ElementCheck → Type 0
ElementHolds own (has k) = Contains (kinds_of own) k
ElementHolds own (has_right_count count) = IsCount count (length (points_of own))
ElementHolds own is_closed = IsClosed (points_of own)
ElementHolds own is_not_magnified = IfSome (field kind.MAG own) (λ body. HasValue body (pos 1))
ElementHolds own angle_is_not_absolute = HasAbsoluteAngle own → ⊥
ElementHolds own turns_by_quarters = (quarters : ℤ) × HasQuarters own quarters × (negsuc 3 ≤ℤ quarters) × (quarters ≤ℤ pos 4)
ElementHolds own has_columns_and_rows = (pos 1 ≤ℤ columns_of own) × (pos 1 ≤ℤ rows_of own)
ElementHolds own has_whole_steps = (column_step row_step : ℤ × ℤ) × HasSteps own column_step row_step

-- the fault that each gives where it fails, at the offset of the element's opening record
abbrev pub element_fault : ℕ → ElementCheck → SyntaxFault
element_fault at (has k) = Missing at k
element_fault at (has_right_count count) = PointCount at
element_fault at is_closed = NotClosed at
element_fault at is_not_magnified = Magnified at
element_fault at angle_is_not_absolute = AbsoluteAngle at
element_fault at turns_by_quarters = BadAngle at
element_fault at has_columns_and_rows = EmptyArray at
element_fault at has_whole_steps = UnevenArray at

-- the fault is that of the first of the checks that fails
abbrev pub IsFaultOfFirst : ℕ → List Entry → List ElementCheck → SyntaxFault → Type 0
IsFaultOfFirst at own checks = IsRefusalOfFirst (ElementHolds own) checks (element_fault at)

-- the fault of an element with these own records
abbrev pub IsElementFault : ℕ → ElementForm → List Entry → SyntaxFault → Type 0
IsElementFault at form own = IsFaultOfFirst at own (element_checks form)

-- the answer of a reader that makes these checks: what it reads where all of them hold, the fault of the first that fails, or
-- that no memory is left
abbrev pub Judges : {T : Type 0} → ℕ → List Entry → List ElementCheck → (T → Type 0) → Result T SyntaxFault → Type 0
Judges at own checks Is = Answers Memory (Checks (ElementHolds own) checks (element_fault at) Is)
