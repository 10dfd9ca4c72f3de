-- inside this crate: what its readers answer in place of what they read. No definition above rests on it.
use Rattle.std.specs.Prelude.{List, ◌≤◌}
use Rattle.command_line.specs.declared.cause.Refusal.{Refusal}
use Rattle.command_line.specs.declared.cause.Refusal.TheVariants.{Words, Memory}
use Rattle.command_line.specs.declared.cause.WordsCause.{WordsCause}
use Rattle.command_line.specs.declared.option_name.OptionName.{OptionName}
use Rattle.command_line.specs.OptionNames.{Text}
use Rattle.command_line.specs.WordsCauses.{IsCauseOf, IsOfFirstKind, order_of}

-- the refusal tells a cause of this kind, unless no memory is left
abbrev pub HasCause : (WordsCause → Type 0) → Refusal → Type 0
HasCause Is (Words cause) = Is cause
HasCause Is Memory = Unit {0}

-- the cause is one of these, and none of them is of a kind that is told before
pub record IsFirstCause (Is : WordsCause → Type 0) (cause : WordsCause) : Type 0 where
  pub is : Is cause
  pub first : IsOfFirstKind Is cause

-- options with these values and these positional words are those of a form: a value that is not of its option's form is all that may be wrong
abbrev pub IsOfForm : (OptionName → List Text) → List Text → Type 0
IsOfForm values positions = (cause : WordsCause) → IsCauseOf values positions cause → 14 ≤ order_of cause
