-- The table of records: each kind that is taken, with the form of its data and the sizes of its body.
use Rattle.std.specs.Prelude.{◌≡◌, ℕ, ◌%◌, List, [], ◌∷◌, Option, Some, None, Contains, nat_eq}
use Rattle.std.specs.Map.{lookup}
use Rattle.gds_records.specs.declared.kinds.TheConstants as kind
use Rattle.gds_records.specs.declared.forms.TheConstants as form
use Rattle.gds_records.specs.declared.table.Rule.{Rule}
use Rattle.gds_records.specs.declared.table.Sizes.{Sizes}
use Rattle.gds_records.specs.declared.table.Sizes.TheVariants.{Any, Exactly, MultipleOfEight}

-- a kind whose data has one form, and one whose form is not looked at
abbrev pub of_form : ℕ → ℕ → Sizes → ℕ × Rule
of_form k f sizes = (k, record { form = Some f; sizes = sizes })

abbrev pub of_any_form : ℕ → Sizes → ℕ × Rule
of_any_form k sizes = (k, record { form = None; sizes = sizes })

-- the table, by the manual's codes
unfoldable pub table : List (ℕ × Rule)
table =
    of_form kind.HEADER form.TWO_BYTE_NUMBERS Any ∷
    of_form kind.BGNLIB form.TWO_BYTE_NUMBERS Any ∷
    of_form kind.LIBNAME form.TEXT Any ∷
    of_form kind.UNITS form.EIGHT_BYTE_REALS (Exactly 16) ∷
    of_form kind.ENDLIB form.NO_DATA (Exactly 0) ∷
    of_form kind.BGNSTR form.TWO_BYTE_NUMBERS Any ∷
    of_form kind.STRNAME form.TEXT Any ∷
    of_form kind.ENDSTR form.NO_DATA (Exactly 0) ∷
    of_form kind.BOUNDARY form.NO_DATA (Exactly 0) ∷
    of_form kind.PATH form.NO_DATA (Exactly 0) ∷
    of_form kind.SREF form.NO_DATA (Exactly 0) ∷
    of_form kind.AREF form.NO_DATA (Exactly 0) ∷
    of_form kind.TEXT form.NO_DATA (Exactly 0) ∷
    of_form kind.LAYER form.TWO_BYTE_NUMBERS (Exactly 2) ∷
    of_form kind.DATATYPE form.TWO_BYTE_NUMBERS (Exactly 2) ∷
    of_form kind.WIDTH form.FOUR_BYTE_NUMBERS (Exactly 4) ∷
    of_form kind.XY form.FOUR_BYTE_NUMBERS MultipleOfEight ∷
    of_form kind.ENDEL form.NO_DATA (Exactly 0) ∷
    of_form kind.SNAME form.TEXT Any ∷
    of_form kind.COLROW form.TWO_BYTE_NUMBERS (Exactly 4) ∷
    of_form kind.NODE form.NO_DATA (Exactly 0) ∷
    of_form kind.TEXTTYPE form.TWO_BYTE_NUMBERS Any ∷
    of_form kind.PRESENTATION form.BITS Any ∷
    of_form kind.STRING form.TEXT Any ∷
    of_form kind.STRANS form.BITS (Exactly 2) ∷
    of_form kind.MAG form.EIGHT_BYTE_REALS (Exactly 8) ∷
    of_form kind.ANGLE form.EIGHT_BYTE_REALS (Exactly 8) ∷
    of_form kind.REFLIBS form.TEXT Any ∷
    of_form kind.FONTS form.TEXT Any ∷
    of_form kind.PATHTYPE form.TWO_BYTE_NUMBERS (Exactly 2) ∷
    of_form kind.GENERATIONS form.TWO_BYTE_NUMBERS Any ∷
    of_form kind.ATTRTABLE form.TEXT Any ∷
    of_form kind.ELFLAGS form.BITS Any ∷
    of_form kind.NODETYPE form.TWO_BYTE_NUMBERS Any ∷
    of_form kind.PROPATTR form.TWO_BYTE_NUMBERS Any ∷
    of_form kind.PROPVALUE form.TEXT Any ∷
    of_form kind.BOX form.NO_DATA (Exactly 0) ∷
    of_form kind.BOXTYPE form.TWO_BYTE_NUMBERS (Exactly 2) ∷
    of_form kind.PLEX form.FOUR_BYTE_NUMBERS Any ∷
    of_form kind.BGNEXTN form.FOUR_BYTE_NUMBERS (Exactly 4) ∷
    of_form kind.ENDEXTN form.FOUR_BYTE_NUMBERS (Exactly 4) ∷
    of_any_form kind.STRCLASS Any ∷
    of_form kind.FORMAT form.TWO_BYTE_NUMBERS Any ∷
    of_form kind.MASK form.TEXT Any ∷
    of_form kind.ENDMASKS form.NO_DATA (Exactly 0) ∷
    of_any_form kind.LIBDIRSIZE Any ∷
    of_any_form kind.SRFNAME Any ∷
    of_any_form kind.LIBSECUR Any ∷
    []

-- the rule of a kind, where the table has it
abbrev pub rule_at : ℕ → Option Rule
rule_at k = lookup (nat_eq k) table

-- the data may have this form: the one that stands in the table, or any where none does
abbrev pub TakesForm : Option ℕ → ℕ → Type 0
TakesForm (Some g) f = f ≡ g
TakesForm None f = Unit {0}

-- a body may have so many bytes
abbrev pub TakesSize : Sizes → ℕ → Type 0
TakesSize Any n = Unit {0}
TakesSize (Exactly m) n = n ≡ m
TakesSize MultipleOfEight n = n % 8 ≡ 0

-- the rule of a kind and a form: that of the kind, if it takes the form
pub record IsRuleFor (k f : ℕ) (rule : Rule) : Type 0 where
  pub listed : Contains table (k, rule)
  pub takes_form : TakesForm rule.form f

-- the table has the kind with this form
abbrev pub IsListed : ℕ → ℕ → Type 0
IsListed k f = (rule : Rule) × IsRuleFor k f rule

-- the table has the kind with this form and this size
abbrev pub IsPermitted : ℕ → ℕ → ℕ → Type 0
IsPermitted k f size = (rule : Rule) × IsRuleFor k f rule × TakesSize rule.sizes size
