-- texts that are cells: a text is that of one cell at most
use Rattle.std.proofs.Common.{ℕ, ◌<◌, ℤ, pos, neg_ℤ, ◌-ℤ◌, to_z, of_z, w32, [], ◌∷◌, ◌++◌, ◌≡◌, ◌≢◌, ◌∙◌, sym, ap, refl, arith, codes, subst, append_assoc, length, get_or}
use Rattle.std.proofs.lemmas.Int.{ints}
use Rattle.std.proofs.lemmas.List.Elements.{All-from_get_or, Contains-append_right}
use Rattle.std.specs.Char.{digit_value}
use Rattle.std.specs.Str.Parse.{AllDigits, digits_value}
use Rattle.lists.proofs.Words.{All-cons, All-contains, All-head, All-nil, All-tail}
use Rattle.geo_core.specs.Intervals.{IsIn}
use Rattle.geo_core.specs.declared.plane.Cell.{Cell}
use Rattle.command_line.specs.CellTexts.{HasNoComma, HasParts, IsCellText, IsCoordinate, from_0, to_0}
use Rattle.command_line.specs.Numbers.{IsNumber}
use Rattle.command_line.specs.OptionNames.{Text}

-- ---- coordinates

-- a digit is neither a comma nor a dash
no_digit : (byte other : ℕ) → (digit_value other < 10 → ⊥) → digit_value byte < 10 → byte ≢ other
no_digit byte other none digit e = none (subst (λ b. digit_value b < 10) e digit)

pub digits_have_no_comma : (digits : Text) → AllDigits 10 digits → HasNoComma digits
digits_have_no_comma [] are = All-nil (λ byte. byte ≢ 44)
digits_have_no_comma (d ∷ ds) are = All-cons (λ byte. byte ≢ 44) d ds (no_digit d 44 (λ is. absurd (omega arith)) are.0) (digits_have_no_comma ds are.1)

pub no_comma : (text : Text) (z : ℤ) → IsCoordinate text z → HasNoComma text
no_comma text z (from_0 number) = digits_have_no_comma text number.digits.1
no_comma text z (to_0 {digits = digits} whole number) =
    subst HasNoComma (sym whole) (All-cons (λ byte. byte ≢ 44) 45 digits (λ e. absurd (omega (arith, e))) (digits_have_no_comma digits number.digits.1))

dash_is_no_digit : (text digits : Text) → text ≡ codes "-" ++ digits → AllDigits 10 text → ⊥
dash_is_no_digit text digits dashed are = let all : AllDigits 10 (45 ∷ digits) = subst (AllDigits 10) dashed are in no_digit 45 45 (λ is. absurd (omega arith)) all.0 refl

-- a text is one coordinate at most
pub coordinate_is : (text : Text) (y z : ℤ) → IsCoordinate text y → IsCoordinate text z → y ≡ z
coordinate_is text y z (from_0 a) (from_0 b) = ap pos (sym a.value ∙ b.value)
coordinate_is text y z (from_0 a) (to_0 {digits = digits} dashed b) = absurd (dash_is_no_digit text digits dashed a.digits.1)
coordinate_is text y z (to_0 {digits = digits} dashed a) (from_0 b) = absurd (dash_is_no_digit text digits dashed b.digits.1)
coordinate_is text y z (to_0 {digits = one} e a) (to_0 {digits = other} f b) =
    let same : one ≡ other = let s = sym e ∙ f in cc s in
    ap (λ n. neg_ℤ (pos n)) (sym a.value ∙ ap (digits_value 10) same ∙ b.value)

pub coordinate_within : (text : Text) (z : ℤ) → IsCoordinate text z → IsIn (neg_ℤ (pos 1000000000)) (pos 1000000000) z
coordinate_within text z (from_0 number) = let most = number.most in record { from = omega (arith, ints); before = omega (arith, ints) }
coordinate_within text z (to_0 _ number) = let most = number.most in record { from = omega (arith, ints); before = omega (arith, ints) }

-- a number as a coordinate, and one behind a dash
pub number_is : (text : Text) (n : ℕ) → IsNumber 0 999999999 text n → IsCoordinate text (to_z w32 n)
number_is text n number =
    let most = number.most in
    let same : pos n ≡ to_z w32 n = omega (arith, ints) in
    subst (IsCoordinate text) same (from_0 number)

pub dashed_is : (text digits : Text) (n : ℕ) → text ≡ 45 ∷ digits → IsNumber 0 1000000000 digits n
    → IsCoordinate text (to_z w32 (of_z w32 (pos 0 -ℤ to_z w32 n)))
dashed_is text digits n dashed number =
    let most = number.most in
    let same : neg_ℤ (pos n) ≡ to_z w32 (of_z w32 (pos 0 -ℤ to_z w32 n)) = omega (arith, ints) in
    subst (IsCoordinate text) same (to_0 dashed number)

-- there is none where there is no such number
pub no_number : (text : Text) → ((digits : Text) → text ≢ 45 ∷ digits) → ((n : ℕ) → IsNumber 0 999999999 text n → ⊥) → (z : ℤ) → IsCoordinate text z → ⊥
no_number text undashed none z (from_0 {n = n} number) = none n number
no_number text undashed none z (to_0 {digits = digits} dashed number) = undashed digits dashed

pub no_dashed : (text digits : Text) → text ≡ 45 ∷ digits → ((n : ℕ) → IsNumber 0 1000000000 digits n → ⊥) → (z : ℤ) → IsCoordinate text z → ⊥
no_dashed text digits dashed none z (from_0 number) = dash_is_no_digit text digits dashed number.digits.1
no_dashed text digits dashed none z (to_0 {digits = other} {n = n} whole number) =
    let same : other ≡ digits = let s = sym whole ∙ dashed in cc s in
    none n (subst (λ t. IsNumber 0 1000000000 t n) same number)

-- ---- the parts of a text

pub parts_are : (column row left right : Text) → HasNoComma column → HasNoComma left → column ++ 44 ∷ row ≡ left ++ 44 ∷ right
    → (column ≡ left) × (row ≡ right)
parts_are [] row [] right p q e = let same : row ≡ right = cc e in (refl, same)
parts_are [] row (c ∷ left) right p q e = let comma : c ≡ 44 = cc e in absurd (All-head (λ byte. byte ≢ 44) c left q comma)
parts_are (b ∷ column) row [] right p q e = let comma : b ≡ 44 = cc e in absurd (All-head (λ byte. byte ≢ 44) b column p comma)
parts_are (b ∷ column) row (c ∷ left) right p q e =
    let first : b ≡ c = cc e in
    let rest : column ++ 44 ∷ row ≡ left ++ 44 ∷ right = cc e in
    let same = parts_are column row left right (All-tail (λ byte. byte ≢ 44) b column p) (All-tail (λ byte. byte ≢ 44) c left q) rest in
    (cc (first, same.0), same.1)

-- the text of a cell has the parts of its column and its row
pub has_parts : (text : Text) (cell : Cell) (is : IsCellText text cell) → HasParts text is.column is.row
has_parts text cell is = record { whole = is.whole; one_before = no_comma is.column cell.i is.is_column; one_behind = no_comma is.row cell.j is.is_row }

-- and no other parts
pub parts_of_cell : (text column row : Text) (cell : Cell) → HasParts text column row → IsCellText text cell → IsCoordinate column cell.i × IsCoordinate row cell.j
parts_of_cell text column row cell parts is =
    let have = has_parts text cell is in
    let same = parts_are is.column is.row column row have.one_before parts.one_before (sym (append_assoc is.column (codes ",") is.row) ∙ sym is.whole ∙ parts.whole ∙ append_assoc column (codes ",") row) in
    (subst (λ t. IsCoordinate t cell.i) same.0 is.is_column, subst (λ t. IsCoordinate t cell.j) same.1 is.is_row)

pub cell_is : (text : Text) (one other : Cell) → IsCellText text one → IsCellText text other → one ≡ other
cell_is text one other a b =
    let parts = parts_of_cell text b.column b.row one (has_parts text other b) a in
    let column : one.i ≡ other.i = coordinate_is b.column one.i other.i parts.0 b.is_column in
    let row : one.j ≡ other.j = coordinate_is b.row one.j other.j parts.1 b.is_row in
    let made : ℤ → ℤ → Cell = λ i j. record { i = i; j = j } in
    ap (λ i. made i one.j) column ∙ ap (made other.i) row

-- ---- a text cut at its first comma

-- its parts, where it has one, and the second part has no other
pub have_parts : (text column row : Text) → text ≡ column ++ 44 ∷ row → ((k : ℕ) → k < length column → get_or column k 0 ≢ 44)
    → ((k : ℕ) → k < length row → get_or row k 0 ≢ 44) → HasParts text column row
have_parts text column row whole before behind = record {
  whole = whole ∙ sym (append_assoc column (codes ",") row);
  one_before = All-from_get_or (λ byte. byte ≢ 44) column 0 before;
  one_behind = All-from_get_or (λ byte. byte ≢ 44) row 0 behind;
}

-- a text that has no comma is not cut at one
pub no_cut : (text : Text) → ((k : ℕ) → k < length text → get_or text k 0 ≢ 44) → (left right : Text) → text ≢ left ++ 44 ∷ right
no_cut text none left right whole =
    let all : HasNoComma (left ++ 44 ∷ right) = subst HasNoComma whole (All-from_get_or (λ byte. byte ≢ 44) text 0 none) in
    All-contains (λ byte. byte ≢ 44) (left ++ 44 ∷ right) 44 all (Contains-append_right left (44 ∷ right) 44 (0, omega arith, refl)) refl

-- none, where it has no comma, and where the second part has one
pub no_parts : (text : Text) → ((k : ℕ) → k < length text → get_or text k 0 ≢ 44) → (column row : Text) → HasParts text column row → ⊥
no_parts text none column row parts = no_cut text none column row (parts.whole ∙ append_assoc column (codes ",") row)

pub not_parts : (text left right : Text) → text ≡ left ++ 44 ∷ right → ((k : ℕ) → k < length left → get_or left k 0 ≢ 44)
    → (k : ℕ) → k < length right → get_or right k 0 ≡ 44 → (column row : Text) → HasParts text column row → ⊥
not_parts text left right whole before k within comma column row parts =
    let same = parts_are column row left right parts.one_before (All-from_get_or (λ byte. byte ≢ 44) left 0 before)
    (sym (append_assoc column (codes ",") row) ∙ sym parts.whole ∙ whole) in
    subst HasNoComma same.1 parts.one_behind k 0 within comma
