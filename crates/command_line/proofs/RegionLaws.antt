-- texts that tell which regions are asked for: each tells of one kind, one layer and one size at most
use Rattle.std.proofs.Common.{ℕ, ◌<◌, ◌==◌, [], ◌∷◌, ◌++◌, ◌≡◌, ◌≢◌, ◌∙◌, ◌||◌, sym, ap, refl, codes, subst, append_assoc, length, get_or, Bool}
use Rattle.std.proofs.Common.{true, false, IsTrue, if◌then◌else◌}
use Rattle.std.specs.Str.Parse.{digits_value}
use Rattle.lists.proofs.Words.{list_any, bytes_eq, All-cons, All-from_get_or, All-nil, All-weaker}
use Rattle.map_model.specs.MapNames.{IsLayerName, is_name_byte}
use Rattle.questions.specs.KindTexts.{kind_text}
use Rattle.questions.specs.declared.kind.Kind.{Kind}
use Rattle.questions.specs.declared.kind.Kind.TheVariants.{Short, Open, Via}
use Rattle.command_line.specs.CellTexts.{HasNoComma, HasParts}
use Rattle.command_line.specs.Numbers.{IsNumber}
use Rattle.command_line.specs.OptionNames.{Text}
use Rattle.command_line.specs.RegionTexts.{HasThreeParts, IsRegionText}
use Rattle.command_line.proofs.CellLaws.{digits_have_no_comma, no_cut, parts_are}

-- ---- three parts of a text

-- the text is cut at its first comma into the first part and the other two
module _ (text first second third : Text) where
  cut_at_first : text ≡ first ++ codes "," ++ second ++ codes "," ++ third → text ≡ first ++ 44 ∷ (second ++ codes "," ++ third)
  cut_at_first whole =
      whole ∙ append_assoc (first ++ codes "," ++ second) (codes ",") third ∙ append_assoc (first ++ codes ",") second (codes "," ++ third)
      ∙ append_assoc first (codes ",") (second ++ (codes "," ++ third))
      ∙ ap (λ rest. first ++ 44 ∷ rest) (sym (append_assoc second (codes ",") third))

  joined : text ≡ first ++ 44 ∷ (second ++ codes "," ++ third) → text ≡ first ++ codes "," ++ second ++ codes "," ++ third
  joined whole =
      whole ∙ ap (λ rest. first ++ 44 ∷ rest) (append_assoc second (codes ",") third)
      ∙ sym (append_assoc first (codes ",") (second ++ (codes "," ++ third)))
      ∙ sym (append_assoc (first ++ codes ",") second (codes "," ++ third)) ∙ sym (append_assoc (first ++ codes "," ++ second) (codes ",") third)

  last_parts : (rest : Text) → rest ≡ second ++ codes "," ++ third → HasThreeParts text first second third → HasParts rest second third
  last_parts rest e parts = record { whole = e; one_before = parts.none_in_second; one_behind = parts.none_in_third }

-- a text has three parts in one way at most
pub three_are : (text one two three first second third : Text) → HasThreeParts text one two three → HasThreeParts text first second third
    → (one ≡ first) × (two ≡ second) × (three ≡ third)
three_are text one two three first second third a b =
    let cut = parts_are one (two ++ codes "," ++ three) first (second ++ codes "," ++ third) a.none_in_first b.none_in_first
    (sym (cut_at_first text one two three a.whole) ∙ cut_at_first text first second third b.whole) in
    let last = parts_are two three second third a.none_in_second b.none_in_second
    (sym (append_assoc two (codes ",") three) ∙ cut.1 ∙ append_assoc second (codes ",") third) in
    (cut.0, last.0, last.1)

-- the parts of a text that is cut at its first comma, and its rest once more
pub have_three : (text first rest second third : Text) → text ≡ first ++ 44 ∷ rest → ((k : ℕ) → k < length first → get_or first k 0 ≢ 44)
    → HasParts rest second third → HasThreeParts text first second third
have_three text first rest second third whole before parts = record {
  whole = joined text first second third (whole ∙ ap (λ r. first ++ 44 ∷ r) parts.whole);
  none_in_first = All-from_get_or (λ byte. byte ≢ 44) first 0 before;
  none_in_second = parts.one_before;
  none_in_third = parts.one_behind;
}

-- none, where it has no comma, and where the rest is not two parts
pub no_three : (text : Text) → ((k : ℕ) → k < length text → get_or text k 0 ≢ 44) → (first second third : Text)
    → HasThreeParts text first second third → ⊥
no_three text none first second third parts = no_cut text none first (second ++ codes "," ++ third) (cut_at_first text first second third parts.whole)

pub not_three : (text left rest : Text) → text ≡ left ++ 44 ∷ rest → ((k : ℕ) → k < length left → get_or left k 0 ≢ 44)
    → ((second third : Text) → HasParts rest second third → ⊥) → (first second third : Text) → HasThreeParts text first second third → ⊥
not_three text left rest whole before none first second third parts =
    let same = parts_are first (second ++ codes "," ++ third) left rest parts.none_in_first (All-from_get_or (λ byte. byte ≢ 44) left 0 before)
    (sym (cut_at_first text first second third parts.whole) ∙ whole) in
    none second third (last_parts text first second third rest (sym same.1) parts)

-- ---- words of kinds and names of layers

abbrev kind_named : Text → Kind
kind_named text = if bytes_eq text (codes "short") then Short else (if bytes_eq text (codes "open") then Open else Via)

named : (kind : Kind) → kind_named (kind_text kind) ≡ kind
named kind = elim kind as (λ k. kind_named (kind_text k) ≡ k) [ Short ↦ refl | Open ↦ refl | Via ↦ refl ]

-- a word is that of one kind at most
pub kind_is : (one other : Kind) → kind_text one ≡ kind_text other → one ≡ other
kind_is one other e = sym (named one) ∙ ap kind_named e ∙ named other

abbrev is_comma : ℕ → Bool
is_comma byte = byte == 44

no_comma_in : (text : Text) → list_any is_comma text ≡ false → HasNoComma text
no_comma_in [] none = All-nil (λ byte. byte ≢ 44)
no_comma_in (b ∷ bs) none = go (is_comma b) refl none (no_comma_in bs) where
  go : (t : Bool) → is_comma b ≡ t → (t || list_any is_comma bs) ≡ false → (list_any is_comma bs ≡ false → HasNoComma bs) → HasNoComma (b ∷ bs)
  go true _ none _ = cc none
  go false is none rest = All-cons (λ byte. byte ≢ 44) b bs (λ e. let s : true ≡ false = sym (ap is_comma e) ∙ is in cc s) (rest none)

kind_has_no_comma : (kind : Kind) → HasNoComma (kind_text kind)
kind_has_no_comma kind =
    no_comma_in (kind_text kind) (elim kind as (λ k. list_any is_comma (kind_text k) ≡ false) [ Short ↦ refl | Open ↦ refl | Via ↦ refl ])

name_has_no_comma : (name : Text) → IsLayerName name → HasNoComma name
name_has_no_comma name is =
    All-weaker (λ byte. IsTrue (is_name_byte byte)) (λ byte. byte ≢ 44)
    (λ byte may e. let s : false ≡ true = subst (λ b. IsTrue (is_name_byte b)) e may in cc s) name is.each

-- ---- the text of a kind, a layer and a size

module _ (text : Text) (kind : Kind) (layer : Text) (size : ℕ) (is : IsRegionText text kind layer size) where
  -- it has the parts of these
  pub has_three : HasThreeParts text (kind_text kind) layer is.digits
  has_three = record {
    whole = is.whole;
    none_in_first = kind_has_no_comma kind;
    none_in_second = name_has_no_comma layer is.is_layer;
    none_in_third = digits_have_no_comma is.digits is.is_size.digits.1;
  }

  -- and no other parts
  pub parts_of_region : (first second third : Text) → HasThreeParts text first second third
      → (first ≡ kind_text kind) × IsLayerName second × IsNumber 1 32 third size
  parts_of_region first second third parts =
      let same = three_are text (kind_text kind) layer is.digits first second third has_three parts in
      (sym same.0, subst IsLayerName same.1 is.is_layer, subst (λ t. IsNumber 1 32 t size) same.2 is.is_size)

pub region_is : (text : Text) (one other : Kind) (a b : Text) (m n : ℕ) → IsRegionText text one a m → IsRegionText text other b n
    → (one ≡ other) × (a ≡ b) × (m ≡ n)
region_is text one other a b m n x y =
    let same = three_are text (kind_text one) a x.digits (kind_text other) b y.digits (has_three text one a m x) (has_three text other b n y) in
    (kind_is one other same.0, same.1, sym x.is_size.value ∙ ap (digits_value 10) same.2 ∙ y.is_size.value)
