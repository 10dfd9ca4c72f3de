-- words of options, cut at their first equals sign
use Rattle.std.proofs.Common.{Bor, [], ◌∷◌, ◌++◌, ◌≡◌, ◌≢◌, ◌∙◌, sym, ap, append_assoc, arith, refl, Option, Some, None, true, false, ◌||◌, drop, get_or, length, length-append}
use Rattle.std.proofs.lemmas.Str.Pattern.{IsSplitOnceResult, split_once_first, split_parts}
use Rattle.lists.proofs.Words.{get_or-append_seam, list_any, or-true}
use Rattle.command_line.specs.declared.option_name.OptionName.{OptionName}
use Rattle.command_line.specs.inside.Arguments.{option_word}
use Rattle.command_line.specs.OptionNames.{Text, name_of}
use Rattle.command_line.specs.Spelling.{whole_word}
use Rattle.command_line.proofs.SpellingLaws.{has_no_equals, is_equals, name_in, name_is_in}

any_equals : (before behind : Text) → list_any is_equals (before ++ 61 ∷ behind) ≡ true
any_equals [] behind = refl
any_equals (b ∷ bs) behind = ap (λ t. is_equals b || t) (any_equals bs behind) ∙ or-true (is_equals b)

-- the name, an equals sign and the value
parted : (name : OptionName) (value : Text) → whole_word name value ≡ 45 ∷ 45 ∷ (name_of name ++ 61 ∷ value)
parted name value = ap (λ (t : Text). 45 ∷ 45 ∷ t) (append_assoc (name_of name) (61 ∷ []) value)

-- the word is two dashes and a body
module _ (word body : Text) (dashed : word ≡ 45 ∷ 45 ∷ body) where
  body_is : (rest : Text) → word ≡ 45 ∷ 45 ∷ rest → body ≡ rest
  body_is rest is = ap (drop 2) (sym dashed ∙ is)

  -- the body has no equals sign
  module _ (cut : IsSplitOnceResult 61 body None) where
    pub name_alone : (name : OptionName) → body ≡ name_of name → word ≡ option_word name None
    name_alone name is = dashed ∙ ap (λ (t : Text). 45 ∷ 45 ∷ t) is

    pub no_name_alone : ((name : OptionName) → body ≢ name_of name) → (name : OptionName) (value : Option Text) → word ≢ option_word name value
    no_name_alone none name None is = none name (body_is (name_of name) is)
    no_name_alone none name (Some value) is =
        let whole : body ≡ name_of name ++ 61 ∷ value = body_is (name_of name ++ 61 ∷ value) (is ∙ parted name value) in
        split_parts 61 body None cut (omega arith) (length (name_of name)) (omega (arith, ap length whole, length-append (name_of name) (61 ∷ value)))
        (ap (λ t. get_or t (length (name_of name)) 0) whole ∙ get_or-append_seam (name_of name) 61 value 0)

  -- the body has one, between these two parts
  module _ (front back : Bor Text) (cut : IsSplitOnceResult 61 body (Some (front, back))) where
    whole_body : body ≡ front.now ++ 61 ∷ back.now
    whole_body = (split_parts 61 body (Some (front, back)) cut (omega arith)).0

    pub name_before : (name : OptionName) → front.now ≡ name_of name → word ≡ option_word name (Some back.now)
    name_before name is = dashed ∙ ap (λ (t : Text). 45 ∷ 45 ∷ t) (whole_body ∙ ap (λ (t : Text). t ++ 61 ∷ back.now) is) ∙ sym (parted name back.now)

    pub no_name_before : ((name : OptionName) → front.now ≢ name_of name) → (name : OptionName) (value : Option Text) → word ≢ option_word name value
    no_name_before none name None is =
        let equals : list_any is_equals word ≡ true = ap (list_any is_equals) (dashed ∙ ap (λ (t : Text). 45 ∷ 45 ∷ t) whole_body) ∙ any_equals front.now back.now in
        let s : true ≡ false = sym equals ∙ ap (list_any is_equals) is ∙ has_no_equals name in
        cc s
    no_name_before none name (Some value) is =
        none name ((split_once_first 61 body (Some (front, back)) cut (omega arith)).1 ∙ ap name_in (sym dashed ∙ is) ∙ name_is_in name value)
