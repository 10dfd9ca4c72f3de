use Rattle.std.proofs.Common.{Bor, Global, ◌≡◌, ℕ, ◌+◌, ◌<◌, ◌≤◌, List, [], ◌∷◌, ◌++◌, String, string_bytes, length, map, take, take_all, get_or, ap, sym, ◌∙◌, append_assoc}
use Rattle.lists.proofs.Words.{map-append, take_more}
use Rattle.command_line.specs.inside.Arguments.{words_of_options}
use Rattle.command_line.specs.OptionNames.{Text}
use Rattle.command_line.specs.Spelling.{whole_word}
use Rattle.command_line.specs.declared.option_name.OptionName.{OptionName}
use Rattle.command_line.proofs.arguments.Arguments.push_options.Goals as goal

-- an option with its value, without where that lies
abbrev told : OptionName × Bor Text → OptionName × Text
told option = (option.0, option.1.now)

module _ (start : List Text) (items options : List (OptionName × Bor Text)) (same : items ≡ options) (i : ℕ) where
  -- one option more
  option_more : (old new : List (String Global)) (word : String Global) (d : OptionName × Bor Text) → i < length items
      → map string_bytes old ≡ start ++ words_of_options (map told (take i options)) → new ≡ old ++ word ∷ [] → string_bytes word ≡ whole_word (get_or items i d).0 (get_or items i d).1.now
      → map string_bytes new ≡ start ++ words_of_options (map told (take (i + 1) options))
  option_more old new word d within before is made =
      let within_them : i < length options = rw same at within in
      let made_of : string_bytes word ≡ whole_word (get_or options i d).0 (get_or options i d).1.now = rw same at made in
      let option = get_or options i d in
      let so_far : List Text = words_of_options (map told (take i options)) in
      let more : words_of_options (map told (take (i + 1) options)) ≡ so_far ++ whole_word option.0 option.1.now ∷ [] =
      ap (λ (xs : List (OptionName × Bor Text)). words_of_options (map told xs)) (take_more options i d within_them) ∙ ap words_of_options (map-append told (take i options) (option ∷ []))
      ∙ map-append (λ (o : OptionName × Text). whole_word o.0 o.1) (map told (take i options)) (told option ∷ []) in
      ap (map string_bytes) is ∙ map-append string_bytes old (word ∷ []) ∙ ap (λ (ts : List Text). ts ++ string_bytes word ∷ []) before
      ∙ ap (λ (t : Text). (start ++ so_far) ++ t ∷ []) made_of ∙ append_assoc start so_far (whole_word option.0 option.1.now ∷ []) ∙ ap (λ (ts : List Text). start ++ ts) (sym more)

  -- all options
  all_options : (words : List Text) → length items ≤ i → words ≡ start ++ words_of_options (map told (take i options)) → words ≡ start ++ words_of_options (map told options)
  all_options words past are =
      let past_them : length options ≤ i = rw same at past in
      are ∙ ap (λ (xs : List (OptionName × Bor Text)). start ++ words_of_options (map told xs)) (take_all i options past_them)

pub loop-name-preserved : goal.loop-name-preserved
loop-name-preserved c =
    option_more _ c.deref-name-items.result.now c.args.self.now.options.items c.deref-name-items.ensures.value c.loop-name.name-index _ _ _ _ c.loop-name-test.true c.loop-name.invariant
    c.in_ok-push.ensures.items c.in_ok-whole_word.ensures

pub returns : goal.returns
returns c =
    all_options _ c.deref-name-items.result.now c.args.self.now.options.items c.deref-name-items.ensures.value c.loop-name.name-index _ c.loop-name-test.false c.loop-name.invariant
