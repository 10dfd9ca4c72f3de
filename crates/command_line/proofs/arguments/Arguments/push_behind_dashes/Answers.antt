use Rattle.std.proofs.Common.{Bor, ◌≡◌, ℕ, ◌+◌, ◌<◌, ◌≤◌, ◌==◌, List, [], ◌∷◌, ◌++◌, true, false, arith, codes, length, vec_len, map, take, take_all, get_or, refl, ap, sym, ◌∙◌, append_assoc}
use Rattle.lists.proofs.Words.{append-nil, map-append, take_more}
use Rattle.command_line.specs.inside.Arguments.{position_words}
use Rattle.command_line.specs.OptionNames.{Text}
use Rattle.command_line.proofs.CheckLaws.{is_empty}
use Rattle.command_line.proofs.arguments.Arguments.push_behind_dashes.Goals as goal

-- one positional word more
position_more : (start old new : List Text) (items positions : List (Bor Text)) (i : ℕ) (d : Bor Text) → items ≡ positions → i < length items → old ≡ start ++ map (λ word. word.now) (take i positions)
    → new ≡ old ++ (get_or items i d).now ∷ [] → new ≡ start ++ map (λ word. word.now) (take (i + 1) positions)
position_more start old new items positions i d same within before is =
    let within_them : i < length positions = rw same at within in
    let is_more : new ≡ old ++ (get_or positions i d).now ∷ [] = rw same at is in
    let more : map (λ word. word.now) (take (i + 1) positions) ≡ map (λ word. word.now) (take i positions) ++ (get_or positions i d).now ∷ [] =
    ap (map (λ (word : Bor Text). word.now)) (take_more positions i d within_them) ∙ map-append (λ (word : Bor Text). word.now) (take i positions) (get_or positions i d ∷ []) in
    rw (is_more, before, more, append_assoc) refl

-- all positional words behind two dashes, or none
behind_dashes : (start words : List Text) (items positions : List (Bor Text)) (i : ℕ) → items ≡ positions → length items ≤ i → (length positions == 0) ≡ false
    → words ≡ (start ++ codes "--" ∷ []) ++ map (λ word. word.now) (take i positions) → words ≡ start ++ position_words (map (λ word. word.now) positions)
behind_dashes start words items [] i same past some are = cc some
behind_dashes start words items (p ∷ ps) i same past some are =
    let past_them : length (p ∷ ps) ≤ i = rw same at past in
    are ∙ ap (λ (t : List (Bor Text)). (start ++ codes "--" ∷ []) ++ map (λ word. word.now) t) (take_all i (p ∷ ps) past_them)
    ∙ append_assoc start (codes "--" ∷ []) (map (λ (word : Bor Text). word.now) (p ∷ ps))

none_behind : (start : List Text) (positions : List (Bor Text)) → (length positions == 0) ≡ true → start ≡ start ++ position_words (map (λ word. word.now) positions)
none_behind start positions none =
    sym (append-nil start) ∙ ap (λ (ps : List (Bor Text)). start ++ position_words (map (λ word. word.now) ps)) (sym (is_empty positions none))

pub loop-position-preserved : goal.loop-position-preserved
loop-position-preserved c =
    position_more _ _ _ c.deref-position-items.result.now c.args.self.now.positions.items c.loop-position.position-index _ c.deref-position-items.ensures.value c.loop-position-test.true
    c.loop-position.invariant c.in_ok-push_text-2.ensures

pub returns-then-is_empty : goal.returns-then-is_empty
returns-then-is_empty c =
    let long : vec_len c.args.self.now.positions ≡ length c.args.self.now.positions.items = omega arith in
    none_behind _ c.args.self.now.positions.items (ap (λ (n : ℕ). n == 0) (sym long) ∙ sym c.is_empty.ensures ∙ c.if-is_empty.true)

pub returns : goal.returns
returns c =
    let long : vec_len c.args.self.now.positions ≡ length c.args.self.now.positions.items = omega arith in
    behind_dashes _ _ c.deref-position-items.result.now c.args.self.now.positions.items c.loop-position.position-index c.deref-position-items.ensures.value c.loop-position-test.false
    (ap (λ (n : ℕ). n == 0) (sym long) ∙ sym c.is_empty.ensures ∙ c.if-is_empty.false)
    (c.loop-position.invariant ∙ ap (λ (ws : List Text). ws ++ map (λ word. word.now) (take c.loop-position.position-index c.args.self.now.positions.items)) c.in_ok-push_text.ensures)
