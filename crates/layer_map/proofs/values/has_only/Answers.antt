use Rattle.std.proofs.Common.{Bor, Global, List, ℕ, String, string_bytes, refl, sym, subst, ◌∙◌, Contains}
use Rattle.lists.proofs.Words.{keys, deref, All-push}
use Rattle.std.proofs.lemmas.Map.Iter.{iter_end, iter_turn}
use Rattle.layer_map.specs.inside.ReadValues.{texts_of}
use Rattle.layer_map.proofs.KeyLaws.{all_keys, not_all_keys}
use Rattle.layer_map.proofs.values.has_only.Goals as goal

pub returns-then-not-has_text : goal.returns-then-not-has_text
returns-then-not-has_text c =
    let start = c.into_iter-key-iterator.ensures.into_iter_gives ∙ c.keys-key-items.ensures.rest in
    let turn = iter_turn deref (keys c.args.table.now) c.loop-key.yielded _ _ _ _ start c.loop-key.yielded_by c.in-Some.key c.in-Some.is c.next.ensures.steps in (
      λ same. cc same,
      λ each. absurd (not_all_keys (Contains (texts_of c.args.known.now)) c.args.table.now _ c.in-Some.key.now turn.1
          (λ known. cc (c.has_text.ensures.1 (subst (λ (text : List ℕ). Contains (texts_of c.args.known.now) text) (sym c.as_str.ensures.value) known), c.if-not-has_text.true)) each),
    )

pub loop-key-preserved : goal.loop-key-preserved
loop-key-preserved c =
    All-push (λ (key : Bor (String Global)). Contains (texts_of c.args.known.now) (string_bytes key.now)) c.loop-key.yielded c.in-Some.key c.loop-key.invariant
    (subst (λ (text : List ℕ). Contains (texts_of c.args.known.now) text) c.as_str.ensures.value (c.has_text.ensures.0 c.if-not-has_text.false))

pub returns : goal.returns
returns c =
    let start = c.into_iter-key-iterator.ensures.into_iter_gives ∙ c.keys-key-items.ensures.rest in
    let end = iter_end deref (keys c.args.table.now) c.loop-key.yielded _ _ _ _ start c.loop-key.yielded_by c.in-None.is c.next.ensures.steps in
    (λ _. all_keys (Contains (texts_of c.args.known.now)) c.args.table.now c.loop-key.yielded end.0 c.loop-key.invariant, λ _. refl)
