-- what holds of each hand by itself
use Rattle.std.proofs.Common.{ℕ, ◌+◌, ◌<◌, ◌≤◌, ◌≡◌, refl, List, [], ◌∷◌, ap, ◌∙◌, arith}
use Rattle.std.specs.Prelude.{nat_lt, if◌then◌else◌, Some, None}
use Rattle.std.proofs.lemmas.Bool.{lt-ltb, le-ltb}
use Rattle.std.proofs.lemmas.Bool.Decides.{nat_tests}
use Rattle.std.proofs.lemmas.List.Elements.{All-nil}
use Rattle.tile_board.specs.declared.views.Credit.{Credit}
use Rattle.tile_board.specs.declared.views.View.{View}
use Rattle.tile_board.specs.Counts.{times, Drew, times_credited}
use Rattle.tile_board.specs.HandFacts.{IsHandView}
use Rattle.tile_board.specs.Machine.{fresh, with_draw, without_draws}
use Rattle.tile_board.proofs.CountLaws.{times-append, none_counted}

-- a hand that gives draws away keeps its tickets and credits
pub fewer_draws : (draws : ℕ) (v : View) → IsHandView v → IsHandView (without_draws draws v)
fewer_draws draws v facts = record { different = facts.different; few = facts.few; drawn = facts.drawn; once = facts.once }

pub fresh_hand : (draws : ℕ) → IsHandView (fresh draws)
fresh_hand draws = record {
  different = λ ticket. omega arith;
  few = omega arith;
  drawn = All-nil (λ (c : Credit). Drew (fresh draws) c.ticket);
  once = λ ticket slot. omega arith;
}

-- a ticket that a hand has just drawn is one of its own, and has no credit yet
pub just_drawn : (tickets number : ℕ) (v w : View) → w ≡ with_draw tickets number v → number < tickets → IsHandView v → IsHandView w → Drew w number × ((slot : ℕ) → times_credited w number slot ≡ 0)
just_drawn tickets number v w same small before after =
    let drawn : List ℕ = if nat_lt number tickets then number ∷ [] else [] in
    let once : times drawn number ≡ 1 = drawn_once number tickets small in
    let together : times w.tickets number ≡ times v.tickets number + times drawn number = ap (λ (u : View). times u.tickets number) same ∙ times-append v.tickets drawn number in
    let new : times v.tickets number ≡ 0 = omega (arith, after.different number, together, once) in
    (omega (arith, together, once), λ slot. ap (λ (u : View). times_credited u number slot) same ∙ none_counted v.tickets number slot v.credits before.drawn new)
  where
    drawn_once : (number tickets : ℕ) → number < tickets → times (if nat_lt number tickets then number ∷ [] else []) number ≡ 1
    drawn_once number tickets small = grind (arith, nat_tests)

-- the answer to a draw
pub answers_ticket : (tickets number next : ℕ) → next ≡ number → number < tickets → Some number ≡ (if nat_lt next tickets then Some next else None)
answers_ticket tickets number next same small = rw (same, lt-ltb number tickets small) refl

pub answers_none : (tickets number next : ℕ) → next ≡ number → tickets ≤ number → None ≡ (if nat_lt next tickets then Some next else None)
answers_none tickets number next same large = rw (same, le-ltb number tickets large) refl
