-- what the hand that closes a board knows of the totals
use Rattle.std.proofs.Common.{ℕ, zero, suc, ◌+◌, ◌≤◌, ◌<◌, ◌≡◌, refl, sym, ap, subst, ◌∙◌, List, [], ◌∷◌, inl, inr, length, arith, get_or, set, min, All}
use Rattle.std.specs.Prelude.{sum_by, Contains, ◌==◌, if◌then◌else◌}
use Rattle.std.proofs.Math.ListN.{get_elem?}
use mathlib.Core.Option.{some}
use Rattle.std.proofs.lemmas.Bool.Decides.{nat_tests, eqb_tells}
use Rattle.std.proofs.lemmas.List.{get_or-drop, get_or-set_same, get_or-set_other}
use Rattle.std.proofs.lemmas.List.Elements.{All-head, All-tail, All-set, Contains-get_or}
use Rattle.std.proofs.lemmas.List.Sums.{sum_by-cons, sum_by-set, get_or-le-sum_by, count_by-le-length}
use Rattle.atomic_table.specs.Table.{State, Final, Seen}
use Rattle.tile_board.specs.declared.views.Credit.{Credit}
use Rattle.tile_board.specs.declared.views.Limits.{Limits}
use Rattle.tile_board.specs.declared.views.View.{View}
use Rattle.tile_board.specs.Closing.{HasAllDraws, AreFinal, AreAtLeast, AreSums, DrewAll}
use Rattle.tile_board.specs.Counts.{times, credited}
use Rattle.tile_board.specs.Machine.{BoardState, fresh, view_at}
use Rattle.tile_board.specs.Running.{state_of}
use Rattle.tile_board.specs.Sound.{IsSound, once_below}
use Rattle.tile_board.proofs.BoundLaws.{sum_by-none, sum_by-both}
use Rattle.tile_board.proofs.RunningLaws.{seen}

-- a hand that made no draw has no ticket and no credit
none_credited : (tickets : List ℕ) (slot : ℕ) (credits : List Credit) → length tickets ≤ 0 → All (λ c. 0 < times tickets c.ticket) credits
    → sum_by (λ c. if c.slot == slot then c.amount else 0) credits ≡ 0
none_credited tickets slot [] none all = refl
none_credited tickets slot (c ∷ cs) none all =
    let drawn : 0 < times tickets c.ticket = All-head (λ c. 0 < times tickets c.ticket) c cs all in
    absurd (omega (arith, count_by-le-length (λ x. x == c.ticket) tickets, drawn))

-- where a sum is one member's, and another function is 0 wherever the first one is, that one's sum is this member's, too
module _ {X : Type 0} (f g : X → ℕ) where
  sum_by-zero : (xs : List X) → All (λ x. f x ≡ 0 → g x ≡ 0) xs → sum_by f xs ≡ 0 → sum_by g xs ≡ 0
  sum_by-zero [] all none = refl
  sum_by-zero (x ∷ xs) all none =
      let first : f x ≡ 0 = omega (arith, sum_by-cons f x xs, none) in
      let rest : sum_by f xs ≡ 0 = omega (arith, sum_by-cons f x xs, none) in
      let here : g x ≡ 0 = All-head (λ y. f y ≡ 0 → g y ≡ 0) x xs all first in
      omega (arith, sum_by-cons g x xs, here, sum_by-zero xs (All-tail (λ y. f y ≡ 0 → g y ≡ 0) x xs all) rest)

  only_member : (xs : List X) (k : ℕ) (d : X) → k < length xs → f d ≡ 0 → g d ≡ 0 → All (λ x. f x ≡ 0 → g x ≡ 0) xs → sum_by f xs ≡ f (get_or xs k d) → sum_by g xs ≡ g (get_or xs k d)
  only_member xs k d small f_none g_none all whole =
      let others : All (λ x. f x ≡ 0 → g x ≡ 0) (set xs k d) = All-set (λ x. f x ≡ 0 → g x ≡ 0) xs k d (λ _. g_none) all in
      omega (arith, sum_by-set g xs k d d small, g_none, sum_by-zero (set xs k d) others (omega (arith, sum_by-set f xs k d d small, f_none, whole)))

-- a list that has each number below a bound once, and no other, is as long as the bound
below_zero : (x : ℕ) → once_below 0 x ≡ 0
below_zero x = grind (arith, nat_tests)

below_suc : (bound x : ℕ) → once_below (suc bound) x ≡ once_below bound x + (if x == bound then 1 else 0)
below_suc bound x = grind (arith, nat_tests)

is_below : (bound x : ℕ) → x < bound → once_below bound x ≡ 1
is_below bound x small = grind (arith, nat_tests)

below_is : (bound x : ℕ) → 0 < once_below bound x → x < bound
below_is bound x above = grind (arith, nat_tests)

counts_up : (xs : List ℕ) (whole bound : ℕ) → ((x : ℕ) → times xs x ≡ once_below whole x) → bound ≤ whole → sum_by (once_below bound) xs ≡ bound
counts_up xs whole zero each small = sum_by-none (once_below 0) below_zero xs
counts_up xs whole (suc bound) each small =
    let less : bound < whole = omega arith in
    omega (
      arith,
      sum_by-both (once_below bound) (λ x. if x == bound then 1 else 0) (once_below (suc bound)) (below_suc bound) xs,
      counts_up xs whole bound each
          (omega arith),
      each bound,
      is_below whole bound less,
    )

counts_all : (whole : ℕ) (xs : List ℕ) → All (λ x. x < whole) xs → sum_by (once_below whole) xs ≡ length xs
counts_all whole [] all = refl
counts_all whole (x ∷ xs) all =
    omega (arith, sum_by-cons (once_below whole) x xs, is_below whole x (All-head (λ y. y < whole) x xs all), counts_all whole xs (All-tail (λ y. y < whole) x xs all))

same_passes : (x : ℕ) → (if x == x then 1 else 0) ≡ suc zero
same_passes x = grind (arith, nat_tests)

stands_once : (xs : List ℕ) (k d : ℕ) → k < length xs → 0 < times xs (get_or xs k d)
stands_once xs k d small = omega (arith, get_or-le-sum_by (λ x. if x == get_or xs k d then 1 else 0) xs k d small, same_passes (get_or xs k d))

as_long : (xs : List ℕ) (whole : ℕ) → ((x : ℕ) → times xs x ≡ once_below whole x) → length xs ≡ whole
as_long xs whole each =
    let all : All (λ x. x < whole) xs = λ k d small. below_is whole (get_or xs k d) (omega (arith, stands_once xs k d small, each (get_or xs k d))) in
    let up = counts_up xs whole whole each (omega arith) in
    omega (arith, up, counts_all whole xs all)

-- what the state at the end says of a hand
module _ (limits : Limits) (s : BoardState) (h : ℕ) (within : h < length s.views) (sound : IsSound limits s) where
  adds_at_least : (slot : ℕ) → slot < limits.slots → credited (view_at s h) slot ≤ get_or s.totals slot 0
  adds_at_least slot small = omega (arith, sound.totals.sums slot small, get_or-le-sum_by (λ v. credited v slot) s.views h (fresh 0) within)

  -- the sum over all hands of what is 0 for each hand without draws, where this one has all draws
  only_hand : (g : View → ℕ) → g (fresh 0) ≡ 0 → All (λ u. u.made + u.left ≡ 0 → g u ≡ 0) s.views → HasAllDraws limits (view_at s h) → sum_by g s.views ≡ g (view_at s h)
  only_hand g none idle has = only_member (λ u. u.made + u.left) g s.views h (fresh 0) within refl none idle (sound.draws.all ∙ sym has)

  adds_all : HasAllDraws limits (view_at s h) → (slot : ℕ) → slot < limits.slots → get_or s.totals slot 0 ≡ credited (view_at s h) slot
  adds_all has slot small =
      let idle : All (λ u. u.made + u.left ≡ 0 → credited u slot ≡ 0) s.views =
      λ k d inside none. let u : View = get_or s.views k d in none_credited u.tickets slot u.credits (omega (arith, sound.draws.few k d inside, none)) (sound.credits k d inside).drawn in
      sound.totals.sums slot small ∙ only_hand (λ u. credited u slot) refl idle has

  has_each : HasAllDraws limits (view_at s h) → (number : ℕ) → times (view_at s h).tickets number ≡ once_below (min s.next limits.tickets) number
  has_each has number =
      let idle : All (λ u. u.made + u.left ≡ 0 → times u.tickets number ≡ 0) s.views =
      λ k d inside none. omega (arith, sound.draws.few k d inside, none, count_by-le-length (λ x. x == number) (get_or s.views k d).tickets) in
      sym (only_hand (λ u. times u.tickets number) refl idle has) ∙ sound.tickets number

  made_all : HasAllDraws limits (view_at s h) → (view_at s h).made ≡ s.next
  made_all has = sym (only_hand (λ u. u.made) refl (λ k d inside none. omega arith) has) ∙ sound.draws.made

  draws_all : HasAllDraws limits (view_at s h) → length (view_at s h).tickets < (view_at s h).made → DrewAll limits (view_at s h)
  draws_all has more ticket =
      let long = as_long (view_at s h).tickets (min s.next limits.tickets) (has_each has) in
      let gone : min s.next limits.tickets ≡ limits.tickets = omega (arith, long, made_all has, more) in
      let each = has_each has ticket in
      let each' : times (view_at s h).tickets ticket ≡ once_below limits.tickets ticket = each ∙ ap (λ bound. once_below bound ticket) gone in
      (λ drew. below_is limits.tickets ticket (omega (arith, each', drew)), λ small. omega (arith, each', is_below limits.tickets ticket small))

-- a word that is read, and the loop that reads all totals
pub read_word : (words : List ℕ) (i x : ℕ) → get_elem? words i ≡ some x → get_or words i 0 ≡ x
read_word [] i x e = absurd (cc e)
read_word (w ∷ ws) zero x e = cc e
read_word (w ∷ ws) (suc i) x e = read_word ws i x e

pub one_more : (totals words : List ℕ) (slot x : ℕ) → slot < length totals → get_elem? words (slot + 1) ≡ some x → ((k : ℕ) → k < slot → get_or totals k 0 ≡ get_or words (k + 1) 0) →
    (k : ℕ) → k < slot + 1 → get_or (set totals slot x) k 0 ≡ get_or words (k + 1) 0
one_more totals words slot x small read before k below = elim (eqb_tells k slot) [
  | inl e ↦ subst (λ j. get_or (set totals slot x) j 0 ≡ get_or words (j + 1) 0) (sym e.1) (get_or-set_same totals slot x 0 small ∙ sym (read_word words (slot + 1) x read))
  | inr e ↦ let less : k < slot = (let differs = e.1 in omega arith) in get_or-set_other totals slot k x 0 e.1 ∙ before k less
]

pub record IsClosing (limits : Limits) (view : View) (totals : List ℕ) : Type 0 where
  pub final : AreFinal limits view totals
  pub at_least : AreAtLeast limits view totals
  pub exact : HasAllDraws limits view → AreSums limits view totals
  pub all_tickets : HasAllDraws limits view → length view.tickets < view.made → DrewAll limits view

pub closing : (limits : Limits) (id : ℕ) (view : View) (words slots totals : List ℕ) → Final (Seen (λ (s : State ℕ View). IsSound limits (state_of s.words s.views)) id view) words slots →
    length totals ≡ limits.slots → ((slot : ℕ) → slot < length totals → get_or totals slot 0 ≡ get_or words (slot + 1) 0) → IsClosing limits view totals
closing limits id view words slots totals final one_each read =
    let last = final.0 in
    let s : BoardState = state_of last.words last.views in
    let sound : IsSound limits s = final.1.0 in
    let here = seen last.views id view final.1.1 in
    let total : (slot : ℕ) → slot < limits.slots → get_or totals slot 0 ≡ get_or s.totals slot 0 =
    λ slot small. read slot (omega (arith, one_each)) ∙ ap (λ ws. get_or ws (slot + 1) 0) (sym final.2) ∙ ap (λ k. get_or last.words k 0)
    (let turned : slot + 1 ≡ 1 + slot = omega arith in turned) ∙ sym (get_or-drop 1 last.words slot 0) in
    let has_all : HasAllDraws limits view → HasAllDraws limits (view_at s id) = λ has. subst (HasAllDraws limits) (sym here.1) has in
    record {
      final = record { state = s; sound = sound; among = subst (Contains s.views) here.1 (Contains-get_or last.views id (fresh 0) here.0); same = total };
      at_least = λ slot small. let least : credited view slot ≤ get_or s.totals slot 0 = subst (λ u. credited u slot ≤ get_or s.totals slot 0) here.1
          (adds_at_least limits s id here.0 sound slot small) in
          omega (arith, least, total slot small);
      exact = λ has slot small. total slot small ∙ subst (λ u. get_or s.totals slot 0 ≡ credited u slot) here.1 (adds_all limits s id here.0 sound (has_all has) slot small);
      all_tickets = λ has more. subst (DrewAll limits) here.1 (draws_all limits s id here.0 sound (has_all has) (subst (λ u. length u.tickets < u.made) (sym here.1) more));
    }
