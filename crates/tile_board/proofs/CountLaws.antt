-- how counts of tickets and credits change
use Rattle.std.proofs.Common.{ℕ, zero, suc, ◌+◌, ◌≤◌, ◌<◌, ◌≡◌, ◌≢◌, refl, ap, List, [], ◌∷◌, ◌++◌, arith, min, All}
use Rattle.std.specs.Prelude.{count_by, ◌==◌, ◌&&◌, nat_lt, if◌then◌else◌}
use Rattle.std.proofs.lemmas.Bool.Decides.{nat_tests}
use Rattle.std.proofs.lemmas.List.Elements.{All-weaker, All-head, All-tail}
use Rattle.std.proofs.lemmas.List.Sums.{sum_by-cons, sum_by_push, sum_by-append}
use Rattle.tile_board.specs.declared.views.Credit.{Credit}
use Rattle.tile_board.specs.declared.views.Limits.{Limits}
use Rattle.tile_board.specs.declared.views.View.{View}
use Rattle.tile_board.specs.Counts.{times, Drew, times_credited, credited}
use Rattle.tile_board.specs.Machine.{with_credit, with_all_of}
use Rattle.tile_board.specs.Sound.{CreditsFit, once_below}

pub times-append : (xs ys : List ℕ) (n : ℕ) → times (xs ++ ys) n ≡ times xs n + times ys n
times-append xs ys n = sum_by-append (λ x. if x == n then 1 else 0) xs ys

-- a number that is drawn joins the tickets where it is one
pub times-drawn : (tickets number x : ℕ) → times (if nat_lt number tickets then number ∷ [] else []) x + once_below (min number tickets) x ≡ once_below (min (number + 1) tickets) x
times-drawn tickets number x = grind (arith, nat_tests)

-- credits that fit a hand fit it with more tickets
pub fit_more_tickets : (limits : Limits) (v w : View) → w.credits ≡ v.credits → ((t : ℕ) → times v.tickets t ≤ times w.tickets t) → CreditsFit limits v → CreditsFit limits w
fit_more_tickets limits v w same more fits = record {
  drawn = rw same (All-weaker (λ c. Drew v c.ticket) (λ c. Drew w c.ticket) (λ c drawn. omega (arith, more c.ticket)) v.credits fits.drawn);
  slots = rw same fits.slots;
  amounts = rw same fits.amounts;
  once = λ t s. rw same (fits.once t s);
}

-- a credit counts at its own ticket and slot, and adds to its own slot
pub times_credited-push : (v : View) (c : Credit) (t s : ℕ) → times_credited (with_credit c v) t s ≡ times_credited v t s + (if (c.ticket == t) && (c.slot == s) then 1 else 0)
times_credited-push v c t s = sum_by_push (λ d. if (d.ticket == t) && (d.slot == s) then 1 else 0) v.credits c

pub credited-push : (v : View) (c : Credit) (s : ℕ) → credited (with_credit c v) s ≡ credited v s + (if c.slot == s then c.amount else 0)
credited-push v c s = sum_by_push (λ d. if d.slot == s then d.amount else 0) v.credits c

pub times_credited-join : (v g : View) (t s : ℕ) → times_credited (with_all_of g v) t s ≡ times_credited v t s + times_credited g t s
times_credited-join v g t s = sum_by-append (λ d. if (d.ticket == t) && (d.slot == s) then 1 else 0) v.credits g.credits

pub credited-join : (v g : View) (s : ℕ) → credited (with_all_of g v) s ≡ credited v s + credited g s
credited-join v g s = sum_by-append (λ d. if d.slot == s then d.amount else 0) v.credits g.credits

-- a count of credits is 0 where each of them is for a ticket of the list, and this ticket is not in it
pub none_counted : (tickets : List ℕ) (t s : ℕ) (credits : List Credit) → All (λ c. 0 < times tickets c.ticket) credits → times tickets t ≡ 0
    → count_by (λ c. (c.ticket == t) && (c.slot == s)) credits ≡ 0
none_counted tickets t s [] all none = refl
none_counted tickets t s (c ∷ cs) all none =
    let here : 0 < times tickets c.ticket = All-head (λ c. 0 < times tickets c.ticket) c cs all in
    let differs : c.ticket ≢ t = λ same. let k = ap (times tickets) same in omega arith in
    let rest = none_counted tickets t s cs (All-tail (λ c. 0 < times tickets c.ticket) c cs all) none in
    let count : ℕ = if (c.ticket == t) && (c.slot == s) then 1 else 0 in
    let not_here : count ≡ 0 = grind (arith, nat_tests) in
    omega (arith, sum_by-cons (λ d. if (d.ticket == t) && (d.slot == s) then 1 else 0) c cs, rest, not_here)

-- a ticket and slot are credited at most as often as the ticket was drawn
pub credited_within : (limits : Limits) (v : View) → CreditsFit limits v → (t s : ℕ) → times_credited v t s ≤ times v.tickets t
credited_within limits v fits t s = within (times v.tickets t) refl
  where
    within : (n : ℕ) → times v.tickets t ≡ n → times_credited v t s ≤ times v.tickets t
    within zero none = omega (arith, none_counted v.tickets t s v.credits fits.drawn none)
    within (suc n) some = omega (arith, fits.once t s, some)
