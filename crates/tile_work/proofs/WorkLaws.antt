-- how what a worker has done changes, and that one draw is left for the answer that there is no ticket
use Rattle.std.proofs.Common.{ℕ, zero, suc, ◌+◌, ◌-◌, ◌≤◌, ◌<◌, ◌≡◌, ◌≢◌, refl, sym, ap, subst, ◌∙◌, List, [], ◌∷◌, ◌++◌, inl, inr, length, length-append, arith, get_or, All}
use Rattle.std.specs.Prelude.{count_by, ◌==◌, ◌&&◌, nat_lt, if◌then◌else◌}
use Rattle.std.proofs.lemmas.List.Sums.{count_by-le-length}
use Rattle.std.proofs.lemmas.Bool.{lt-ltb, le-ltb}
use Rattle.lists.proofs.Words.{nat_tests, eqb_tells, leb_tells, All-head, All-tail, All-push, All-append, sum_by-cons, sum_by_push, sum_by-append}
use Rattle.tile_board.specs.declared.views.Credit.{Credit}
use Rattle.tile_board.specs.declared.views.View.{View}
use Rattle.tile_board.specs.Counts.{times, times_credited}
use Rattle.tile_board.specs.HandFacts.{IsHandView}
use Rattle.tile_board.specs.Machine.{fresh, with_draw, with_credit, with_all_of}
use Rattle.tile_work.specs.Crediting.{HasCredits}
use Rattle.tile_work.specs.inside.Working.{DrewTickets, IsWorking, IsCrediting, HasWorked}

-- different numbers below a bound are no more than the bound
passes : (x bound : ℕ) → (if nat_lt x (suc bound) then 1 else 0) ≡ (if nat_lt x bound then 1 else 0) + (if x == bound then 1 else 0)
passes x bound = grind (arith, nat_tests)

fails : (x : ℕ) → (if nat_lt x 0 then 1 else 0) ≡ zero
fails x = grind (arith, nat_tests)

passes_below : (x bound : ℕ) → x < bound → (if nat_lt x bound then 1 else 0) ≡ suc zero
passes_below x bound small = grind (arith, nat_tests)

none_below : (xs : List ℕ) → count_by (λ x. nat_lt x 0) xs ≡ 0
none_below [] = refl
none_below (x ∷ xs) = omega (arith, sum_by-cons (λ y. if nat_lt y 0 then 1 else 0) x xs, fails x, none_below xs)

more_below : (bound : ℕ) (xs : List ℕ) → count_by (λ x. nat_lt x (suc bound)) xs ≡ count_by (λ x. nat_lt x bound) xs + times xs bound
more_below bound [] = refl
more_below bound (x ∷ xs) =
    omega (
      arith,
      sum_by-cons (λ y. if nat_lt y (suc bound) then 1 else 0) x xs,
      sum_by-cons (λ y. if nat_lt y bound then 1 else 0) x xs,
      sum_by-cons
          (λ y. if y == bound then 1 else 0) x xs,
      passes x bound,
      more_below bound xs,
    )

few_below : (xs : List ℕ) → ((x : ℕ) → times xs x ≤ 1) → (bound : ℕ) → count_by (λ x. nat_lt x bound) xs ≤ bound
few_below xs once zero = omega (arith, none_below xs)
few_below xs once (suc bound) = omega (arith, more_below bound xs, once bound, few_below xs once bound)

all_below : (bound : ℕ) (xs : List ℕ) → All (λ x. x < bound) xs → count_by (λ x. nat_lt x bound) xs ≡ length xs
all_below bound [] all = refl
all_below bound (x ∷ xs) all =
    omega (arith, sum_by-cons (λ y. if nat_lt y bound then 1 else 0) x xs, passes_below x bound (All-head (λ y. y < bound) x xs all), all_below bound xs (All-tail (λ y. y < bound) x xs all))

-- a worker has a draw left
pub has_draw : (tickets : ℕ) (v : View) → IsHandView v → DrewTickets tickets v → 0 < v.left
has_draw tickets v facts drew = omega (arith, drew.made, drew.draws, few_below v.tickets facts.different tickets, all_below tickets v.tickets drew.below)

-- a draw leaves as many draws in all
pub one_draw : (tickets limit number : ℕ) (v w : View) → IsHandView v → DrewTickets tickets v → w ≡ with_draw limit number v → w.made + w.left ≡ tickets + 1
one_draw tickets limit number v w facts drew is =
    omega (arith, has_draw tickets v facts drew, drew.draws, ap (λ (u : View). u.made) is, ap (λ (u : View). u.left) is)

-- what a draw makes of a view where it gives a ticket
abbrev with_ticket : ℕ → View → View
with_ticket ticket v = record v { tickets = v.tickets ++ ticket ∷ []; made = v.made + 1; left = v.left - 1 }

module _ (tickets slots : ℕ) (IsAmount : ℕ → ℕ → ℕ → Type 0) where
  -- a hand that has done nothing
  pub starts : IsWorking tickets slots IsAmount (fresh (tickets + 1))
  starts = record {
    drew = record { made = refl; draws = omega arith; below = λ k d small. absurd (omega arith) };
    credits = record { each = λ t s drew small. absurd (omega arith); within = λ k d small. absurd (omega arith); amounts = λ k d small. absurd (omega arith) };
  }

  drew_ticket : (v : View) (ticket : ℕ) → ticket < tickets → 0 < v.left → DrewTickets tickets v → DrewTickets tickets (with_ticket ticket v)
  drew_ticket v ticket small some drew = record {
    made = omega (arith, drew.made, length-append v.tickets (ticket ∷ []));
    draws = omega (arith, drew.draws);
    below = All-push (λ t. t < tickets) v.tickets ticket drew.below small;
  }

  -- between tickets a draw gives one more: nothing is credited for it yet
  begins : (v : View) (ticket : ℕ) → ticket < tickets → 0 < v.left → IsWorking tickets slots IsAmount v → ((slot : ℕ) → times_credited v ticket slot ≡ 0)
      → IsCrediting tickets slots IsAmount ticket 0 (with_draw tickets ticket v)
  begins v ticket small some working none = rw (lt-ltb ticket tickets small) (record {
    drew = drew_ticket v ticket small some working.drew;
    here = omega (arith, counted ticket, itself ticket);
    others = λ t slot drew differs within. working.credits.each t slot (omega (arith, counted t, another t differs, drew)) within;
    credited = λ slot below. absurd (omega arith);
    open_still = λ slot _. none slot;
    within = working.credits.within;
    amounts = working.credits.amounts;
  })
    where
      counted : (t : ℕ) → times (v.tickets ++ ticket ∷ []) t ≡ times v.tickets t + (if ticket == t then 1 else 0)
      counted t = sum_by_push (λ x. if x == t then 1 else 0) v.tickets ticket

      itself : (t : ℕ) → (if t == t then 1 else 0) ≡ suc zero
      itself t = grind (arith, nat_tests)

      another : (t : ℕ) → t ≢ ticket → (if ticket == t then 1 else 0) ≡ zero
      another t differs = grind (arith, nat_tests)

  -- one slot more is credited
  pub steps : (v : View) (ticket slot n : ℕ) → slot < slots → IsAmount ticket slot n → IsCrediting tickets slots IsAmount ticket slot v
      → IsCrediting tickets slots IsAmount ticket (slot + 1) (with_credit (record { ticket = ticket; slot = slot; amount = n }) v)
  steps v ticket slot n small its_amount at = record {
    drew = record { made = at.drew.made; draws = at.drew.draws; below = at.drew.below };
    here = at.here;
    others = λ t s drew differs within. omega (arith, counted t s, at.others t s drew differs within, not_its t s differs);
    credited = λ s below. elim (eqb_tells s slot) [
      | inl e ↦ let same = e.1 in omega (arith, counted ticket s, at.open_still s (omega arith), its s same)
      | inr e ↦ let differs = e.1 in omega (arith, counted ticket s, at.credited s (omega arith), not_there s differs)
    ];
    open_still = λ s above. let differs : s ≢ slot = omega arith in omega (arith, counted ticket s, at.open_still s (omega arith), not_there s differs);
    within = All-push (λ d. d.slot < slots) v.credits c at.within small;
    amounts = All-push (λ d. IsAmount d.ticket d.slot d.amount) v.credits c at.amounts its_amount;
  }
    where
      c : Credit
      c = record { ticket = ticket; slot = slot; amount = n }

      counted : (t s : ℕ) → times_credited (with_credit c v) t s ≡ times_credited v t s + (if (ticket == t) && (slot == s) then 1 else 0)
      counted t s = sum_by_push (λ d. if (d.ticket == t) && (d.slot == s) then 1 else 0) v.credits c

      its : (s : ℕ) → s ≡ slot → (if (ticket == ticket) && (slot == s) then 1 else 0) ≡ suc zero
      its s same = grind (arith, nat_tests)

      not_its : (t s : ℕ) → t ≢ ticket → (if (ticket == t) && (slot == s) then 1 else 0) ≡ zero
      not_its t s differs = grind (arith, nat_tests)

      not_there : (s : ℕ) → s ≢ slot → (if (ticket == ticket) && (slot == s) then 1 else 0) ≡ zero
      not_there s differs = grind (arith, nat_tests)

  -- all slots are credited
  pub ends : (v : View) (ticket : ℕ) → IsCrediting tickets slots IsAmount ticket slots v → IsWorking tickets slots IsAmount v
  ends v ticket at = record {
    drew = at.drew;
    credits = record {
      each = λ t slot drew small. elim (eqb_tells t ticket) [
        | inl e ↦ subst (λ u. times_credited v u slot ≡ 1) (sym e.1) (at.credited slot small)
        | inr e ↦ at.others t slot drew e.1 small
      ];
      within = at.within;
      amounts = at.amounts;
    };
  }

  -- a draw that gives no ticket
  stops : (v : View) (number : ℕ) → tickets ≤ number → IsWorking tickets slots IsAmount v → HasWorked slots IsAmount (with_draw tickets number v)
  stops v number large working = rw (le-ltb number tickets large) (record {
    none_left = omega (arith, working.drew.made, length-append v.tickets []);
    credits = record {
      each = λ t slot drew small. working.credits.each t slot (omega (arith, sum_by-append (λ x. if x == t then 1 else 0) v.tickets [], drew)) small;
      within = working.credits.within;
      amounts = working.credits.amounts;
    };
  })

  -- the same of the views before and after, on a board with as many tickets
  pub drawn : (limit ticket : ℕ) (v w : View) → limit ≡ tickets → IsHandView v → IsWorking tickets slots IsAmount v → ticket < limit → w ≡ with_draw limit ticket v →
      ((slot : ℕ) → times_credited w ticket slot ≡ 0) → IsCrediting tickets slots IsAmount ticket 0 w
  drawn limit ticket v w same facts working small is none =
      let is' : w ≡ with_draw tickets ticket v = is ∙ ap (λ n. with_draw n ticket v) same in
      subst (IsCrediting tickets slots IsAmount ticket 0) (sym is')
      (begins v ticket (omega arith) (has_draw tickets v facts working.drew) working (λ slot. subst (λ (u : View). times_credited u ticket slot ≡ 0) is' (none slot)))

  pub stopped : (limit number : ℕ) (v w : View) → limit ≡ tickets → IsWorking tickets slots IsAmount v → limit ≤ number → w ≡ with_draw limit number v → HasWorked slots IsAmount w
  stopped limit number v w same working large is =
      let is' : w ≡ with_draw tickets number v = is ∙ ap (λ n. with_draw n number v) same in
      subst (HasWorked slots IsAmount) (sym is') (stops v number (omega arith) working)

module _ (slots : ℕ) (IsAmount : ℕ → ℕ → ℕ → Type 0) where
  -- a hand that has made no draw has no ticket and no credit
  unused : (v : View) → IsHandView v → v.made ≡ 0 → HasCredits slots IsAmount v
  unused v facts none = record {
    each = λ t slot drew small. absurd (omega (arith, facts.few, count_by-le-length (λ x. x == t) v.tickets, drew));
    within = λ k d small. let drew = facts.drawn k d small in absurd (omega (arith, facts.few, count_by-le-length (λ x. x == (get_or v.credits k d).ticket) v.tickets, drew));
    amounts = λ k d small. let drew = facts.drawn k d small in absurd (omega (arith, facts.few, count_by-le-length (λ x. x == (get_or v.credits k d).ticket) v.tickets, drew));
  }

  -- two hands together: no ticket is in both, since no ticket and slot is credited twice
  joins : (v other : View) → IsHandView (with_all_of other v) → HasCredits slots IsAmount v → HasCredits slots IsAmount other → HasCredits slots IsAmount (with_all_of other v)
  joins v other facts has others = record {
    each = λ t slot drew small. elim (leb_tells 1 (times v.tickets t)) [
      | inl h ↦ omega (arith, counted t slot, facts.once t slot, has.each t slot h.1 small)
      | inr h ↦ let few = h.1 in omega (
        arith,
        counted t slot,
        facts.once t slot,
        others.each t slot
            (omega (arith, sum_by-append (λ x. if x == t then 1 else 0) v.tickets other.tickets, drew, few)) small,
      )
    ];
    within = All-append (λ c. c.slot < slots) v.credits other.credits has.within others.within;
    amounts = All-append (λ c. IsAmount c.ticket c.slot c.amount) v.credits other.credits has.amounts others.amounts;
  }
    where
      counted : (t s : ℕ) → times_credited (with_all_of other v) t s ≡ times_credited v t s + times_credited other t s
      counted t s = sum_by-append (λ d. if (d.ticket == t) && (d.slot == s) then 1 else 0) v.credits other.credits

  pub joined_work : (v other w : View) → IsHandView w → w ≡ with_all_of other v → HasWorked slots IsAmount v → HasWorked slots IsAmount other → HasWorked slots IsAmount w
  joined_work v other w facts is worked others = subst (HasWorked slots IsAmount) (sym is) (record {
    none_left = omega (arith, length-append v.tickets other.tickets, worked.none_left, others.none_left);
    credits = joins v other (subst IsHandView is facts) worked.credits others.credits;
  })

  -- a hand that did nothing, and all that another did
  pub joined_credits : (v other w : View) → IsHandView v → v.made ≡ 0 → IsHandView w → w ≡ with_all_of other v → HasCredits slots IsAmount other → HasCredits slots IsAmount w
  joined_credits v other w idle none facts is others = subst (HasCredits slots IsAmount) (sym is) (joins v other (subst IsHandView is facts) (unused v idle none) others)
