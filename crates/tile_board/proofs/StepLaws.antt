-- draws, credits and splits leave a sound state
use Rattle.std.proofs.Common.{inl, inr, ℕ, ◌+◌, ◌≤◌, ◌<◌, ◌≡◌, refl, sym, ap, ◌∙◌, List, [], ◌∷◌, length, length-append, arith, get_or, set}
use Rattle.std.specs.Prelude.{◌==◌, ◌&&◌, nat_lt, if◌then◌else◌}
use Rattle.std.proofs.lemmas.Bool.Decides.{nat_tests, eqb_tells}
use Rattle.std.proofs.lemmas.List.{length-set, get_or-set_same, get_or-set_other}
use Rattle.std.proofs.lemmas.List.Elements.{All-nil, All-set, All-get_or, All-push}
use Rattle.std.proofs.lemmas.List.Sums.{sum_by_push, sum_by-set}
use Rattle.tile_board.specs.declared.views.Credit.{Credit}
use Rattle.tile_board.specs.declared.views.Limits.{Limits}
use Rattle.tile_board.specs.declared.views.View.{View}
use Rattle.tile_board.specs.Counts.{times, Drew, times_credited, credited}
use Rattle.tile_board.specs.Machine.{BoardState, draw, credit, split, fresh, view_at, with_draw, with_credit, without_draws, MayCredit, after_event}
use Rattle.tile_board.specs.Sound.{IsSound, DrawsAddUp, CreditsFit}
use Rattle.tile_board.proofs.CountLaws.{times-append, times-drawn, fit_more_tickets, times_credited-push, credited-push}

ticket_list : (tickets number : ℕ) → length (if nat_lt number tickets then number ∷ [] else []) ≤ 1
ticket_list tickets number = grind (arith, nat_tests)

-- one draw more
drawn_add_up : (limits : Limits) (s : BoardState) (h : ℕ) → h < length s.views → 0 < (view_at s h).left → DrawsAddUp limits s → DrawsAddUp limits (after_event limits s (draw h))
drawn_add_up limits s h within left draws =
    let v : View = view_at s h in
    let w : View = with_draw limits.tickets s.next v in
    let drawn : List ℕ = if nat_lt s.next limits.tickets then s.next ∷ [] else [] in
    record {
      made = omega (arith, sum_by-set (λ (u : View). u.made) s.views h w (fresh 0) within, draws.made);
      all = omega (arith, sum_by-set (λ (u : View). u.made + u.left) s.views h w (fresh 0) within, draws.all);
      few = All-set (λ u. length u.tickets ≤ u.made) s.views h w (omega (
        arith,
        All-get_or (λ u. length u.tickets ≤ u.made) s.views h (fresh 0) within draws.few,
        length-append v.tickets drawn,
        ticket_list limits.tickets s.next,
      )) draws.few;
    }

pub draw_keeps : (limits : Limits) (s : BoardState) (h : ℕ) → h < length s.views → 0 < (view_at s h).left → IsSound limits s → IsSound limits (after_event limits s (draw h))
draw_keeps limits s h within left sound =
    let v : View = view_at s h in
    let w : View = with_draw limits.tickets s.next v in
    let drawn : List ℕ = if nat_lt s.next limits.tickets then s.next ∷ [] else [] in
    record {
      draws = drawn_add_up limits s h within left sound.draws;
      tickets = λ number. omega (
        arith,
        sum_by-set (λ (u : View). times u.tickets number) s.views h w
            (fresh 0) within,
        sound.tickets number,
        times-append v.tickets drawn number,
        times-drawn limits.tickets s.next number,
      );
      credits = All-set (CreditsFit limits) s.views h w (fit_more_tickets limits v w refl (λ t. omega (arith, times-append v.tickets drawn t))
          (All-get_or (CreditsFit limits) s.views h (fresh 0) within sound.credits)) sound.credits;
      totals = record {
        one_each = sound.totals.one_each;
        sums = λ slot small. omega (arith, sum_by-set (λ (u : View). credited u slot) s.views h w (fresh 0) within, sound.totals.sums slot small);
      };
    }

-- a total that one credit has changed
total_after : (totals : List ℕ) (at amount slot : ℕ) → at < length totals → get_or (set totals at (get_or totals at 0 + amount)) slot 0 ≡ get_or totals slot 0 + (if at == slot then amount else 0)
total_after totals at amount slot within = elim (eqb_tells at slot) [
  | inl e ↦ let here = get_or-set_same totals at (get_or totals at 0 + amount) 0 within in let same = ap (λ k. get_or (set totals at (get_or totals at 0 + amount)) k 0)
      (e.1) in let same' = ap (λ k. get_or totals k 0) e.1 in rw e.0 (omega (arith, here, same, same'))
  | inr e ↦ let there = get_or-set_other totals at slot (get_or totals at 0 + amount) 0 (λ same. e.1 (sym same)) in rw e.0 (omega (arith, there))
]

-- at most one credit of a hand is for the ticket and slot of a new one
credit_fits : (limits : Limits) (v : View) (c : Credit) → MayCredit limits v c → CreditsFit limits v → CreditsFit limits (with_credit c v)
credit_fits limits v c may fits = record {
  drawn = All-push (λ d. Drew v d.ticket) v.credits c fits.drawn may.drawn;
  slots = All-push (λ d. d.slot < limits.slots) v.credits c fits.slots may.slot;
  amounts = All-push (λ d. d.amount ≤ limits.cap) v.credits c fits.amounts may.amount;
  once = λ t s. omega (arith, times_credited-push v c t s, once_more t s);
}
  where
    once_more : (t s : ℕ) → times_credited v t s + (if (c.ticket == t) && (c.slot == s) then 1 else 0) ≤ 1
    once_more t s =
        let before = fits.once t s in
        let first : c.ticket ≡ t → c.slot ≡ s → times_credited v t s ≡ 0 = λ a b. ap (times_credited v t) (sym b) ∙ ap (λ k. times_credited v k c.slot) (sym a) ∙ may.first in
        elim (eqb_tells c.ticket t) [
          | inl a ↦ elim (eqb_tells c.slot s) [
            | inl b ↦ rw (a.0, b.0) (omega (arith, first a.1 b.1))
            | inr b ↦ rw (a.0, b.0) (omega (arith, before))
          ]
          | inr a ↦ rw a.0 (omega (arith, before))
        ]

pub credit_keeps : (limits : Limits) (s : BoardState) (h : ℕ) (c : Credit) → h < length s.views → MayCredit limits (view_at s h) c → IsSound limits s
    → IsSound limits (after_event limits s (credit h c))
credit_keeps limits s h c within may sound =
    let v : View = view_at s h in
    let w : View = with_credit c v in
    let in_totals : c.slot < length s.totals = omega (arith, sound.totals.one_each, may.slot) in
    record {
      draws = record {
        made = omega (arith, sum_by-set (λ (u : View). u.made) s.views h w (fresh 0) within, sound.draws.made);
        all = omega (arith, sum_by-set (λ (u : View). u.made + u.left) s.views h w (fresh 0) within, sound.draws.all);
        few = All-set (λ u. length u.tickets ≤ u.made) s.views h w (All-get_or (λ u. length u.tickets ≤ u.made) s.views h (fresh 0) within sound.draws.few) sound.draws.few;
      };
      tickets = λ number. omega (arith, sum_by-set (λ (u : View). times u.tickets number) s.views h w (fresh 0) within, sound.tickets number);
      credits = All-set (CreditsFit limits) s.views h w (credit_fits limits v c may (All-get_or (CreditsFit limits) s.views h (fresh 0) within sound.credits)) sound.credits;
      totals = record {
        one_each = omega (arith, length-set s.totals c.slot (get_or s.totals c.slot 0 + c.amount), sound.totals.one_each);
        sums = λ slot small. omega (
          arith,
          sum_by-set (λ (u : View). credited u slot) s.views h w
              (fresh 0) within,
          sound.totals.sums slot small,
          credited-push v c slot,
          total_after s.totals c.slot c.amount slot in_totals,
        );
      };
    }

pub fresh_fits : (limits : Limits) (draws : ℕ) → CreditsFit limits (fresh draws)
fresh_fits limits draws = record {
  drawn = All-nil (λ c. Drew (fresh draws) c.ticket);
  slots = All-nil (λ c. c.slot < limits.slots);
  amounts = All-nil (λ c. c.amount ≤ limits.cap);
  once = λ t s. omega arith;
}

-- some draws given away
split_draws_add_up : (limits : Limits) (s : BoardState) (h draws : ℕ) → h < length s.views → draws ≤ (view_at s h).left → DrawsAddUp limits s
    → DrawsAddUp limits (after_event limits s (split h draws))
split_draws_add_up limits s h draws within enough sums =
    let w : View = without_draws draws (view_at s h) in
    let views : List View = set s.views h w in
    record {
      made = omega (arith, sum_by-set (λ (u : View). u.made) s.views h w (fresh 0) within, sum_by_push (λ (u : View). u.made) views (fresh draws), sums.made);
      all = omega (arith, sum_by-set (λ (u : View). u.made + u.left) s.views h w (fresh 0) within, sum_by_push (λ (u : View). u.made + u.left) views (fresh draws), sums.all);
      few = All-push (λ u. length u.tickets ≤ u.made) views (fresh draws)
          (All-set (λ u. length u.tickets ≤ u.made) s.views h w (All-get_or (λ u. length u.tickets ≤ u.made) s.views h (fresh 0) within sums.few) sums.few) (omega arith);
    }

pub split_keeps : (limits : Limits) (s : BoardState) (h draws : ℕ) → h < length s.views → draws ≤ (view_at s h).left → IsSound limits s → IsSound limits (after_event limits s (split h draws))
split_keeps limits s h draws within enough sound =
    let v : View = view_at s h in
    let w : View = without_draws draws v in
    let views : List View = set s.views h w in
    let fits = All-get_or (CreditsFit limits) s.views h (fresh 0) within sound.credits in
    record {
      draws = split_draws_add_up limits s h draws within enough sound.draws;
      tickets = λ number. omega (
        arith,
        sum_by-set (λ (u : View). times u.tickets number) s.views h w (fresh 0) within,
        sum_by_push (λ (u : View). times u.tickets number) views
            (fresh draws),
        sound.tickets number,
      );
      credits = All-push (CreditsFit limits) views (fresh draws) (All-set (CreditsFit limits) s.views h w (fit_more_tickets limits v w refl (λ t. omega arith) fits) sound.credits)
          (fresh_fits limits draws);
      totals = record {
        one_each = sound.totals.one_each;
        sums = λ slot small. omega (
          arith,
          sum_by-set (λ (u : View). credited u slot) s.views h w (fresh 0) within,
          sum_by_push (λ (u : View). credited u slot) views
              (fresh draws),
          sound.totals.sums slot small,
        );
      };
    }
