-- a join leaves a sound state
use Rattle.std.proofs.Common.{ℕ, ◌+◌, ◌≤◌, ◌<◌, ◌≡◌, ◌≢◌, refl, sym, ap, ◌∙◌, List, length, length-append, arith, get_or, set, min}
use Rattle.std.specs.Prelude.{sum_by}
use Rattle.std.proofs.lemmas.Bool.Decides.{nat_tests}
use Rattle.std.proofs.lemmas.List.{length-set, get_or-set_other}
use Rattle.std.proofs.lemmas.List.Elements.{All-set, All-get_or, All-append, All-weaker}
use Rattle.std.proofs.lemmas.List.Sums.{sum_by-set, get_or-le-sum_by}
use Rattle.tile_board.specs.declared.views.Limits.{Limits}
use Rattle.tile_board.specs.declared.views.View.{View}
use Rattle.tile_board.specs.Counts.{times, Drew, credited}
use Rattle.tile_board.specs.Machine.{BoardState, join, fresh, view_at, with_all_of, after_event}
use Rattle.tile_board.specs.Sound.{IsSound, CreditsFit, once_below}
use Rattle.tile_board.proofs.CountLaws.{times-append, times_credited-join, credited-join, credited_within}
use Rattle.tile_board.proofs.StepLaws.{fresh_fits}

-- a sum in which one member has taken in another, which is spent
joined_sum : (f : View → ℕ) (views : List View) (h g : ℕ) (w : View) → h < length views → g < length views → h ≢ g → f (fresh 0) ≡ 0
    → f w ≡ f (get_or views h (fresh 0)) + f (get_or views g (fresh 0)) → sum_by f (set (set views h w) g (fresh 0)) ≡ sum_by f views
joined_sum f views h g w h_in g_in apart spent both =
    let g_in' : g < length (set views h w) = omega (arith, length-set views h w) in
    let other = ap f (get_or-set_other views h g w (fresh 0) (λ same. apart (sym same))) in
    omega (arith, sum_by-set f views h w (fresh 0) h_in, sum_by-set f (set views h w) g (fresh 0) (fresh 0) g_in', other, both, spent)

-- two members of a sum are no more than the whole
pub two_within : (f : View → ℕ) (views : List View) (h g : ℕ) → h < length views → g < length views → h ≢ g → f (fresh 0) ≡ 0
    → f (get_or views h (fresh 0)) + f (get_or views g (fresh 0)) ≤ sum_by f views
two_within f views h g h_in g_in apart spent =
    let g_in' : g < length (set views h (fresh 0)) = omega (arith, length-set views h (fresh 0)) in
    let other = ap f (get_or-set_other views h g (fresh 0) (fresh 0) (λ same. apart (sym same))) in
    omega (arith, sum_by-set f views h (fresh 0) (fresh 0) h_in, get_or-le-sum_by f (set views h (fresh 0)) g (fresh 0) g_in', other, spent)

pub once_at_most : (bound number : ℕ) → once_below bound number ≤ 1
once_at_most bound number = grind (arith, nat_tests)

-- no ticket is with two hands, so the credits of both are for different tickets
join_fits : (limits : Limits) (v g : View) → ((t : ℕ) → times v.tickets t + times g.tickets t ≤ 1) → CreditsFit limits v → CreditsFit limits g → CreditsFit limits (with_all_of g v)
join_fits limits v g apart fits fits' =
    let w : View = with_all_of g v in
    record {
      drawn = All-append (λ c. Drew w c.ticket) v.credits g.credits
          (All-weaker (λ c. Drew v c.ticket) (λ c. Drew w c.ticket) (λ c drawn. omega (arith, times-append v.tickets g.tickets c.ticket)) v.credits fits.drawn)
          (All-weaker (λ c. Drew g c.ticket) (λ c. Drew w c.ticket) (λ c drawn. omega (arith, times-append v.tickets g.tickets c.ticket)) g.credits fits'.drawn);
      slots = All-append (λ c. c.slot < limits.slots) v.credits g.credits fits.slots fits'.slots;
      amounts = All-append (λ c. c.amount ≤ limits.cap) v.credits g.credits fits.amounts fits'.amounts;
      once = λ t s. omega (arith, times_credited-join v g t s, credited_within limits v fits t s, credited_within limits g fits' t s, apart t);
    }

pub join_keeps : (limits : Limits) (s : BoardState) (h g : ℕ) → h < length s.views → g < length s.views → h ≢ g → IsSound limits s → IsSound limits (after_event limits s (join h g))
join_keeps limits s h g h_in g_in apart sound =
    let v : View = view_at s h in
    let other : View = view_at s g in
    let w : View = with_all_of other v in
    let fits = All-get_or (CreditsFit limits) s.views h (fresh 0) h_in sound.credits in
    let fits' = All-get_or (CreditsFit limits) s.views g (fresh 0) g_in sound.credits in
    let few = All-get_or (λ u. length u.tickets ≤ u.made) s.views h (fresh 0) h_in sound.draws.few in
    let few' = All-get_or (λ u. length u.tickets ≤ u.made) s.views g (fresh 0) g_in sound.draws.few in
    let once : (t : ℕ) → times v.tickets t + times other.tickets t ≤ 1 =
    λ t. omega (arith, two_within (λ u. times u.tickets t) s.views h g h_in g_in apart refl, sound.tickets t, once_at_most (min s.next limits.tickets) t) in
    record {
      draws = record {
        made = joined_sum (λ u. u.made) s.views h g w h_in g_in apart refl refl ∙ sound.draws.made;
        all = joined_sum (λ u. u.made + u.left) s.views h g w h_in g_in apart refl (omega arith) ∙ sound.draws.all;
        few = All-set (λ u. length u.tickets ≤ u.made) (set s.views h w) g (fresh 0) (omega arith)
            (All-set (λ u. length u.tickets ≤ u.made) s.views h w (omega (arith, length-append v.tickets other.tickets, few, few')) sound.draws.few);
      };
      tickets = λ t. joined_sum (λ u. times u.tickets t) s.views h g w h_in g_in apart refl (times-append v.tickets other.tickets t) ∙ sound.tickets t;
      credits = All-set (CreditsFit limits) (set s.views h w) g (fresh 0) (fresh_fits limits 0) (All-set (CreditsFit limits) s.views h w (join_fits limits v other once fits fits') sound.credits);
      totals = record {
        one_each = sound.totals.one_each;
        sums = λ slot small. sound.totals.sums slot small ∙ sym (joined_sum (λ u. credited u slot) s.views h g w h_in g_in apart refl (credited-join v other slot));
      };
    }
