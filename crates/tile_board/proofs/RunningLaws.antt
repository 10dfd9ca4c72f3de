-- the steps of the running board are events of the machine
use Rattle.std.proofs.Common.{ℕ, zero, suc, ◌+◌, ◌*◌, ◌%◌, ◌^◌, ◌≤◌, ◌<◌, ◌≡◌, refl, sym, ap, subst, ◌∙◌, List, [], ◌∷◌, ◌++◌, length, arith, get_or, set, min, add-one}
use Rattle.std.proofs.Math.ListN.{get_elem?}
use mathlib.Core.Option.{some}
use Rattle.std.proofs.lemmas.List.{length-set, get_or-set_same, get_or-set_other, set-get_or}
use Rattle.atomic_table.proofs.Lists.{set_again}
use Rattle.std.proofs.lemmas.List.Elements.{All-get_or}
use Rattle.std.proofs.lemmas.List.Sums.{get_or-le-sum_by}
use Rattle.tile_board.specs.declared.views.Credit.{Credit}
use Rattle.tile_board.specs.declared.views.Limits.{Limits}
use Rattle.tile_board.specs.declared.views.View.{View}
use Rattle.tile_board.specs.declared.views.TheConstants.{MOST_DRAWS}
use Rattle.tile_board.specs.Counts.{times}
use Rattle.tile_board.specs.HandFacts.{IsHandView}
use Rattle.tile_board.specs.BoardLimits.{AreInRange}
use Rattle.tile_board.specs.Machine.{BoardState, fresh, view_at, with_draw, with_credit, without_draws, with_all_of, MayCredit}
use Rattle.tile_board.specs.Running.{state_of}
use Rattle.tile_board.specs.Sound.{IsSound, CreditsFit}
use Rattle.tile_board.specs.BoardSteps.{IsDraw, IsCredit}
use Rattle.tile_board.proofs.StepLaws.{draw_keeps, credit_keeps, split_keeps}
use Rattle.tile_board.proofs.JoinLaws.{once_at_most, join_keeps}
use Rattle.tile_board.proofs.BoundLaws.{sum_by-within, total_at_most}

-- a view that a seat has stands among the views
pub seen : (views : List View) (id : ℕ) (v : View) → get_elem? views id ≡ some v → (id < length views) × (get_or views id (fresh 0) ≡ v)
seen [] id v e = absurd (cc e)
seen (u ∷ us) zero v e = (omega arith, cc e)
seen (u ∷ us) (suc id) v e = let rest = seen us id v e in (omega (arith, rest.0), rest.1)

-- what a sound state says of one hand
pub hand_view : (limits : Limits) (s : BoardState) (h : ℕ) → h < length s.views → IsSound limits s → IsHandView (view_at s h)
hand_view limits s h within sound =
    let fits = All-get_or (CreditsFit limits) s.views h (fresh 0) within sound.credits in
    record {
      different = λ t. omega (arith, get_or-le-sum_by (λ u. times u.tickets t) s.views h (fresh 0) within, sound.tickets t, once_at_most (min s.next limits.tickets) t);
      few = All-get_or (λ u. length u.tickets ≤ u.made) s.views h (fresh 0) within sound.draws.few;
      drawn = fits.drawn;
      once = fits.once;
    }

-- the same of a view that was written
pub hand_view_at : (limits : Limits) (words : List ℕ) (views : List View) (h : ℕ) (w : View) → h < length views → IsSound limits (state_of words (set views h w)) → IsHandView w
hand_view_at limits words views h w within sound =
    let there : h < length (set views h w) = omega (arith, length-set views h w) in
    subst IsHandView (get_or-set_same views h w (fresh 0) within) (hand_view limits (state_of words (set views h w)) h there sound)

-- no more numbers are gone than there are draws
next_at_most : (limits : Limits) (s : BoardState) → IsSound limits s → s.next ≤ limits.draws
next_at_most limits s sound = omega (arith, sound.draws.made, sound.draws.all, sum_by-within (λ (u : View). u.made) (λ u. u.made + u.left) s.views (λ k d small. omega arith))

-- the hand's view is there before and after a step
changes : (views : List View) (id : ℕ) (v : View) (f : View → View) → (id < length views) × (get_or views id (fresh 0) ≡ v) → get_or (set views id (f (get_or views id (fresh 0)))) id (fresh 0) ≡ f v
changes views id v f here = get_or-set_same views id (f (get_or views id (fresh 0))) (fresh 0) here.0 ∙ ap f here.1

pub running_draw : (limits : Limits) (words : List ℕ) (views : List View) (id : ℕ) (v : View) → AreInRange limits → 0 < v.left → get_elem? views id ≡ some v → IsSound limits (state_of words views) →
    let w : View = with_draw limits.tickets (get_or words 0 0) v in
    IsSound limits (state_of (set words 0 ((get_or words 0 0 + 1) % 2 ^ 64)) (set views id w)) × (IsHandView w × ((step : IsDraw limits v w) × (step.state.next ≡ get_or words 0 0)))
running_draw limits [] views id v ranges left mine sound = absurd (omega (arith, sound.totals.one_each, ranges.some_slots))
running_draw limits (n ∷ ns) views id v ranges left mine sound =
    let here = seen views id v mine in
    let w : View = with_draw limits.tickets n v in
    let left' : 0 < (get_or views id (fresh 0)).left = rw here.1 left in
    let small : (n + 1) % 2 ^ 64 ≡ n + 1 = omega (arith, next_at_most limits (state_of (n ∷ ns) views) sound, ranges.few_draws) in
    let leaves = draw_keeps limits (state_of (n ∷ ns) views) id here.0 left' sound in
    let drawn : IsSound limits (state_of ((n + 1) ∷ ns) (set views id w)) = rw here.1 at leaves in
    let kept : IsSound limits (state_of ((n + 1) % 2 ^ 64 ∷ ns) (set views id w)) = subst (λ m. IsSound limits (state_of (m ∷ ns) (set views id w))) (sym small) drawn in
    let step : IsDraw limits v w = record {
      state = state_of (n ∷ ns) views;
      by = id;
      sound = sound;
      allowed = (here.0, left');
      leaves = leaves;
      had = here.1;
      has = changes views id v
          (with_draw limits.tickets n) here;
    } in
    (kept, (hand_view_at limits ((n + 1) % 2 ^ 64 ∷ ns) views id w here.0 kept, (step, refl)))

pub running_credit : (limits : Limits) (c : Credit) (words : List ℕ) (views : List View) (id : ℕ) (v : View) → AreInRange limits → MayCredit limits v c → get_elem? views id ≡ some v →
    IsSound limits (state_of words views) → let w : View = with_credit c v in
    IsSound limits (state_of (set words (c.slot + 1) ((get_or words (c.slot + 1) 0 + c.amount) % 2 ^ 64)) (set views id w)) × (IsHandView w × IsCredit limits c v w)
running_credit limits c [] views id v ranges may mine sound = absurd (omega (arith, sound.totals.one_each, ranges.some_slots))
running_credit limits c (n ∷ ns) views id v ranges may mine sound =
    let here = seen views id v mine in
    let w : View = with_credit c v in
    let sum : ℕ = get_or ns c.slot 0 + c.amount in
    let may' : MayCredit limits (get_or views id (fresh 0)) c = rw here.1 may in
    let leaves = credit_keeps limits (state_of (n ∷ ns) views) id c here.0 may' sound in
    let added : IsSound limits (state_of (n ∷ set ns c.slot sum) (set views id w)) = rw here.1 at leaves in
    let in_totals : c.slot < length ns = omega (arith, sound.totals.one_each, may.slot) in
    let at_most : get_or (set ns c.slot sum) c.slot 0 ≤ limits.tickets * limits.cap = All-get_or (λ total. total ≤ limits.tickets * limits.cap) (set ns c.slot sum) c.slot 0
    (omega (arith, length-set ns c.slot sum, in_totals)) (total_at_most limits (state_of (n ∷ set ns c.slot sum) (set views id w)) added) in
    let small : sum % 2 ^ 64 ≡ sum = omega (arith, at_most, get_or-set_same ns c.slot sum 0 in_totals, ranges.totals_fit) in
    let kept : IsSound limits (state_of (n ∷ set ns c.slot (sum % 2 ^ 64)) (set views id w)) = subst (λ m. IsSound limits (state_of (n ∷ set ns c.slot m) (set views id w))) (sym small) added in
    let step : IsCredit limits c v w = record {
      state = state_of (n ∷ ns) views;
      by = id;
      sound = sound;
      allowed = (here.0, may');
      leaves = leaves;
      had = here.1;
      has = changes views id v
          (with_credit c) here;
    } in
    rw (add-one c.slot) (kept, (hand_view_at limits (n ∷ set ns c.slot (sum % 2 ^ 64)) views id w here.0 kept, step))

-- the same where what the step was picked for is known by an equation
pub draw_picked : (limits picked : Limits) (words : List ℕ) (views : List View) (id : ℕ) (v : View) → picked ≡ limits → AreInRange limits → 0 < v.left → get_elem? views id ≡ some v
    → IsSound limits (state_of words views) →
    let w : View = with_draw picked.tickets (get_or words 0 0) v in
    IsSound limits (state_of (set words 0 ((get_or words 0 0 + 1) % 2 ^ 64)) (set views id w)) × (IsHandView w × ((step : IsDraw picked v w) × (step.state.next ≡ get_or words 0 0)))
draw_picked limits picked words views id v same ranges left mine sound = rw same (running_draw limits words views id v ranges left mine sound)

pub credit_picked : (limits picked : Limits) (c d : Credit) (words : List ℕ) (views : List View) (id : ℕ) (v : View) → picked ≡ limits → d ≡ c → AreInRange limits → MayCredit limits v c
    → get_elem? views id ≡ some v →
    IsSound limits (state_of words views) → let w : View = with_credit d v in
    IsSound limits (state_of (set words (c.slot + 1) ((get_or words (c.slot + 1) 0 + c.amount) % 2 ^ 64)) (set views id w)) × (IsHandView w × IsCredit picked d v w)
credit_picked limits picked c d words views id v same same_credit ranges may mine sound = rw (same, same_credit) (running_credit limits c words views id v ranges may mine sound)

pub running_split : (limits : Limits) (draws : ℕ) (words : List ℕ) (views : List View) (id : ℕ) (v : View) → draws ≤ v.left → get_elem? views id ≡ some v →
    IsSound limits (state_of words views) → IsSound limits (state_of words (set views id (without_draws draws v) ++ fresh draws ∷ []))
running_split limits draws words views id v enough mine sound =
    let here = seen views id v mine in
    let enough' : draws ≤ (get_or views id (fresh 0)).left = rw here.1 enough in
    rw here.1 at (split_keeps limits (state_of words views) id draws here.0 enough' sound)

pub running_join : (limits : Limits) (words : List ℕ) (views : List View) (id other : ℕ) (v u : View) → get_elem? views id ≡ some v → ¬ (other ≡ id)
    → get_elem? (set views id (with_all_of u v)) other ≡ some u →
    IsSound limits (state_of words views) → IsSound limits (state_of words (set (set views id (with_all_of u v)) other (fresh 0)))
running_join limits words views id other v u mine apart theirs sound =
    let here = seen views id v mine in
    let w : View = with_all_of u v in
    let there = seen (set views id w) other u theirs in
    let there' : get_or views other (fresh 0) ≡ u = sym (get_or-set_other views id other w (fresh 0) apart) ∙ there.1 in
    let within : other < length views = omega (arith, length-set views id w, there.0) in
    rw (here.1, there') at (join_keeps limits (state_of words views) id other here.0 within (λ same. apart (sym same)) sound)

-- what a look at the board tells a hand
pub running_look : (limits : Limits) (words : List ℕ) (views : List View) (id : ℕ) (v : View) → AreInRange limits → get_elem? views id ≡ some v → IsSound limits (state_of words views) →
    IsSound limits (state_of (set words 0 (get_or words 0 0)) (set views id v)) × (IsHandView v × (v.left ≤ MOST_DRAWS))
running_look limits words views id v ranges mine sound =
    let here = seen views id v mine in
    let same_views : set views id v ≡ views = set_again views id v mine in
    let same_words : set words 0 (get_or words 0 0) ≡ words = set-get_or words 0 0 in
    let own : IsHandView v = subst IsHandView here.1 (hand_view limits (state_of words views) id here.0 sound) in
    let part : v.made + v.left ≤ limits.draws = subst (λ (u : View). u.made + u.left ≤ limits.draws) here.1
    (omega (arith, get_or-le-sum_by (λ (u : View). u.made + u.left) views id (fresh 0) here.0, sound.draws.all)) in
    (rw (same_views, same_words) sound, (own, omega (arith, part, ranges.few_draws)))
