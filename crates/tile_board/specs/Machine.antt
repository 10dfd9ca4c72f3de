-- the board as a machine: its states, its events, where each of them is allowed, and what each changes
use Rattle.std.specs.Prelude.{ℕ, ◌+◌, ◌-◌, ◌<◌, ◌≤◌, ◌≡◌, ◌≢◌, List, [], ◌∷◌, ◌++◌, length, replicate, nat_lt}
use Rattle.std.specs.Prelude.{slice_index, slice_index_or, slice_set, if◌then◌else◌, ⊤}
use Rattle.tile_board.specs.Counts.{Drew, times_credited}
use Rattle.tile_board.specs.declared.views.Credit.{Credit}
use Rattle.tile_board.specs.declared.views.Limits.{Limits}
use Rattle.tile_board.specs.declared.views.View.{View}

-- the number that is drawn next, a total for each slot, and a view for each hand that was made
pub record BoardState : Type 0 where
  pub next : ℕ
  pub totals : List ℕ
  pub views : List View

-- what happens, one thing at a time. Hands go by the numbers of their views
pub data Event : Type 0 where
  draw : (by : ℕ) → Event
  credit : (by : ℕ) → Credit → Event
  split : (from draws : ℕ) → Event
  join : (into other : ℕ) → Event

-- the view of a hand that has done nothing and may draw so often. Where it may not, it is the view of a spent hand
abbrev pub fresh : ℕ → View
fresh draws = record { tickets = []; credits = []; made = 0; left = draws }

-- the view with this number
abbrev pub view_at : BoardState → ℕ → View
view_at s hand = slice_index_or s.views hand (fresh 0)

-- at the start nothing is drawn or added, and there is one hand, with all draws
abbrev pub opening : Limits → BoardState
opening limits = record { next = 0; totals = replicate limits.slots 0; views = fresh limits.draws ∷ [] }

-- a view after a draw: the number drawn joins the tickets if it is one, which the numbers below a bound are
abbrev pub with_draw : ℕ → ℕ → View → View
with_draw bound number v =
    let ticket : List ℕ = if nat_lt number bound then number ∷ [] else [] in
    record v { tickets = v.tickets ++ ticket; made = v.made + 1; left = v.left - 1 }

-- a view after a credit
abbrev pub with_credit : Credit → View → View
with_credit c v = record v { credits = v.credits ++ c ∷ [] }

-- a view after a split, which gives draws away
abbrev pub without_draws : ℕ → View → View
without_draws draws v = record v { left = v.left - draws }

-- a view after a join, which takes in all that another hand has
abbrev pub with_all_of : View → View → View
with_all_of other v =
    record {
      tickets = v.tickets ++ other.tickets;
      credits = v.credits ++ other.credits;
      made = v.made + other.made;
      left = v.left + other.left;
    }

-- the hand drew the ticket and has no credit to the slot for it, and slot and amount are within limits
pub record MayCredit (limits : Limits) (v : View) (c : Credit) : Type 0 where
  pub drawn : Drew v c.ticket
  pub first : times_credited v c.ticket c.slot ≡ 0
  pub slot : c.slot < limits.slots
  pub amount : c.amount ≤ limits.cap

-- the event may happen in the state
abbrev pub IsAllowed : Limits → BoardState → Event → Type 0
IsAllowed limits s (draw h) = (h < length s.views) × (0 < (view_at s h).left)
IsAllowed limits s (credit h c) = (h < length s.views) × MayCredit limits (view_at s h) c
IsAllowed limits s (split h draws) = (h < length s.views) × (draws ≤ (view_at s h).left)
IsAllowed limits s (join h g) = (h < length s.views) × (g < length s.views) × (h ≢ g)

-- the views after one of them has changed
abbrev pub changed : BoardState → ℕ → View → List View
changed s h v = slice_set s.views h v

-- what the event leaves
abbrev pub after_event : Limits → BoardState → Event → BoardState
after_event limits s (draw h) =
    record s { next = s.next + 1; views = changed s h (with_draw limits.tickets s.next (view_at s h)) }
after_event limits s (credit h c) =
    let total = slice_index s.totals c.slot + c.amount in
    record s { totals = slice_set s.totals c.slot total; views = changed s h (with_credit c (view_at s h)) }
after_event limits s (split h draws) =
    record s { views = changed s h (without_draws draws (view_at s h)) ++ fresh draws ∷ [] }
after_event limits s (join h g) =
    record s { views = slice_set (changed s h (with_all_of (view_at s g) (view_at s h))) g (fresh 0) }

-- the events may happen one after another from the state on
abbrev pub AreAllowed : Limits → BoardState → List Event → Type 0
AreAllowed limits s [] = ⊤
AreAllowed limits s (e ∷ es) = IsAllowed limits s e × AreAllowed limits (after_event limits s e) es

-- what they leave
abbrev pub after_events : Limits → BoardState → List Event → BoardState
after_events limits s [] = s
after_events limits s (e ∷ es) = after_events limits (after_event limits s e) es
