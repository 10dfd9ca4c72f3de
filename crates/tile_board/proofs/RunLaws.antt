-- runs of the machine
use Rattle.std.proofs.Common.{ℕ, ◌≤◌, ◌≡◌, refl, List, [], ◌∷◌, length, arith, min}
use Rattle.std.proofs.lemmas.Bool.Decides.{nat_tests}
use Rattle.std.proofs.lemmas.List.{length-replicate, get_or-replicate}
use Rattle.std.proofs.lemmas.List.Elements.{All-nil, All-cons}
use Rattle.tile_board.specs.declared.views.Limits.{Limits}
use Rattle.tile_board.specs.declared.views.View.{View}
use Rattle.tile_board.specs.Machine.{BoardState, Event, draw, credit, split, join, fresh, opening, IsAllowed, AreAllowed, after_event, after_events}
use Rattle.tile_board.specs.Sound.{IsSound, CreditsFit, once_below}
use Rattle.tile_board.proofs.StepLaws.{draw_keeps, credit_keeps, split_keeps, fresh_fits}
use Rattle.tile_board.proofs.JoinLaws.{join_keeps}

none_below : (tickets number : ℕ) → 0 ≡ once_below (min 0 tickets) number
none_below tickets number = grind (arith, nat_tests)

pub opening_is_sound : (limits : Limits) → IsSound limits (opening limits)
opening_is_sound limits = record {
  draws = record {
    made = refl;
    all = omega arith;
    few = All-cons (λ u. length u.tickets ≤ u.made) (fresh limits.draws) [] (omega arith) (All-nil (λ (u : View). length u.tickets ≤ u.made));
  };
  tickets = λ number. none_below limits.tickets number;
  credits = All-cons (CreditsFit limits) (fresh limits.draws) [] (fresh_fits limits limits.draws) (All-nil (CreditsFit limits));
  totals = record {
    one_each = length-replicate limits.slots 0;
    sums = λ slot small. get_or-replicate limits.slots slot 0 0 small;
  };
}

pub event_keeps : (limits : Limits) (s : BoardState) (e : Event) → IsAllowed limits s e → IsSound limits s → IsSound limits (after_event limits s e)
event_keeps limits s (draw h) may sound = draw_keeps limits s h may.0 may.1 sound
event_keeps limits s (credit h c) may sound = credit_keeps limits s h c may.0 may.1 sound
event_keeps limits s (split h draws) may sound = split_keeps limits s h draws may.0 may.1 sound
event_keeps limits s (join h g) may sound = join_keeps limits s h g may.0 may.1 may.2 sound

pub events_keep : (limits : Limits) (s : BoardState) (es : List Event) → AreAllowed limits s es → IsSound limits s → IsSound limits (after_events limits s es)
events_keep limits s [] may sound = sound
events_keep limits s (e ∷ es) may sound = events_keep limits (after_event limits s e) es may.1 (event_keeps limits s e may.0 sound)
