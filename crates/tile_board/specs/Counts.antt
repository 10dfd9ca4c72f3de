-- what a hand has drawn and credited, in numbers
use Rattle.std.specs.Prelude.{ℕ, ◌<◌, ◌==◌, ◌&&◌, List, count_by, sum_by, if◌then◌else◌}
use Rattle.tile_board.specs.declared.views.View.{View}

-- how often the number stands in the list
abbrev pub times : List ℕ → ℕ → ℕ
times numbers number = count_by (λ x. x == number) numbers

-- the hand drew the ticket
abbrev pub Drew : View → ℕ → Type 0
Drew view ticket = 0 < times view.tickets ticket

-- how often the hand made a credit to the slot on account of the ticket
abbrev pub times_credited : View → ℕ → ℕ → ℕ
times_credited view ticket slot = count_by (λ c. (c.ticket == ticket) && (c.slot == slot)) view.credits

-- what the hand added to the slot's total, over all of its credits
abbrev pub credited : View → ℕ → ℕ
credited view slot = sum_by (λ c. if c.slot == slot then c.amount else 0) view.credits
