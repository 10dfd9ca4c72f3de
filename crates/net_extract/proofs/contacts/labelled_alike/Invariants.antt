use Rattle.std.proofs.Common.{◌≡◌, take, map}
use Rattle.net_extract.proofs.contacts.labelled_alike.Given as goal

abbrev pub invariant-loop-rect : goal.invariant-loop-rect
invariant-loop-rect l = l.alike.items ≡ map (λ rect. record { rect = rect; label = 0 }) (take l.rect-index l.rects)
