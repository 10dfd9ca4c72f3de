use Rattle.std.proofs.Common.{inl, inr, refl}
use Rattle.net_pairs.proofs.BesideLaws.{so_true}
use Rattle.net_pairs.proofs.beside.keep_beside.Goals as goal

pub returns-then-is_alone : goal.returns-then-is_alone
returns-then-is_alone c = inr (c.if-is_alone.ensures (so_true _ refl), refl)

pub returns : goal.returns
returns c = inl c.in_ok-push.ensures.items
