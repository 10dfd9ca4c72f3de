use Rattle.std.proofs.Common.{ℕ, Option, inl, inr, refl, subst}
use Rattle.std.specs.Option.{IfSome}
use Rattle.net_pairs.specs.inside.Whole.{HasWhole}
use Rattle.net_pairs.proofs.WholeLaws.{found_grows, whole_pushed}
use Rattle.net_pairs.proofs.whole.keep_one.Goals as goal

pub returns-then-is_found-clause-kept : goal.returns-then-is_found-clause-kept
returns-then-is_found-clause-kept c = inr (subst (λ (found : Option ℕ). IfSome found (HasWhole c.args.part c.args.kept.now.items)) (c.if-is_found.ensures refl) c.requires, refl)

pub returns-then-is_found-clause-found : goal.returns-then-is_found-clause-found
returns-then-is_found-clause-found c = c.requires

pub returns-then-fills-clause-kept : goal.returns-then-fills-clause-kept
returns-then-fills-clause-kept c = inl c.in_ok-push.ensures.items

pub returns-then-fills-clause-found : goal.returns-then-fills-clause-found
returns-then-fills-clause-found c = whole_pushed c.args.part c.args.kept.now.items _ c.args.zone c.in_ok-push.ensures.items (c.if-fills.ensures.0 refl)

pub returns-clause-kept : goal.returns-clause-kept
returns-clause-kept c = inl c.in_ok-push.ensures.items

pub returns-clause-found : goal.returns-clause-found
returns-clause-found c = found_grows c.args.part c.args.kept.now.items _ c.args.zone c.args.found c.in_ok-push.ensures.items c.requires
