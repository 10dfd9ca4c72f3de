use Rattle.std.proofs.Common.{refl, rules}
use Rattle.layer_map.proofs.CauseLaws.{fall_of, no_first, no_second, rise_of}
use Rattle.layer_map.proofs.cause.is_fall.Goals as goal

pub returns-then-second-first : goal.returns-then-second-first
returns-then-second-first c = (
  λ no. cc no,
  λ fall. absurd (rise_of _ _ c.in-Some.first c.in-Some-as_integer.second c.in-Some.ensures c.in-Some-as_integer.ensures (search rules) (search rules) c.if-second-first.true fall),
)

pub returns-else-second-first : goal.returns-else-second-first
returns-else-second-first c = (
  λ holds. fall_of _ _ c.in-Some.first c.in-Some-as_integer.second c.in-Some.ensures c.in-Some-as_integer.ensures (search rules) (search rules) c.if-second-first.false,
  λ fall. refl,
)

pub returns-in-None-as_integer : goal.returns-in-None-as_integer
returns-in-None-as_integer c = (λ no. cc no, λ fall. absurd (no_second _ _ c.in-None-as_integer.ensures fall))

pub returns-in-None : goal.returns-in-None
returns-in-None c = (λ no. cc no, λ fall. absurd (no_first _ _ c.in-None.ensures fall))
