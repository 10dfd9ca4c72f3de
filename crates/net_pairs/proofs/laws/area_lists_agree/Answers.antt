use Rattle.net_pairs.proofs.SumLaws.{same_rising}
use Rattle.net_pairs.proofs.laws.area_lists_agree.Goals as goal

pub returns : goal.returns
returns c pieces radius window areas others one other = same_rising areas others one.rising other.rising (λ (a, b, n).
    let here = one.exact a b n in let there = other.exact a b n in
    (λ h. there.1 (here.0 h), λ h. here.1 (there.0 h)))
