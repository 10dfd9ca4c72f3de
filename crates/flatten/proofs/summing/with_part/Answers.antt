use Rattle.std.proofs.Common.{◌≡◌, [], subst}
use Rattle.flatten.specs.inside.Weights.{IsKept}
use Rattle.flatten.proofs.summing.with_part.Goals as goal
use Rattle.lists.proofs.Containing.{Contains-head}

pub bounds-states-target : goal.bounds-states-target
bounds-states-target c = let below = rw c.in-Copies.is at c.requires in below c.in-Copies.reference c.in-Copies.target (Contains-head _ [])

pub bounds : goal.bounds
bounds c = let below = rw c.in-Copies.is at c.requires in below c.in-Copies.reference c.in-Copies.target (Contains-head _ [])

pub returns-in-Done : goal.returns-in-Done
returns-in-Done c of weight weighed kept =
    rw c.in-Copies.is (
    let these = rw c.in-Copies.is at weighed in
    let found = these c.in-Copies.reference c.in-Copies.target (Contains-head _ []) in
    let same : found.0 ≡ c.in-Done.other = cc c.in-Done.is in
    rw c.copies.ensures.value at (c.with_copies.ensures weight (of c.in-Copies.target) kept (subst (IsKept (of c.in-Copies.target)) {x = found.0} same found.2)))

pub returns-in_default : goal.returns-in_default
returns-in_default c of weight weighed kept =
    let these = rw c.in-Copies.is at weighed in
    let found = these c.in-Copies.reference c.in-Copies.target (Contains-head _ []) in
    absurd (c.in_default.not-Done found.0 found.1)
