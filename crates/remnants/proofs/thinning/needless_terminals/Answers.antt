use Rattle.std.proofs.Common.{ℕ, List, Contains, Vec, subst}
use Rattle.lists.proofs.Words.{Global, IfOk-weaker}
use Rattle.remnants.specs.inside.Thinning.{HasLooseBox, IsStoodFor}
use Rattle.remnants.proofs.SpreadLaws.{stands_still}
use Rattle.remnants.proofs.thinning.needless_terminals.Goals as goal

pub returns : goal.returns
returns c =
    let terminals = c.args.terminals.now in
    let loose = c.args.loose.now in
    let marks = c.args.marks.now in
    let listed = c.of-listed.result in
    let is_loose = Contains c.of-loose.result in
    IfOk-weaker c.going_by.result (λ (gone : Vec ℕ Global). (terminal : ℕ) → Contains gone.items terminal → IsStoodFor listed is_loose marks gone.items terminal)
    (λ (gone : Vec ℕ Global). (terminal : ℕ) → Contains gone.items terminal → IsStoodFor terminals (HasLooseBox loose) marks gone.items terminal)
    (λ (gone : Vec ℕ Global) are terminal h.
    stands_still terminals listed (HasLooseBox loose) is_loose marks gone.items gone.items terminal
    (λ t among. subst (λ (ts : List ℕ). Contains ts t) c.in_ok-from_slice.ensures.items ((c.of-listed.ensures t).0 among))
    (λ t l. (c.of-loose.ensures t).1 (c.in_ok-loose.ensures l.one t l.among l.of_terminal)) (λ t g. g) (are terminal h)) c.going_by.ensures

pub going_by-requires : goal.going_by-requires
going_by-requires c pair among =
    (c.of-going.ensures pair.goes).1 (rw c.deref.ensures.value at c.in_ok-all_going.ensures pair (rw c.deref-2.ensures.value at among))
