use Rattle.std.proofs.Common.{◌≡◌, sym, subst, ◌∙◌, true, false, arith, length, All, take_all}
use Rattle.lists.proofs.Words.{get_or_default, All-more}
use Rattle.net_extract.specs.ContactGroups.{carries_both}
use Rattle.net_extract.specs.declared.pieces.ContactPiece.{ContactPiece}
use Rattle.net_extract.proofs.ContactGroupLaws.{front_is}
use Rattle.net_extract.proofs.contact_groups.front_of.Goals as goal

pub returns-then-not-carry_alike : goal.returns-then-not-carry_alike
returns-then-not-carry_alike c =
    let sorted = c.args.sorted.now in
    let first = c.args.first in
    let k = c.loop-k.k in
    let item = c.index-sorted-k.result in
    let same = λ (contact : ContactPiece). carries_both first.lower first.upper contact in
    let fails : same item ≡ false = sym c.carry_alike.ensures ∙ c.if-not-carry_alike.true in
    let is = c.index-sorted-k.is ∙ get_or_default sorted k item first c.loop-k-test.true in
    front_is sorted first k c.requires.first (λ less. subst (λ x. same x ≡ false) is fails) c.requires.ordered c.loop-k.auto.k-end c.loop-k.invariant

pub loop-k-preserved : goal.loop-k-preserved
loop-k-preserved c =
    let first = c.args.first in
    let same = λ (contact : ContactPiece). carries_both first.lower first.upper contact ≡ true in
    let passes : same c.index-sorted-k.result = sym c.carry_alike.ensures ∙ c.if-not-carry_alike.false in
    All-more same c.args.sorted.now c.loop-k.k c.index-sorted-k.result c.loop-k-test.true c.loop-k.invariant (subst same c.index-sorted-k.is passes)

pub returns : goal.returns
returns c =
    let sorted = c.args.sorted.now in
    let first = c.args.first in
    let same = λ (contact : ContactPiece). carries_both first.lower first.upper contact ≡ true in
    let whole = take_all c.loop-k.k sorted c.loop-k-test.false ∙ sym (take_all (length sorted) sorted (omega arith)) in
    front_is sorted first (length sorted) c.requires.first (λ less. absurd (omega arith)) c.requires.ordered (omega arith) (subst (All same) whole c.loop-k.invariant)
