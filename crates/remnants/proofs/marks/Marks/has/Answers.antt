use Rattle.std.proofs.Common.{rules, Bool, is_ok, List, AllPairs, IsTrue, ◌↔◌, ◌∙◌, subst, sym}
use Rattle.lists.proofs.Words.{always_returns_same}
use Rattle.remnants.specs.declared.parts.Mark.{Mark}
use Rattle.remnants.specs.inside.Marking.{IsBefore, IsMarked}
use Rattle.remnants.proofs.OrderLaws.{found, key_of}
use Rattle.remnants.proofs.marks.Marks.has.Goals as goal

pub returns : goal.returns
returns c =
    let marks = c.deref.result.now in
    let ordered = subst (AllPairs IsBefore) (sym c.deref.ensures.value) c.self.invariant in
    let position = c.binary_search_by_key.ensures.position key_of (always_returns_same _ _ _ (λ a r f k. search rules)) in
    let tells = found marks ordered c.args.terminal c.args.leader c.binary_search_by_key.result c.binary_search_by_key.ensures.bound position in
    subst (λ (b : Bool). IsTrue b ↔ IsMarked c.args.self.now c.args.terminal c.args.leader) (sym c.is_ok.ensures.value)
    (subst (λ (ms : List Mark). IsTrue (is_ok c.binary_search_by_key.result) ↔ IsMarked ms c.args.terminal c.args.leader) (c.deref.ensures.value ∙ c.self.view_is) tells)
