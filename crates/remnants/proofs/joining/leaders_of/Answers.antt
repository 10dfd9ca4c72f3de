use Rattle.std.proofs.Common.{ℕ, ◌∙◌, Contains, List, length, subst}
use Rattle.classes.specs.Classes.{AreJoined}
use Rattle.half_boxes.specs.HalfBoxes.{AreTouchingBoxes}
use Rattle.half_boxes.specs.declared.boxes.HalfBox.{HalfBox}
use Rattle.remnants.proofs.LeaderLaws.{pairs_below, are_leaders}
use Rattle.remnants.proofs.joining.leaders_of.Goals as goal

pub classes-requires : goal.classes-requires
classes-requires c =
    let links = c.in_ok-links.links.items in
    let boxes_are = c.deref.ensures.value ∙ c.in_ok-boxes.ensures in
    rw c.deref-2.ensures.value (pairs_below c.args.fixed.now links c.in_ok-pairs.pairs.items
    (subst (λ (boxes : List HalfBox). (a b : ℕ) → Contains links (a, b) → AreTouchingBoxes boxes a b) boxes_are c.in_ok-links.ensures.touching)
    (subst (λ (boxes : List HalfBox). (a b : ℕ) → AreTouchingBoxes boxes a b → AreJoined (length boxes) links a b) boxes_are c.in_ok-links.ensures.joined)
    c.in_ok-pairs.ensures c.requires)

pub returns : goal.returns
returns c =
    let links = c.in_ok-links.links.items in
    let boxes_are = c.deref.ensures.value ∙ c.in_ok-boxes.ensures in
    are_leaders c.args.fixed.now links c.in_ok-pairs.pairs.items
    (subst (λ (boxes : List HalfBox). (a b : ℕ) → Contains links (a, b) → AreTouchingBoxes boxes a b) boxes_are c.in_ok-links.ensures.touching)
    (subst (λ (boxes : List HalfBox). (a b : ℕ) → AreTouchingBoxes boxes a b → AreJoined (length boxes) links a b) boxes_are c.in_ok-links.ensures.joined)
    c.in_ok-pairs.ensures c.requires c.in_ok-classes.field-0.items
    (rw c.deref-2.ensures.value at c.in_ok-classes.ensures.least) (rw c.deref-2.ensures.value at c.in_ok-classes.ensures.equal)
