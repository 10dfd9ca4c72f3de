use Rattle.std.proofs.Common.{subst}
use Rattle.classes.specs.Classes.{IsClasses}
use Rattle.classes.specs.ClassConsequences.{EqualWhereJoined}
use Rattle.net_extract.proofs.LinkLaws.{links_below, classes_are_nets}
use Rattle.net_extract.proofs.numbers.net_numbers.Goals as goal

pub classes-requires : goal.classes-requires
classes-requires c = rw c.deref.ensures.value (links_below c.args.count c.args.contacts.now c.in_ok-links.links.items c.in_ok-links.ensures c.requires)

pub returns : goal.returns
returns c =
    let count = c.args.count in
    let nets = c.in_ok-classes.field-0.items in
    classes_are_nets count c.args.contacts.now c.in_ok-links.links.items c.in_ok-links.ensures nets
    (subst (λ pairs. IsClasses count pairs nets) c.deref.ensures.value c.in_ok-classes.ensures.least)
    (subst (λ pairs. EqualWhereJoined count pairs nets) c.deref.ensures.value c.in_ok-classes.ensures.equal)
