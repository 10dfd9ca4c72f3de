use Rattle.islands.proofs.LabelLaws.{pairs_below, labelling, labels_are_islands}
use Rattle.islands.proofs.label.Goals as goal

pub classes-requires : goal.classes-requires
classes-requires c = rw c.deref.ensures.value
    (pairs_below c.args.rects.now c.in_ok-pairs.pairs.items (record { touching = c.in_ok-pairs.ensures.touching; joined = c.in_ok-pairs.ensures.joined }))

pub returns-clause-least : goal.returns-clause-least
returns-clause-least c = labelling c.args.rects.now c.in_ok-pairs.pairs.items (record { touching = c.in_ok-pairs.ensures.touching; joined = c.in_ok-pairs.ensures.joined }) _
    (rw c.deref.ensures.value at c.in_ok-classes.ensures.least)

pub returns-clause-islands : goal.returns-clause-islands
returns-clause-islands c = labels_are_islands c.args.rects.now c.in_ok-pairs.pairs.items (record { touching = c.in_ok-pairs.ensures.touching; joined = c.in_ok-pairs.ensures.joined }) _
    (rw c.deref.ensures.value at c.in_ok-classes.ensures.equal)
