use Rattle.std.proofs.Common.{sym, ◌∙◌}
use Rattle.lists.proofs.Words.{ltb-true}
use Rattle.std.proofs.lemmas.Bool.{leb-true}
use Rattle.near_index.proofs.NearestLaws.{all_with, settled_by_label, settled_by_second}
use Rattle.near_index.proofs.keeping.is_settled.Goals as goal

pub returns-then-eq : goal.returns-then-eq
returns-then-eq c settled pieces cell beyond labels =
    settled_by_label cell c.args.nearest c.in-Some.first c.in-Some.is c.args.distance pieces beyond (leb-true c.in-Some.first.distance c.args.distance settled)
    (all_with c.args.label c.in-Some.first.label pieces (sym c.eq.ensures ∙ c.if-eq.true) labels)

pub returns : goal.returns
returns c settled pieces cell beyond labels =
    settled_by_second cell c.args.nearest c.in-Some.first c.in-Some.is c.args.distance pieces beyond c.in-Some-second.second c.in-Some-second.is
    (ltb-true c.in-Some-second.second.distance c.args.distance settled)
