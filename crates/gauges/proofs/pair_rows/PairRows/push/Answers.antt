use Rattle.std.proofs.Common.{List, [], ap, ◌++◌, ◌∙◌, ◌∷◌}
use Rattle.gauges.specs.declared.pair_row.PairRow.{PairRow}
use Rattle.gauges.proofs.KeptLaws.{more_named, one_more, same_rows, still_named}
use Rattle.gauges.proofs.laws.Told.{on_err}
use Rattle.gauges.proofs.pair_rows.PairRows.push.Goals as goal

pub invariant_of-self : goal.invariant_of-self
invariant_of-self c = still_named c.self.inside.layers.items c.place_of.new.names.items c.place_of.ensures.kept c.self.inside.rows.items c.self.invariant

pub returns-in_err-layer-clause-unchanged : goal.returns-in_err-layer-clause-unchanged
returns-in_err-layer-clause-unchanged c =
    on_err c.from_residual.result
    (same_rows c.self.inside.layers.items c.place_of.new.names.items c.place_of.ensures.kept c.self.inside.rows.items c.self.invariant ∙ c.self.view_is)

pub invariant_of-self-in_err-push : goal.invariant_of-self-in_err-push
invariant_of-self-in_err-push c =
    rw c.in_err-push.ensures.items
    (still_named c.self.inside.layers.items c.place_of.new.names.items c.place_of.ensures.kept c.self.inside.rows.items c.self.invariant)

pub returns-in_err-push-clause-unchanged : goal.returns-in_err-push-clause-unchanged
returns-in_err-push-clause-unchanged c =
    on_err c.from_residual-in_err-push.result (rw c.in_err-push.ensures.items
    (same_rows c.self.inside.layers.items c.place_of.new.names.items c.place_of.ensures.kept c.self.inside.rows.items c.self.invariant ∙ c.self.view_is))

pub invariant_of-self-2 : goal.invariant_of-self-2
invariant_of-self-2 c =
    rw c.in_ok-push.ensures.items
    (more_named c.self.inside.layers.items c.place_of.new.names.items c.place_of.ensures.kept c.in_ok-layer.layer c.args.row.now c.kept.result
    c.in_ok-layer.ensures.place c.kept.ensures.layer c.kept.ensures.row c.self.inside.rows.items c.self.invariant)

pub returns-clause-pushed : goal.returns-clause-pushed
returns-clause-pushed c =
    rw c.in_ok-push.ensures.items
    (one_more c.self.inside.layers.items c.place_of.new.names.items c.place_of.ensures.kept c.in_ok-layer.layer c.args.row.now c.kept.result
    c.in_ok-layer.ensures.place c.kept.ensures.layer c.kept.ensures.row c.self.inside.rows.items c.self.invariant
    ∙ ap (λ (rows : List PairRow). rows ++ c.args.row.now ∷ []) c.self.view_is)
