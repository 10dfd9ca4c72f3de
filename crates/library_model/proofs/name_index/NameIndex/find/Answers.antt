use Rattle.std.proofs.Common.{◌∙◌}
use Rattle.library_model.proofs.NameLaws.{place_found}
use Rattle.library_model.proofs.name_index.NameIndex.find.Goals as goal

pub returns-in_err-place-clause-place : goal.returns-in_err-place-clause-place
returns-in_err-place-clause-place c =
    rw (← c.self.view_is) (place_found (λ k. k.now) c.args.name.now c.self.inside.names.keys c.from_residual.result (c.from_residual.ensures ∙ c.in_err-place.ensures.index))

pub returns-clause-place : goal.returns-clause-place
returns-clause-place c = rw (← c.self.view_is) (place_found (λ k. k.now) c.args.name.now c.self.inside.names.keys _ c.in_ok-place.ensures.index)
