use Rattle.std.proofs.Common.{◌∷◌, sym, ◌∙◌, subst, Contains, []}
use Rattle.lists.proofs.Containing.{Contains-head}
use Rattle.flatten.specs.declared.part.Part.{Part}
use Rattle.flatten.proofs.PruningLaws.{told-is}
use Rattle.flatten.proofs.pruning.is_fertile.Goals as goal

pub returns-in-Done : goal.returns-in-Done
returns-in-Done c = record {
  tells = λ nodes are_true done.
      let k = c.in-Copies in
      rw k.is (told-is nodes c.args.states.now are_true k.target c.in-Done.summary (sym c.state_at.ensures ∙ c.in-Done.is));
}

pub returns-in_default : goal.returns-in_default
returns-in_default c = record {
  tells = λ nodes are_true done.
      let k = c.in-Copies in
      let d = done k.reference k.target (subst (λ (x : Part). Contains (c.args.part.now ∷ []) x) k.is (Contains-head c.args.part.now [])) in absurd
      (c.in_default.not-Done d.0 (c.state_at.ensures ∙ d.1));
}
