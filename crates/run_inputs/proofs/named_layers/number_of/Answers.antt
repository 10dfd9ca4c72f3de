use Rattle.std.proofs.Common.{◌≡◌, ◌≢◌, ◌⊎◌, inl, inr, sym, ◌∙◌}
use Rattle.questions.specs.declared.kind.Kind.{Kind}
use Rattle.questions.specs.declared.kind.Kind.TheVariants.{Short, Open, Via}
use Rattle.run_inputs.proofs.NamingLaws.{cut_named, metal_named, no_cut_named, no_metal_named}
use Rattle.run_inputs.proofs.named_layers.number_of.Goals as goal

not_via : {kind : Kind} → (kind ≡ Short) ⊎ (kind ≡ Open) → kind ≢ Via
not_via (inl short) via = let e = sym short ∙ via in cc e
not_via (inr open_) via = let e = sym open_ ∙ via in cc e

pub returns-in_err-place-in-Short : goal.returns-in_err-place-in-Short
returns-in_err-place-in-Short c = rw c.from_residual.ensures (record {
  some = tt;
  none = no_metal_named c.args.map.now c.args.name.now c.args.kind (not_via c.in-Short.is) (rw c.as_slice-metals.ensures at c.in_err-place-in-Short.ensures);
})

pub returns-in_err-place-in-Via-clause-none : goal.returns-in_err-place-in-Via-clause-none
returns-in_err-place-in-Via-clause-none c =
    rw (c.from_residual-in_err-place-in-Via.ensures, c.in-Via.is) (no_cut_named c.args.map.now c.args.name.now (rw c.as_slice.ensures at c.in_err-place-in-Via.ensures))

pub returns-in_ok-place-in-Short : goal.returns-in_ok-place-in-Short
returns-in_ok-place-in-Short c = record {
  some = metal_named c.args.map.now c.args.name.now c.args.kind (not_via c.in-Short.is) c.in_ok-place-in-Short.place (rw c.as_slice-metals.ensures at c.in_ok-place-in-Short.ensures);
  none = tt;
}

pub returns-in_ok-place-in-Via-clause-some : goal.returns-in_ok-place-in-Via-clause-some
returns-in_ok-place-in-Via-clause-some c =
    rw (c.in-Via.is, c.as_slice-metals.ensures)
    (cut_named c.args.map.now c.args.name.now c.in_ok-place-in-Via.place (rw c.as_slice.ensures at c.in_ok-place-in-Via.ensures))
