use Rattle.std.proofs.Common.{ℕ, ◌-◌, List, ap, arith, length, slice_index_or}
use Rattle.run_inputs.proofs.query.size_of.Goals as goal

pub returns-clause-there : goal.returns-clause-there
returns-clause-there c = (
  omega arith,
  record {
    below = omega (arith, ap length c.as_slice-sizes.ensures);
    is = ap (λ (xs : List ℕ). slice_index_or xs (c.args.number - 1) 0) c.as_slice-sizes.ensures;
  },
)
