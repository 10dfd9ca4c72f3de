use Rattle.std.proofs.Common.{◌+◌, ◌*◌, ◌≡◌, refl, ap, ◌∙◌, arith}
use Rattle.flatten.specs.inside.Weights.{kept_of}
use Rattle.flatten.proofs.summing.with_shape.Goals as goal

pub returns : goal.returns
returns c weight kept =
    let once : 1 * c.args.points ≡ c.args.points = omega arith in
    record {
      height = omega arith;
      shapes = c.kept_sum.ensures weight.shapes 1 (omega arith) refl;
      points = c.kept_sum-2.ensures weight.points c.args.points (omega arith) refl ∙ ap (λ n. kept_of (weight.points + n)) once;
    }
