use Rattle.std.proofs.Common.{◌≡◌, ◌≢◌, [], ◌∷◌, pos, rules}
use Rattle.rect_cover.specs.ShapeChecks.{ShapeHolds, shape_fault, is_not_round, has_known_ends, has_even_width}
use Rattle.rect_cover.proofs.PathLaws.{fails_behind}
use Rattle.rect_cover.proofs.path.check_style.Goals as goal

pub returns-then-style-eq1-clause-refused : goal.returns-then-style-eq1-clause-refused
returns-then-style-eq1-clause-refused c points =
    let round : c.args.style.pathtype ≡ pos 1 = search rules in
    fails_behind (ShapeHolds points) (shape_fault c.args.at) [] (is_not_round c.args.style) _ tt (λ flat. flat round)

pub returns-then-not-has_known_ends-clause-refused : goal.returns-then-not-has_known_ends-clause-refused
returns-then-not-has_known_ends-clause-refused c points =
    let flat : c.args.style.pathtype ≢ pos 1 = search rules in
    fails_behind (ShapeHolds points) (shape_fault c.args.at) (is_not_round c.args.style ∷ []) (has_known_ends c.args.style) _ (flat, tt)
    (λ known. let told = c.has_known_ends.ensures.1 known in cc)

pub returns-then-not-has_even_width-clause-refused : goal.returns-then-not-has_even_width-clause-refused
returns-then-not-has_even_width-clause-refused c points =
    let flat : c.args.style.pathtype ≢ pos 1 = search rules in
    fails_behind (ShapeHolds points) (shape_fault c.args.at) (is_not_round c.args.style ∷ has_known_ends c.args.style ∷ []) (has_even_width c.args.style) _
    (flat, (c.has_known_ends.ensures.0 c.if-not-has_known_ends.false, tt)) (λ even. let told = c.has_even_width.ensures.1 even in cc)
