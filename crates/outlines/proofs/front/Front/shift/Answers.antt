use Rattle.std.proofs.Common.{◌≡◌, ◌+ℤ◌, w32, w64, pos, to_z, of_z, FitsSigned, arith, refl, rules, sym, subst}
use Rattle.lists.proofs.Words.{ints, to_z-of_z, on_ok_weaker}
use Rattle.outlines.specs.declared.front.Front.{Front}
use Rattle.outlines.specs.declared.piece.Piece.{Piece}
use Rattle.outlines.proofs.FrontLaws.{columns_in_layout, columns_in_range, free_columns, shifted_in, shifted_out, shifted_still, taken_columns}
use Rattle.outlines.proofs.front.Front.shift.Goals as goal

pub invariant_of-columns : goal.invariant_of-columns
invariant_of-columns c =
    let p = c.index-piece.result.now in let q = c.index.result.now in
    let low : FitsSigned w32 p.column = search rules in let high : FitsSigned w32 q.column = search rules in
    rw (to_z-of_z w32 p.column low, to_z-of_z w32 q.column high)
    (record { within = columns_in_range c.args.self.now.pieces.items c.args.number p q c.requires.drawn.rising (omega arith) (sym c.index-piece.ensures) (sym c.index.ensures) })

pub fill-requires-clause-columns : goal.fill-requires-clause-columns
fill-requires-clause-columns c =
    let p = c.index-piece.result.now in let q = c.index.result.now in
    let low : FitsSigned w32 p.column = search rules in let high : FitsSigned w32 q.column = search rules in
    rw (to_z-of_z w32 p.column low, to_z-of_z w32 q.column high)
    (columns_in_layout c.args.self.now.pieces.items c.args.number p q c.requires.drawn.rising (omega arith) (sym c.index-piece.ensures) (sym c.index.ensures))

pub clear-requires-clause-columns : goal.clear-requires-clause-columns
clear-requires-clause-columns c =
    let p = c.index-piece.result.now in let q = c.index.result.now in
    let low : FitsSigned w32 p.column = search rules in let high : FitsSigned w32 q.column = search rules in
    rw (to_z-of_z w32 p.column low, to_z-of_z w32 q.column high)
    (columns_in_layout c.args.self.now.pieces.items c.args.number p q c.requires.drawn.rising (omega arith) (sym c.index-piece.ensures) (sym c.index.ensures))

pub fill-requires-clause-free : goal.fill-requires-clause-free
fill-requires-clause-free c =
    let p = c.index-piece.result.now in let q = c.index.result.now in
    let low : FitsSigned w32 p.column = search rules in let high : FitsSigned w32 q.column = search rules in
    let adds = rw (to_z-of_z w64 c.args.by c.ranges.by) at c.add_to.ensures in
    let after : Front = record { pieces = c.add_to.new.pieces; filling = c.args.self.now.filling } in
    rw (to_z-of_z w32 p.column low, to_z-of_z w32 q.column high)
    (free_columns c.args.row c.args.by c.args.number c.args.self.now after p q c.requires.drawn (omega arith) (sym c.index-piece.ensures) (sym c.index.ensures) c.requires.turning adds
    (omega (arith, ints, c.if-piece-eq0.true)))

pub returns-then-piece-eq0 : goal.returns-then-piece-eq0
returns-then-piece-eq0 c =
    let p = c.index-piece.result.now in let q = c.index.result.now in
    let low : FitsSigned w32 p.column = search rules in let high : FitsSigned w32 q.column = search rules in
    let adds = rw (to_z-of_z w64 c.args.by c.ranges.by) at c.add_to.ensures in
    let after : Front = record { pieces = c.add_to.new.pieces; filling = c.fill.new.self } in
    let fills = rw (to_z-of_z w32 p.column low, to_z-of_z w32 q.column high, to_z-of_z w32 c.args.row c.ranges.row) at c.fill.ensures in
    on_ok_weaker c.fill.result
    (shifted_in c.args.row c.args.by c.args.number c.args.self.now after p q c.requires.drawn (omega arith) (sym c.index-piece.ensures) (sym c.index.ensures) c.requires.turning adds
    (omega (arith, ints, c.if-piece-eq0.true))) fills

pub invariant_of-columns-then-winding-eq0 : goal.invariant_of-columns-then-winding-eq0
invariant_of-columns-then-winding-eq0 c =
    let p = c.index-piece.result.now in let q = c.index.result.now in
    let low : FitsSigned w32 p.column = search rules in let high : FitsSigned w32 q.column = search rules in
    rw (to_z-of_z w32 p.column low, to_z-of_z w32 q.column high)
    (record { within = columns_in_range c.args.self.now.pieces.items c.args.number p q c.requires.drawn.rising (omega arith) (sym c.index-piece.ensures) (sym c.index.ensures) })

pub clear-requires-clause-taken : goal.clear-requires-clause-taken
clear-requires-clause-taken c =
    let p = c.index-piece.result.now in let q = c.index.result.now in
    let low : FitsSigned w32 p.column = search rules in let high : FitsSigned w32 q.column = search rules in
    let adds = rw (to_z-of_z w64 c.args.by c.ranges.by) at c.add_to.ensures in
    let after : Front = record { pieces = c.add_to.new.pieces; filling = c.args.self.now.filling } in
    rw (to_z-of_z w32 p.column low, to_z-of_z w32 q.column high)
    (taken_columns c.args.row c.args.by c.args.number c.args.self.now after p q c.requires.drawn (omega arith) (sym c.index-piece.ensures) (sym c.index.ensures) c.requires.turning adds
    (λ none. c.if-piece-eq0.false (rw none refl)))

pub returns-then-winding-eq0 : goal.returns-then-winding-eq0
returns-then-winding-eq0 c =
    let p = c.index-piece.result.now in let q = c.index.result.now in
    let low : FitsSigned w32 p.column = search rules in let high : FitsSigned w32 q.column = search rules in
    let fits = subst (λ (x : Piece). FitsSigned w64 (x.winding +ℤ c.args.by)) (sym c.index-piece.ensures) (c.requires.fits p) in
    let adds = rw (to_z-of_z w64 c.args.by c.ranges.by) at c.add_to.ensures in
    let after : Front = record { pieces = c.add_to.new.pieces; filling = c.clear.new.self } in
    let clears = rw (to_z-of_z w32 p.column low, to_z-of_z w32 q.column high, to_z-of_z w32 c.args.row c.ranges.row) at c.clear.ensures in
    on_ok_weaker c.clear.result
    (shifted_out c.args.row c.args.by c.args.number c.args.self.now after p q c.requires.drawn (omega arith) (sym c.index-piece.ensures) (sym c.index.ensures) c.requires.turning adds
    (λ none. c.if-piece-eq0.false (rw none refl)) (omega (arith, ints, fits, c.if-winding-eq0.true))) clears

pub returns : goal.returns
returns c =
    let p = c.index-piece.result.now in let q = c.index.result.now in
    let fits = subst (λ (x : Piece). FitsSigned w64 (x.winding +ℤ c.args.by)) (sym c.index-piece.ensures) (c.requires.fits p) in
    let adds = rw (to_z-of_z w64 c.args.by c.ranges.by) at c.add_to.ensures in
    let after : Front = record { pieces = c.add_to.new.pieces; filling = c.args.self.now.filling } in
    shifted_still c.args.row c.args.by c.args.number c.args.self.now after p q c.requires.drawn (omega arith) (sym c.index-piece.ensures) (sym c.index.ensures) c.requires.turning adds
    (λ none. c.if-piece-eq0.false (rw none refl)) (λ none.
    let zero : to_z w64 (of_z w64 p.winding) +ℤ to_z w64 (of_z w64 c.args.by) ≡ pos 0 = omega (arith, ints) in
    c.if-winding-eq0.false (rw zero refl)) refl
