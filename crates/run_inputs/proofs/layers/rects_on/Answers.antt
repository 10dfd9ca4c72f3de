use Rattle.std.proofs.Common.{[], refl, sym, ap, ◌∙◌, length, take_all, get_or, arith}
use Rattle.lists.proofs.Words.{zip, slice_get-get_or, slice_get_read, length-zip}
use Rattle.area_parts.proofs.laws.ListLaws.{read_list}
use Rattle.run_inputs.specs.LayoutReaders.{rects_on}
use Rattle.run_inputs.proofs.LayerLaws.{next_on, next_off}
use Rattle.run_inputs.proofs.layers.rects_on.Goals as goal
use Rattle.run_inputs.proofs.layers.rects_on.Goals.{then-one-number+in_ok-extend_from_slice, else-one-number}
use Rattle.lists.proofs.Pairing.{slice_get-zip}

pub loop-k-preserved : goal.loop-k-preserved
loop-k-preserved c =
    let number = c.args.number in
    let placed = c.args.placed.now in
    let covers = c.args.covers.now in
    let k = c.loop-k.k in
    let one = c.index-placed-k.result in
    let cover = get_or covers k [] in
    let at_one = slice_get_read placed (length placed) k one refl c.loop-k-test.true c.index-placed-k.is in
    let at_cover = slice_get-get_or covers k [] (omega (arith, c.requires, c.loop-k-test.true)) in
    let at = slice_get-zip placed covers k one cover at_one at_cover in
    elim c.if-one-number.branch [
      | then-one-number+in_ok-extend_from_slice w ↦
          let is_cover = w.as_slice.ensures ∙ sym (read_list covers k w.index-covers-k.result (omega (arith, c.requires, c.loop-k-test.true)) w.index-covers-k.is) in
          rw (w.rects-is, w.in_ok-extend_from_slice.ensures.items, c.loop-k.invariant, is_cover, next_on number (zip placed covers) k (one, cover) at w.if-one-number.true) refl
      | else-one-number w ↦ rw (w.rects-is, c.loop-k.invariant, next_off number (zip placed covers) k (one, cover) at w.if-one-number.false) refl
    ]

pub returns : goal.returns
returns c =
    let pairs = zip c.args.placed.now c.args.covers.now in
    c.from_vec.ensures ∙ c.loop-k.invariant ∙ ap (rects_on c.args.number) (take_all c.loop-k.k pairs (omega (arith, length-zip c.args.placed.now c.args.covers.now, c.loop-k-test.false)))
