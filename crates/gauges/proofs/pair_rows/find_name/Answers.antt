use Rattle.std.proofs.Common.{Some, ap, refl, sym, ◌∙◌}
use Rattle.lists.proofs.Words.{Decides-eqb, slice_eq-Decides, slice_get_read}
use Rattle.gauges.proofs.pair_rows.find_name.Goals as goal

pub returns-then-eq : goal.returns-then-eq
returns-then-eq c =
    slice_get_read _ _ _ _ refl c.loop-place-test.true c.index-names-place.is
    ∙ ap Some (sym c.as_slice.ensures.name ∙ (slice_eq-Decides Decides-eqb _ _ _ c.eq.ensures).0 c.if-eq.true)
