use Rattle.lists.proofs.Words.{IfSome_then}
use Rattle.short_area.proofs.PlaceLaws.{middle_cut}
use Rattle.short_area.proofs.places.place_to_halve.Goals as goal

pub returns : goal.returns
returns c =
    IfSome_then c.middle_to_halve_at.result c.middle_to_halve_at.ensures (λ cut half. middle_cut c.args.zones.now c.args.window cut.0 cut.1 half)
