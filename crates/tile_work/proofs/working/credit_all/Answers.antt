use Rattle.std.proofs.Common.{◌+◌, ◌<◌, ◌≡◌, refl, ap, sym, subst, ◌∙◌, arith, get_or}
use Rattle.tile_board.specs.Hands.{view_of}
use Rattle.tile_board.specs.declared.views.View.{View}
use Rattle.tile_work.specs.inside.Working.{IsCrediting}
use Rattle.tile_work.proofs.WorkLaws.{steps, ends}
use Rattle.tile_work.proofs.working.credit_all.Goals as goal

pub credit-requires-clause-belongs : goal.credit-requires-clause-belongs
credit-requires-clause-belongs g c = c.loop-slot.invariant.belongs

pub credit-requires-clause-drawn : goal.credit-requires-clause-drawn
credit-requires-clause-drawn g c = c.loop-slot.invariant.at.here

pub credit-requires-clause-first : goal.credit-requires-clause-first
credit-requires-clause-first g c = c.loop-slot.invariant.at.open_still c.loop-slot.slot (omega arith)

pub loop-slot-init : goal.loop-slot-init
loop-slot-init g c = record { belongs = c.requires.belongs; left = refl; at = c.requires.drawn }

pub loop-slot-preserved : goal.loop-slot-preserved
loop-slot-preserved g c =
    let tickets = g.J.TileJob.tickets c.args.job.now in
    let slots = g.J.TileJob.slots c.args.job.now in
    let amount = g.J.TileJob.is_amount c.args.job.now in
    let ticket = c.args.ticket in
    let slot = c.loop-slot.slot in
    let before = view_of c.loop-slot.hand in
    let within : slot < slots = omega (arith, c.requires.one_each, c.loop-slot-test.true) in
    let n = get_or c.args.amounts.now slot 0 in
    let here : amount ticket slot n = c.requires.in_order slot within in
    let view = c.credit.ensures.credited in record {
      belongs = c.credit.ensures.belongs;
      left = ap (λ (v : View). v.left) view ∙ c.loop-slot.invariant.left;
      at = subst (IsCrediting tickets slots amount ticket (slot + 1)) (sym view) (steps tickets slots amount before ticket slot n within here c.loop-slot.invariant.at);
    }

pub returns : goal.returns
returns g c =
    let tickets = g.J.TileJob.tickets c.args.job.now in
    let slots = g.J.TileJob.slots c.args.job.now in
    let amount = g.J.TileJob.is_amount c.args.job.now in
    let all : c.loop-slot.slot ≡ slots = omega arith in
    let view = view_of c.loop-slot.hand in record {
      belongs = c.loop-slot.invariant.belongs;
      left = c.loop-slot.invariant.left;
      credited = ends tickets slots amount view c.args.ticket (subst (λ n. IsCrediting tickets slots amount c.args.ticket n view) all c.loop-slot.invariant.at);
    }
