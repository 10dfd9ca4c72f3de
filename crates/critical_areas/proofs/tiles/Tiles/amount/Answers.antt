use Rattle.std.proofs.Common.{◌≡◌, ◌<◌, ◌-◌, ℕ, List, [], Some, ap, arith, get_or, length, slice_get, subst, sym, ◌↔◌}
use Rattle.std.specs.Slice.{IsItemAt}
use Rattle.geo_core.specs.Plane.{Has, IsInUnion}
use Rattle.fault_model.specs.FaultNames.{IslandLists}
use Rattle.geo_core.specs.Bounds.{IsSide}
use Rattle.questions.specs.Questions.{side_of}
use Rattle.critical_areas.specs.declared.apart.Apart.{Apart}
use Rattle.critical_areas.specs.inside.IslandsApart.{IsOneOpen, none_apart}
use Rattle.critical_areas.specs.inside.Work.{Work}
use Rattle.critical_areas.proofs.IndexLaws.{apart_found, found_at, list_read, opens_at, reordered_at}
use Rattle.critical_areas.proofs.tiles.Tiles.amount.Goals as goal

-- ---- shorts

pieces_are : (c : goal.After-get) → c.as_slice-pieces.result.now ≡ get_or c.self.inside.asked.parts.now.metals c.args.question.now.number []
pieces_are c =
    let of_metal = c.requires.askable.of_metal (λ via. cc (c.in-Short.is, via)) in
    let many = ap (λ (w : Work). length w.parts.metals) c.self.view_is in
    list_read c.as_slice.result.now _ c.args.question.now.number c.index-as_slice-number.result _ c.as_slice.ensures (omega (arith, ap length c.as_slice.ensures, of_metal, many)) c.index-as_slice-number.is
    c.as_slice-pieces.ensures

pub shorts_of_tile-requires : goal.shorts_of_tile-requires
shorts_of_tile-requires c =
    record {
      within = c.reach_of_side-reach.ensures.within;
      index = reordered_at c.self.inside.asked.parts.now.metals c.self.inside.metals.items c.deref.result.now c.args.question.now.number c.as_slice-pieces.result.now c.get.result
          c.self.invariant.of_metals (pieces_are c) c.deref.ensures.value c.get.ensures.lookup;
    }

-- ---- opens

islands_are : (c : goal.After-get-in-Open) → c.as_slice-islands.result.now ≡ get_or c.self.inside.asked.parts.now.islands c.args.question.now.number []
islands_are c =
    let of_metal = c.requires.askable.of_metal (λ via. cc (c.in-Open.is, via)) in
    let many = ap (λ (w : Work). length w.parts.metals) c.self.view_is in
    let each = c.self.inside.asked.parts.now.islands_each in
    list_read c.as_slice-in-Open.result.now _ c.args.question.now.number c.index-as_slice-number-in-Open.result _ c.as_slice-in-Open.ensures
    (omega (arith, ap length c.as_slice-in-Open.ensures, of_metal, many, each)) c.index-as_slice-number-in-Open.is c.as_slice-islands.ensures

pub opens_of_tile-requires : goal.opens_of_tile-requires
opens_of_tile-requires c =
    let parts = c.self.inside.asked.parts.now in
    let questions = c.self.inside.asked.questions.now in
    let question = c.args.question.now in
    let number = question.number in
    let islands = c.as_slice-islands.result.now in
    let apart = c.self.inside.islands.items in
    let at = subst (λ (w : Work). slice_get w.questions c.args.slot ≡ Some question) (sym c.self.view_is) c.requires.asked in
    let item = subst (λ xs. IsItemAt xs c.args.slot c.get-in-Open.result) c.deref-in-Open-2.ensures.value c.get-in-Open.ensures.lookup in
    let apart_item = subst (λ xs. IsItemAt xs number c.get-apart.result) c.deref-in-Open.ensures.value c.get-apart.ensures.lookup in
    record {
      is_side = subst IsSide (sym c.side-side.ensures) c.requires.askable.is_side;
      apart = apart_found parts.islands apart c.deref-in-Open.result.now number islands c.get-apart.result c.self.invariant.of_islands (islands_are c) c.deref-in-Open.ensures.value
          c.get-apart.ensures.lookup;
      opens = λ both both_is cells is d has.
          let within = subst (λ (w : Work). Has w.plan.window d) (sym c.self.view_is) (c.requires.within d has) in
          let known = opens_at parts questions c.self.inside.plan.window _ _ _ _ c.self.invariant c.args.slot question at c.in-Open.is c.get-in-Open.result item cells is d in
          let here = found_at apart number c.get-apart.result apart_item both both_is none_apart in
          let Same : List IslandLists → Apart → ℕ → Type 0 = λ list parted s. IsInUnion cells.now d ↔ IsOneOpen list parted.large s d in
          let same : Same (get_or parts.islands number []) (get_or apart number none_apart) (side_of question) = (λ v. (known.0 v).1, λ o. known.1 (within, o)) in
          subst (Same islands both.now) (sym c.side-side.ensures)
          (subst (λ list. Same list both.now (side_of question)) (sym (islands_are c)) (subst (λ parted. Same (get_or parts.islands number []) parted (side_of question)) here.1 same));
    }

-- ---- blocks

pub blocks_of_tile-requires-clause-index : goal.blocks_of_tile-requires-clause-index
blocks_of_tile-requires-clause-index c =
    let parts = c.self.inside.asked.parts.now in
    let k = c.args.question.now.number - length c.as_slice-in-Via.result.now in
    let behind = c.requires.askable.behind_metals c.in-Via.is in
    let of_cut = c.requires.askable.of_cut c.in-Via.is in
    let metals = ap (λ (w : Work). length w.parts.metals) c.self.view_is in
    let cuts = ap (λ (w : Work). length w.parts.cuts) c.self.view_is in
    let small : k < length c.as_slice-in-Via-2.result.now = omega (arith, behind, of_cut, metals, cuts, ap length c.as_slice-in-Via.ensures, ap length c.as_slice-in-Via-2.ensures) in
    let boxes_are = list_read c.as_slice-in-Via-2.result.now parts.cuts k c.index-as_slice-cut.result c.as_slice-boxes.result.now c.as_slice-in-Via-2.ensures small c.index-as_slice-cut.is
    c.as_slice-boxes.ensures in
    reordered_at parts.cuts c.self.inside.cuts.items c.deref-in-Via.result.now k c.as_slice-boxes.result.now c.get-in-Via.result c.self.invariant.of_cuts boxes_are c.deref-in-Via.ensures.value
    c.get-in-Via.ensures.lookup
