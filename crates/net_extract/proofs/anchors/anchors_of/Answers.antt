use Rattle.std.proofs.Common.{◌<◌, ◌≤◌, ◌∙◌, ap, get_or, length, take, take_all, map, refl, subst, arith, All, pos, Some}
use Rattle.lists.proofs.Words.{AllZip, enumerate_from, slice_get-get_or, slice_get_read, length-map, take_more, length-enumerate_from, All-nil}
use Rattle.first_refusal.specs.Checks.{all_hold, one_fails}
use Rattle.map_model.specs.MapNames.{terminal_of}
use Rattle.map_model.specs.declared.layers.Terminal.{Terminal}
use Rattle.net_extract.specs.inside.Anchoring.{IsAnchorOf, IsOnIsland}
use Rattle.first_refusal.specs.Answers.{gives, refuses}
use Rattle.first_refusal.proofs.AnswerLaws.{out_of_memory}
use Rattle.net_extract.specs.declared.fault.NetFault.TheVariants.{Memory}
use Rattle.lists.proofs.Pairing.{AllZip-push}
use Rattle.net_extract.proofs.AnchorLaws.{one_checked, first_off}
use Rattle.net_extract.proofs.anchors.anchors_of.Goals as goal

pub returns-in_err-found : goal.returns-in_err-found
returns-in_err-found c = out_of_memory Memory _ c.from_residual.result c.from_residual.ensures.1

pub returns-in_err-push-in-Some : goal.returns-in_err-push-in-Some
returns-in_err-push-in-Some c = out_of_memory Memory _ c.from_residual-in_err-push-in-Some.result c.from_residual-in_err-push-in-Some.ensures.1

pub loop-index-init : goal.loop-index-init
loop-index-init c = record {
  anchors = rw c.new-anchors.ensures.items tt;
  checked = All-nil (IsOnIsland c.args.islands.now);
}

pub loop-index-preserved : goal.loop-index-preserved
loop-index-preserved c =
    let terminals = c.args.terminals.now in
    let islands = c.args.islands.now in
    let k = c.loop-index.index in
    let none : Terminal = record { metal = 0; cell = record { i = pos 0; j = pos 0 } } in
    let terminal = get_or terminals k none in
    let at = slice_get-get_or terminals k none c.loop-index-test.true in
    let found = c.in_ok-found.ensures in
    let one_each = found.one_each in
    let listed : k < length c.in_ok-found.found.items = omega (arith, c.loop-index-test.true) in
    let is_found = slice_get_read c.in_ok-found.found.items (length c.in_ok-found.found.items) k c.index.result.now refl listed c.index.ensures ∙ ap Some c.in-Some.is in
    let here = found.on_island k c.in-Some.island terminal at is_found in
    record {
      anchors = rw (c.in_ok-push-in-Some.ensures.items, take_more terminals k none c.loop-index-test.true)
          (AllZip-push (IsAnchorOf islands) (take k terminals) c.loop-index.anchors.items terminal _ c.loop-index.invariant.anchors (record { metal = refl; cell = refl; on_island = here }));
      checked = one_checked islands terminals k terminal at c.loop-index.invariant.checked (c.in-Some.island, here);
    }

pub returns-in-None : goal.returns-in-None
returns-in-None c =
    let terminals = c.args.terminals.now in
    let islands = c.args.islands.now in
    let k = c.loop-index.index in
    let none : Terminal = record { metal = 0; cell = record { i = pos 0; j = pos 0 } } in
    let terminal = get_or terminals k none in
    let at = slice_get-get_or terminals k none c.loop-index-test.true in
    let found = c.in_ok-found.ensures in
    let one_each = found.one_each in
    let listed : k < length c.in_ok-found.found.items = omega (arith, c.loop-index-test.true) in
    let is_found = slice_get_read c.in_ok-found.found.items (length c.in_ok-found.found.items) k c.index.result.now refl listed c.index.ensures ∙ ap Some c.in-None.is in
    let on_metal = c.requires.on_metals k none c.loop-index-test.true in
    refuses (one_fails (first_off islands terminals k terminal at c.loop-index.invariant.checked (λ h. found.on_none k h.0 terminal at is_found on_metal h.1)))

pub returns : goal.returns
returns c =
    let terminals = c.args.terminals.now in
    let islands = c.args.islands.now in
    let k = c.loop-index.index in
    let numbered = enumerate_from 0 (map terminal_of terminals) in
    let as_many = length-enumerate_from 0 (map terminal_of terminals) ∙ length-map terminals terminal_of in
    let past : length numbered ≤ k = omega (arith, c.loop-index-test.false) in
    let checked = subst (All (IsOnIsland islands)) (take_all k numbered past) c.loop-index.invariant.checked in
    let anchors = subst (λ ts. AllZip (IsAnchorOf islands) ts c.loop-index.anchors.items) (take_all k terminals c.loop-index-test.false) c.loop-index.invariant.anchors in
    rw c.from_vec.ensures (gives (all_hold checked anchors))
