use Rattle.std.proofs.Common.{◌++◌, take, append_assoc, refl, arith}
use Rattle.lists.proofs.Words.{append-nil}
use Rattle.toml.specs.View.{table_view}
use Rattle.layer_map.specs.CutChecks.{CutHolds}
use Rattle.layer_map.specs.MapChecks.{Holds, cuts_are_array, cuts_are_few, fault_of}
use Rattle.layer_map.specs.Values.{cuts_in, metals_in}
use Rattle.first_refusal.proofs.AnswerLaws.{handed_on, out_of_memory}
use Rattle.first_refusal.proofs.JudgeLaws.{fails_first, given, passed}
use Rattle.layer_map.proofs.CutLaws.{takes_cuts}
use Rattle.layer_map.proofs.EachLaws.{all_read, count_of, fails_second, item_stops, none_read, one_more, taken_next}
use Rattle.layer_map.proofs.SeenLaws.{have_names, names_are_different}
use Rattle.layer_map.proofs.cuts.read_cuts.Goals as goal

pub returns-in_err-items : goal.returns-in_err-items
returns-in_err-items c takes =
    let refused = c.in_err-items.ensures.refused in
    handed_on _ _ c.from_residual.result c.in_err-items.field-0.0 c.from_residual.ensures.1
    (rw refused.0 (fails_first (Holds (table_view c.args.document.now)) fault_of _ cuts_are_array _ refused.1))

pub returns-then-items-gt-MOST_CUTS : goal.returns-then-items-gt-MOST_CUTS
returns-then-items-gt-MOST_CUTS c takes =
    let count = count_of _ _ c.in_ok-items.ensures.items in
    let many = c.if-items-gt-MOST_CUTS.true in
    fails_second (Holds (table_view c.args.document.now)) fault_of _ cuts_are_array cuts_are_few _ c.in_ok-items.ensures.array (λ few. omega (arith, count, many, few))

pub loop-number-init : goal.loop-number-init
loop-number-init c takes =
    let count = count_of _ _ c.in_ok-items.ensures.items in
    let few = c.if-items-gt-MOST_CUTS.false in
    rw c.new-cuts.ensures.items (record { read = none_read c.in_ok-items.ensures.array (omega (arith, count, few)); are_seen = rw append-nil takes.are_seen })

pub returns-in_err-cut : goal.returns-in_err-cut
returns-in_err-cut c takes =
    let document = table_view c.args.document.now in
    let earlier = metals_in document ++ take c.loop-number.number (cuts_in document) in
    let far = c.loop-number.invariant takes in
    let told = c.in_err-cut.ensures (metals_in document) earlier (have_names document _ c.args.metals.now takes) (names_are_different document _ c.args.metals.now takes) far.are_seen in
    handed_on _ _ c.from_residual-in_err-cut.result c.in_err-cut.field-0.0 c.from_residual-in_err-cut.ensures.1
    (item_stops _ c.in_ok-items.ensures.items c.loop-number-test.true c.index-items-number.is far.read (CutHolds (metals_in document) earlier) (λ check h. h) (λ check h. h) (λ check. refl)
    (rw c.cut.ensures at told))

pub loop-number-preserved : goal.loop-number-preserved
loop-number-preserved c takes =
    let document = table_view c.args.document.now in
    let same = c.in_ok-items.ensures.items in
    let earlier = metals_in document ++ take c.loop-number.number (cuts_in document) in
    let far = c.loop-number.invariant takes in
    let told = c.in_ok-cut.ensures (metals_in document) earlier (have_names document _ c.args.metals.now takes) (names_are_different document _ c.args.metals.now takes) far.are_seen in
    rw c.in_ok-push.ensures.items (record {
      read = one_more _ same c.loop-number-test.true c.index-items-number.is far.read (CutHolds (metals_in document) earlier) (λ check h. h) (λ check h. h) (λ check. refl) _ (passed told)
          (given told).gives_it;
      are_seen = rw (taken_next _ same c.loop-number-test.true c.index-items-number.is, ← append_assoc) (given told).are_seen;
    })

pub returns : goal.returns
returns c takes =
    let far = c.loop-number.invariant takes in
    all_read _ c.in_ok-items.ensures.items c.loop-number-test.false far.read (λ array few count gives_them whole.
    rw c.from_vec.ensures (takes_cuts (table_view c.args.document.now) _ _ _ _ takes (omega (arith, few, count)) gives_them (rw whole at far.are_seen)))

pub returns-in_err-push : goal.returns-in_err-push
returns-in_err-push c takes = out_of_memory _ _ c.from_residual-in_err-push.result c.from_residual-in_err-push.ensures.1
