use Rattle.std.proofs.Common.{◌≡◌, ◌∷◌, [], ◌++◌, sym, ap, take_all, ◌∙◌, arith, length, length-set}
use Rattle.flatten.specs.inside.Surveys.{AreDone}
use Rattle.flatten.specs.declared.summary.State.TheVariants.{Open}
use Rattle.flatten.proofs.SearchLaws.{is_new, parts_last, below_last, open_said, passed_over, chains_from_root, done_now, goes_on}
use Rattle.flatten.proofs.search.step.Goals as goal

pub returns-in_default : goal.returns-in_default
returns-in_default c =
    let on = passed_over c.args.stack.now.items c.args.one c.requires.search c.in_default.not-Open in
    record { search = on.search; cycle = tt; kept = on.kept; less = on.less }

pub next_undone-requires-clause-below : goal.next_undone-requires-clause-below
next_undone-requires-clause-below c = below_last c.args.stack.now.items c.args.one c.requires.search c.requires.below c.as_slice-parts.ensures.value c.index-nodes-one.is

pub next_undone-requires-clause-before : goal.next_undone-requires-clause-before
next_undone-requires-clause-before c =
    let parts = parts_last c.args.stack.now.items c.args.one c.requires.search c.as_slice-parts.ensures.value c.index-nodes-one.is in
    rw parts (open_said c.args.stack.now.items c.args.one c.requires.search c.args.one c.in-Open.next c.in-Open.is).1

pub summary_of-requires : goal.summary_of-requires
summary_of-requires c = below_last c.args.stack.now.items c.args.one c.requires.search c.requires.below c.as_slice-parts.ensures.value c.index-nodes-one.is

pub bounds-in-Some : goal.bounds-in-Some
bounds-in-Some c =
    let below = below_last c.args.stack.now.items c.args.one c.requires.search c.requires.below c.as_slice-parts.ensures.value c.index-nodes-one.is in
    below c.in-Some.ensures.leads.0 c.in-Some.other c.in-Some.ensures.leads.1

pub bounds-states-other : goal.bounds-states-other
bounds-states-other c =
    let below = below_last c.args.stack.now.items c.args.one c.requires.search c.requires.below c.as_slice-parts.ensures.value c.index-nodes-one.is in
    let h = below c.in-Some.ensures.leads.0 c.in-Some.other c.in-Some.ensures.leads.1 in
    omega (arith, length-set c.args.states.now c.args.one (Open c.in-Some.place))

pub returns-in-Open-states : goal.returns-in-Open-states
returns-in-Open-states c =
    let parts = parts_last c.args.stack.now.items c.args.one c.requires.search c.as_slice-parts.ensures.value c.index-nodes-one.is in
    record {
      search = tt;
      cycle = chains_from_root c.args.stack.now.items c.args.one c.requires.search c.in-Some.other c.in-Open-states.field-0 (rw parts at c.in-Some.ensures.leads) c.in-Open-states.is;
      kept = λ one summary e. e;
      less = omega arith;
    }

pub returns-in-None : goal.returns-in-None
returns-in-None c =
    let parts = parts_last c.args.stack.now.items c.args.one c.requires.search c.as_slice-parts.ensures.value c.index-nodes-one.is in
    let done : AreDone c.args.states.now c.as_slice-parts.result.now = rw (← take_all (length c.as_slice-parts.result.now) c.as_slice-parts.result.now (omega arith)) c.in-None.ensures.none in
    let on = done_now c.args.stack.now.items c.args.one c.requires.search c.in-Open.next c.in-Open.is c.summary_of.result (rw parts at done) (rw parts at c.summary_of.ensures) in
    record { search = on.search; cycle = tt; kept = on.kept; less = on.less }

pub returns-in_ok-push-in-Some-2 : goal.returns-in_ok-push-in-Some-2
returns-in_ok-push-in-Some-2 c =
    let parts = parts_last c.args.stack.now.items c.args.one c.requires.search c.as_slice-parts.ensures.value c.index-nodes-one.is in
    let below = below_last c.args.stack.now.items c.args.one c.requires.search c.requires.below c.as_slice-parts.ensures.value c.index-nodes-one.is in
    let found = c.in-Some.ensures in
    let on = goes_on c.args.stack.now.items c.args.one c.requires.search c.in-Open.next c.in-Open.is c.in-Some.other c.in-Some.place
    (is_new _ c.in_default-states.not-Open found.undone) (rw parts at found.leads) (below found.leads.0 c.in-Some.other found.leads.1) (rw parts at found.before) in
    let items : (c.args.stack.now.items ++ c.args.one ∷ []) ++ c.in-Some.other ∷ [] ≡ c.push-in-Some.new.self.items
    = ap (λ l. l ++ c.in-Some.other ∷ []) (sym c.in_ok-push-in-Some.ensures.items) ∙ sym c.in_ok-push-in-Some-2.ensures.items in
    rw (← items) (record { search = on.search; cycle = tt; kept = on.kept; less = on.less })
