use Rattle.std.proofs.Common.{◌≡◌, ◌∙◌, ◌+◌, ◌↔◌, [], ◌∷◌, List, All, ap, drop, subst, sym}
use Rattle.lists.proofs.Words.{IfOk-weaker, drop_all, drop_more}
use Rattle.geo_core.specs.declared.plane.Half.{Half}
use Rattle.half_boxes.specs.HalfBoxes.{HasHalf, HasHalfIn, LiesWithin}
use Rattle.half_boxes.specs.declared.boxes.HalfBox.{HalfBox}
use Rattle.remnants.specs.Remnants.{RemnantLists, IsLooseWithin, IsSplit}
use Rattle.remnants.specs.declared.parts.Loose.{Loose}
use Rattle.remnants.proofs.CutLaws.{IsCutTo, leaders_with, none_cut, cut_more, all_cut}
use Rattle.remnants.proofs.remnant.Remnant.cut.Goals as goal

pub without_loose-requires : goal.without_loose-requires
without_loose-requires c =
    let inside = c.self.inside in
    rw (c.deref.ensures.value, c.as_slice.ensures, c.deref-2.ensures.value)
    (leaders_with inside.fixed.items inside.marks inside.loose.items [] inside.terminals.items c.self.invariant.leaders)

pub loop-loose-init : goal.loop-loose-init
loop-loose-init c =
    let inside = c.self.inside in
    let old : RemnantLists = record { fixed = inside.fixed.items; loose = inside.loose.items; marks = inside.marks; terminals = inside.terminals.items } in
    let cut_is = rw (c.deref.ensures.value, c.as_slice.ensures, c.deref-2.ensures.value) at c.in_ok-cut.ensures in
    subst (λ (r : RemnantLists). IsCutTo c.args.inner c.args.outer r c.deref-loose-items.result.now c.in_ok-cut.cut) c.self.view_is
    (subst (λ (xs : List Loose). IsCutTo c.args.inner c.args.outer old xs c.in_ok-cut.cut) (sym c.deref-loose-items.ensures.value)
    (subst (λ (r : RemnantLists). IsCutTo c.args.inner c.args.outer old inside.loose.items r) (sym cut_is) (none_cut c.args.inner c.args.outer old)))

pub loop-loose-preserved : goal.loop-loose-preserved
loop-loose-preserved c =
    let items = c.deref-loose-items.result.now in
    let k = c.loop-loose.loose-index in
    cut_more c.args.inner c.args.outer c.args.self.now c.loop-loose.cut c.in_ok-cut-2.cut c.loose-item.result (drop k items) (drop (k + 1) items)
    (drop_more items k c.loose-item.result c.loop-loose-test.true ∙ ap (λ (x : Loose). x ∷ drop (k + 1) items) (sym c.loose-item.is))
    c.loop-loose.invariant c.in_ok-cut-2.ensures.cut c.in_ok-cut-2.ensures.within

pub returns-clause-same : goal.returns-clause-same
returns-clause-same c =
    let items = c.deref-loose-items.result.now in
    let k = c.loop-loose.loose-index in
    IfOk-weaker c.join.result (λ (joined : RemnantLists). (removed : HalfBox) → IsSplit joined removed ↔ IsSplit c.loop-loose.cut removed)
    (λ (narrowed : RemnantLists). (removed : HalfBox) → ((h : Half) → HasHalfIn c.args.inner h → HasHalf removed h) → LiesWithin removed c.args.outer
    → IsSplit narrowed removed ↔ IsSplit c.args.self.now removed)
    (λ (narrowed : RemnantLists) same removed has_inner within.
    let cut = all_cut c.args.inner c.args.outer c.args.self.now (drop k items) c.loop-loose.cut (drop_all k items c.loop-loose-test.false) c.loop-loose.invariant removed
    (record { has_inner = has_inner; within = within }) in
    let joined = same removed in
    (λ s. cut.1 (joined.0 s), λ s. joined.1 (cut.0 s))) c.join.ensures.same

pub returns-clause-within : goal.returns-clause-within
returns-clause-within c =
    IfOk-weaker c.join.result (λ (joined : RemnantLists). joined.loose ≡ c.loop-loose.cut.loose) (λ (narrowed : RemnantLists). IsLooseWithin narrowed c.args.outer)
    (λ (narrowed : RemnantLists) same. subst (All (λ (one : Loose). LiesWithin one.part c.args.outer)) (sym same) c.loop-loose.invariant.within) c.join.ensures.loose
