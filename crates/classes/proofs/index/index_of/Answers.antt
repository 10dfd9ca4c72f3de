use Rattle.std.proofs.Common.{ℕ, ◌+◌, ◌≡◌, length, arith, subst, sym, ◌∙◌, List}
use Rattle.std.proofs.lemmas.List.Elements.{same_from_all_zip}
use Rattle.classes.specs.Classes.{AreBelow}
use Rattle.classes.specs.inside.Degrees.{AreDegrees}
use Rattle.classes.specs.inside.Index.{IsStarts, IsIndexOf}
use Rattle.classes.proofs.IndexLaws.{laid_out}
use Rattle.lists.proofs.Reading.{put_back}
use Rattle.classes.proofs.index.index_of.Goals as goal

pub count-requires-clause-below : goal.count-requires-clause-below
count-requires-clause-below c =
    let l : length c.deref_mut.result.now ≡ c.args.n = c.deref_mut.ensures.len ∙ c.in_ok-degrees.ensures.len in
    subst (λ n. AreBelow n c.args.pairs.now) (sym l) c.requires

pub fill-requires : goal.fill-requires
fill-requires c =
    let l : length c.deref_mut.result.now ≡ c.args.n = c.deref_mut.ensures.len ∙ c.in_ok-degrees.ensures.len in
    let d : AreDegrees c.args.n c.args.pairs.now c.count.new.degrees = subst (λ n. AreDegrees n c.args.pairs.now c.count.new.degrees) l c.count.ensures in
    let back : c.deref.result.now ≡ c.count.new.degrees = c.deref.ensures.value ∙ put_back _ c.count.new.degrees _ (sym (c.count.auto.degrees ∙ c.deref_mut.ensures.len)) in
    let s : IsStarts c.count.new.degrees c.in_ok-starts.starts.items = subst (λ (x : List ℕ). IsStarts x c.in_ok-starts.starts.items) back c.in_ok-starts.ensures in
    let copy : c.in_ok-next.next.items ≡ c.in_ok-starts.starts.items = same_from_all_zip _ _ _ c.in_ok-next.ensures.cases.0 (λ x y e. e) in
    let size : length c.deref_mut-3.result.now ≡ length c.args.pairs.now + length c.args.pairs.now = let a = c.deref_mut-3.ensures.len in let b = c.in_ok-neighbours.ensures.len in omega arith in
    rw (c.deref_mut-2.ensures.value, copy) (laid_out c.args.n c.args.pairs.now c.count.new.degrees c.in_ok-starts.starts.items _ c.requires d s (omega arith))

pub returns-clause-index : goal.returns-clause-index
returns-clause-index c =
    let copy : c.in_ok-next.next.items ≡ c.in_ok-starts.starts.items = same_from_all_zip _ _ _ c.in_ok-next.ensures.cases.0 (λ x y e. e) in
    let f : IsIndexOf c.args.pairs.now c.in_ok-starts.starts.items c.fill.new.neighbours = subst (λ (x : List ℕ). IsIndexOf c.args.pairs.now x c.fill.new.neighbours) (c.deref_mut-2.ensures.value
    ∙ copy) c.fill.ensures in
    rw (put_back _ c.fill.new.neighbours c.in_ok-neighbours.neighbours.items (sym (c.fill.auto.neighbours ∙ c.deref_mut-3.ensures.len))) f
