use Rattle.std.proofs.Common.{sym}
use Rattle.flatten.proofs.TopLaws.{name_chosen, name_refused, tops_tell}
use Rattle.first_refusal.proofs.AnswerLaws.{out_of_memory}
use Rattle.flatten.proofs.plan.top_of.Goals as goal

pub only_top-requires : goal.only_top-requires
only_top-requires c = rw c.as_slice.ensures.value c.in_ok-tops-in-None.ensures

pub returns-in-Some-find : goal.returns-in-Some-find
returns-in-Some-find c =
    rw c.in-Some.is (name_chosen c.args.structures.now c.requires.known c.requires.ends c.in-Some.name.now c.in-Some-find.top
    (sym (rw (c.in-Some-find.is, c.requires.indexed.names) at c.find.ensures.place)))

pub returns-in-None-find : goal.returns-in-None-find
returns-in-None-find c =
    rw c.in-Some.is (name_refused c.args.structures.now c.requires.known c.requires.ends c.in-Some.name.now
    (sym (rw (c.in-None-find.is, c.requires.indexed.names) at c.find.ensures.place)))

pub returns-in_ok-tops-in-None : goal.returns-in_ok-tops-in-None
returns-in_ok-tops-in-None c =
    rw c.in-None.is (tops_tell c.args.structures.now c.requires.known c.requires.ends c.only_top.result c.only_top.ensures.only c.only_top.ensures.fault)

pub returns-in_err-tops-in-None : goal.returns-in_err-tops-in-None
returns-in_err-tops-in-None c = out_of_memory _ _ c.from_residual.result c.from_residual.ensures.1
