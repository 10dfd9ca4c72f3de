use Rattle.std.proofs.Common.{◌≡◌, true}
use Rattle.near_index.proofs.NearestLaws.{adds_first, adds_new_first, adds_other, adds_same_label, adds_second}
use Rattle.near_index.proofs.TwoLeastLaws.{turned}
use Rattle.near_index.proofs.keeping.with.Goals as goal

pub returns-in_default : goal.returns-in_default
returns-in_default c piece cell labelled away = adds_first cell piece c.args.near labelled away c.args.nearest c.in_default.is

pub returns-then-near-first : goal.returns-then-near-first
returns-then-near-first c piece cell labelled away =
    adds_same_label cell piece c.args.near labelled away c.args.nearest c.in-Some.first c.in-Some.is c.first_of.result c.if-near-first.true c.first_of.ensures

pub returns-then-not-is_no_later : goal.returns-then-not-is_no_later
returns-then-not-is_no_later c piece cell labelled away =
    adds_new_first cell piece c.args.near labelled away c.args.nearest c.in-Some.first c.in-Some.is c.if-near-first.false
    (turned c.in-Some.first c.args.near (λ before. let h : c.is_no_later.result ≡ true = c.is_no_later.ensures.1 before in cc (h, c.if-not-is_no_later.true)))

pub returns-in_default-second : goal.returns-in_default-second
returns-in_default-second c piece cell labelled away =
    adds_second cell piece c.args.near labelled away c.args.nearest c.in-Some.first c.in-Some.is c.if-near-first.false (c.is_no_later.ensures.0 c.if-not-is_no_later.false)
    c.in_default-second.is

pub returns : goal.returns
returns c piece cell labelled away =
    adds_other cell piece c.args.near labelled away c.args.nearest c.in-Some.first c.in-Some.is c.if-near-first.false c.in-Some-second.second c.first_of-2.result
    (c.is_no_later.ensures.0 c.if-not-is_no_later.false) c.in-Some-second.is c.first_of-2.ensures
