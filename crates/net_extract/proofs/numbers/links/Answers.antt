use Rattle.net_extract.proofs.LinkLaws.{links_are}
use Rattle.std.proofs.Common.{ap, ◌∙◌, take_all, map}
use Rattle.lists.proofs.Words.{flat_map}
use Rattle.net_extract.proofs.LinkLaws.{carried}
use Rattle.net_extract.proofs.numbers.links.Goals as goal

pub returns : goal.returns
returns c = links_are c.args.contacts.now c.loop-list.links.items (c.loop-list.invariant ∙ ap (flat_map (map carried)) (take_all c.loop-list.list-index c.args.contacts.now c.loop-list-test.false))
