use Rattle.std.proofs.Common.{◌≡◌, take, filter}
use Rattle.net_pairs.specs.inside.Meetings.{crosses, meets_partly}
use Rattle.net_pairs.proofs.search.Begins.met.Given as goal

abbrev pub invariant-loop-span : goal.invariant-loop-span
invariant-loop-span l =
    (l.across.items ≡ filter (crosses l.self.first l.self.last) (take l.span-index l.spans))
    × (l.partly.items ≡ filter (meets_partly l.self.first l.self.last) (take l.span-index l.spans))
