use Rattle.std.proofs.Common.{◌∙◌}
use Rattle.net_pairs.specs.inside.Meetings.{crosses}
use Rattle.net_pairs.proofs.MeetingLaws.{by_row_filter}
use Rattle.net_pairs.proofs.search.add_across.Goals as goal

pub sweep-requires : goal.sweep-requires
sweep-requires c =
    let is = c.as_slice.ensures.value ∙ c.in_ok-across.ensures.across in record {
      points = c.requires.points;
      spans = by_row_filter (crosses c.args.begins.first c.args.begins.last) c.args.spans.now _ is c.requires.spans;
    }

pub returns-clause-across : goal.returns-clause-across
returns-clause-across c = rw (c.as_slice.ensures.value, c.in_ok-across.ensures.across) at c.in_ok-sweep.ensures
