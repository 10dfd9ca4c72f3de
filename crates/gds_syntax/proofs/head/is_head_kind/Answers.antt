use Rattle.library_grammar.specs.GrammarNames.{head_kinds}
use Rattle.gds_syntax.proofs.OwnLaws.{contains_as_asked}
use Rattle.gds_syntax.proofs.head.is_head_kind.Goals as goal

pub returns : goal.returns
returns c = contains_as_asked head_kinds c.args.kind c.contains.result c.contains.ensures.cases
