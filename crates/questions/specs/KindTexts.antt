-- the words for kinds of faults
use Rattle.std.specs.Prelude.{ℕ, List, codes}
use Rattle.questions.specs.declared.kind.Kind.{Kind}
use Rattle.questions.specs.declared.kind.Kind.TheVariants.{Short, Open, Via}

-- the word for the kind
abbrev pub kind_text : Kind → List ℕ
kind_text Short = codes "short"
kind_text Open = codes "open"
kind_text Via = codes "via"
