-- what is kept of elements
use Rattle.std.proofs.Common.{List, ◌++◌, All, Option, Some, None, IfSome, option_to_list}
use Rattle.lists.proofs.Words.{All-cons}
use Rattle.library_model.specs.declared.element.Element.{Element}

-- what is kept of an element, if anything, and what is kept of others
pub with_kept : (P : Element → Type 0) (kept : Option Element) (rest : List Element) → IfSome kept P → All P rest → All P (option_to_list kept ++ rest)
with_kept P None rest one all = all
with_kept P (Some element) rest one all = All-cons P element rest one all
