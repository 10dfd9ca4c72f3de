use Rattle.library_model.specs.Names.{names_of}
use Rattle.library_model.proofs.laws.Names.{place_of-is}
use Rattle.flatten.proofs.laws.a_name_stands_where_it_is_found.Goals as goal

pub returns : goal.returns
returns c structures = place_of-is (names_of structures)
