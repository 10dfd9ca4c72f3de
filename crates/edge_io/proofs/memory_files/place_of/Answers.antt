use Rattle.edge_io.proofs.HeldLaws.{held, not_held}
use Rattle.edge_io.proofs.memory_files.place_of.Goals as goal

pub returns-in-Some-clause-unread : goal.returns-in-Some-clause-unread
returns-in-Some-clause-unread c = (held c.args.files.now c.args.name.now c.in-Some.number c.in-Some.ensures).unread

pub returns-in-Some-clause-found : goal.returns-in-Some-clause-found
returns-in-Some-clause-found c = (held c.args.files.now c.args.name.now c.in-Some.number c.in-Some.ensures).found

pub returns-in-None-clause-missing : goal.returns-in-None-clause-missing
returns-in-None-clause-missing c = not_held c.args.files.now c.args.name.now c.in-None.ensures
