use Rattle.gds_write.proofs.elements.datatype_kind.Goals as goal

pub returns-in-BoxElement : goal.returns-in-BoxElement
returns-in-BoxElement c = rw c.in-BoxElement.is
