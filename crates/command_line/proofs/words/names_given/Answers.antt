use Rattle.std.proofs.Common.{[], ◌∷◌, ◌∙◌, ap, sym}
use Rattle.command_line.proofs.words.names_given.Goals as goal

pub returns-clause-layout : goal.returns-clause-layout
returns-clause-layout c = c.requires.layout ∙ ap (λ t. t ∷ []) (sym c.in_ok-layout.ensures)

pub returns-clause-map : goal.returns-clause-map
returns-clause-map c = c.requires.map ∙ ap (λ t. t ∷ []) (sym c.in_ok-map.ensures)

pub returns-clause-top : goal.returns-clause-top
returns-clause-top c = sym c.text_of.ensures ∙ c.in_ok-top.ensures
