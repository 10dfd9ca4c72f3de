-- cells of terminals as rectangles
use Rattle.std.proofs.Common.{ℕ, ◌+◌, ◌<◌, ◌≤◌, ◌≡◌, refl, sym, ap, ◌∙◌, subst, List, [], ◌++◌, length, arith, inl, inr, ℤ, pos, ◌+ℤ◌, ◌↔◌, Option, Some, None, slice_get, option_to_list}
use Rattle.lists.proofs.Words.{ints, Contains-append_left, Contains-append_right, Contains-append_cases, slice_get_within}
use Rattle.geo_core.specs.Plane.{IsIn, Has}
use Rattle.geo_core.specs.declared.plane.Cell.{Cell}
use Rattle.geo_core.specs.declared.plane.Labelled.{Labelled}
use Rattle.geo_core.specs.declared.plane.Rect.{Rect}
use Rattle.geo_core.proofs.RectLaws.{same_cell}
use Rattle.map_model.specs.declared.layers.Terminal.{Terminal}
use Rattle.net_extract.specs.inside.LabelledCells.{HasLabelled}
use Rattle.net_extract.specs.inside.Anchoring.{IsTerminalAt, AreTerminalsOn, IsTerminalOn}
use Rattle.net_extract.proofs.MetalLaws.{before_or_past}
use Rattle.lists.proofs.Containing.{Contains-cons_cases, Contains-head, Contains-none}

-- an interval of one number
is_one : (low high x y : ℤ) → low ≡ y → high ≡ y +ℤ pos 1 → IsIn low high x → x ≡ y
is_one low high x y e f h = let from = h.from in let before = h.before in omega (arith, ints)

has_one : (low high x y : ℤ) → low ≡ y → high ≡ y +ℤ pos 1 → x ≡ y → IsIn low high x
has_one low high x y e f g = record { from = omega (arith, ints); before = omega (arith, ints) }

-- a rectangle of one cell
pub is_cell : (rect : Rect) (cell : Cell) → rect.x0 ≡ cell.i → rect.x1 ≡ cell.i +ℤ pos 1 → rect.y0 ≡ cell.j → rect.y1 ≡ cell.j +ℤ pos 1 → (c : Cell) → Has rect c ↔ (c ≡ cell)
is_cell rect cell left right bottom top c = (
  λ h. same_cell c cell (is_one rect.x0 rect.x1 c.i cell.i left right h.across) (is_one rect.y0 rect.y1 c.j cell.j bottom top h.up),
  λ e. record {
    across = has_one rect.x0 rect.x1 c.i cell.i left right (ap (λ (x : Cell). x.i) e);
    up = has_one rect.y0 rect.y1 c.j cell.j bottom top (ap (λ (x : Cell). x.j) e);
  },
)

module _ (terminal : Terminal) (number metal : ℕ) where
  pub none_on : (terminal.metal ≡ metal → (rect : Rect) → Has rect terminal.cell → ⊥) → IsTerminalOn terminal number metal None
  none_on never = record {
    sound = λ label c h. absurd (Contains-none h.among);
    complete = λ rect e h. absurd (never e rect h);
  }

  pub is_on : (rect : Rect) → terminal.metal ≡ metal → ((c : Cell) → Has rect c ↔ (c ≡ terminal.cell)) → IsTerminalOn terminal number metal (Some (record { rect = rect; label = number }))
  is_on rect e is = record {
    sound = λ label c h.
        let cell : Labelled = record { rect = rect; label = number } in
        let same : cell ≡ h.labelled = elim (Contains-cons_cases cell [] h.labelled h.among) [ inl s ↦ s | inr n ↦ absurd (Contains-none n) ] in
        (sym (ap (λ (l : Labelled). l.label) same ∙ h.carries), e, sym ((is c).0 (subst (λ (l : Labelled). Has l.rect c) (sym same) h.has)));
    complete = λ other f h. record { labelled = record { rect = rect; label = number }; among = Contains-head _ []; carries = refl; has = (is terminal.cell).1 refl };
  }

-- the cells of the first so many terminals
module _ (terminals : List Terminal) (metal : ℕ) where
  pub record AreFirstTerminalsOn (count : ℕ) (cells : List Labelled) : Type 0 where
    pub sound : (number : ℕ) (c : Cell) → HasLabelled cells number c → IsTerminalAt terminals metal number c
    pub complete : (number : ℕ) (c : Cell) (rect : Rect) → number < count → IsTerminalAt terminals metal number c → Has rect c → HasLabelled cells number c

  pub no_terminals : AreFirstTerminalsOn 0 []
  no_terminals = record { sound = λ number c h. absurd (Contains-none h.among); complete = λ number c rect small. absurd (omega arith) }

  pub all_terminals : (count : ℕ) (cells : List Labelled) → length terminals ≤ count → AreFirstTerminalsOn count cells → AreTerminalsOn terminals metal cells
  all_terminals count cells past are = record {
    sound = are.sound;
    complete = λ number c rect t. let small = slice_get_within terminals number t.terminal t.numbered in are.complete number c rect (omega arith) t;
  }

  module _ (count : ℕ) (old : List Labelled) (are : AreFirstTerminalsOn count old) (terminal : Terminal) (at : slice_get terminals count ≡ Some terminal) (cell : Option Labelled)
      (is : IsTerminalOn terminal count metal cell) where
    has_old : (number : ℕ) (c : Cell) → HasLabelled old number c → HasLabelled (old ++ option_to_list cell) number c
    has_old number c h = record { labelled = h.labelled; among = Contains-append_left old (option_to_list cell) h.labelled h.among; carries = h.carries; has = h.has }

    has_new : (number : ℕ) (c : Cell) → HasLabelled (option_to_list cell) number c → HasLabelled (old ++ option_to_list cell) number c
    has_new number c h = record { labelled = h.labelled; among = Contains-append_right old (option_to_list cell) h.labelled h.among; carries = h.carries; has = h.has }

    pub one_terminal_more : AreFirstTerminalsOn (count + 1) (old ++ option_to_list cell)
    one_terminal_more = record {
      sound = λ number c h. elim (Contains-append_cases old (option_to_list cell) h.labelled h.among) [
        | inl before ↦ are.sound number c (record { labelled = h.labelled; among = before; carries = h.carries; has = h.has })
        | inr now ↦
            let told = is.sound number c (record { labelled = h.labelled; among = now; carries = h.carries; has = h.has }) in
            record { terminal = terminal; numbered = subst (λ n. slice_get terminals n ≡ Some terminal) (sym told.0) at; on_metal = told.1; at = told.2 }
      ];
      complete = λ number c rect small t h. elim (before_or_past number count) [
        | inl less ↦ has_old number c (are.complete number c rect less t h)
        | inr (inl e) ↦
            let t_at = t.numbered in
            let same : t.terminal ≡ terminal = cc (at, t_at, e) in
            let on_metal = sym (ap (λ (x : Terminal). x.metal) same) ∙ t.on_metal in
            let cell_is = sym (ap (λ (x : Terminal). x.cell) same) ∙ t.at in
            let found = is.complete rect on_metal (subst (Has rect) (sym cell_is) h) in
            has_new number c (subst (λ n. HasLabelled (option_to_list cell) n c) (sym e) (subst (HasLabelled (option_to_list cell) count) cell_is found))
        | inr (inr past) ↦ absurd (omega arith)
      ];
    }
