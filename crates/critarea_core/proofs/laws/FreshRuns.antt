-- runs with gauges that are dropped, and a run that does not begin
use Rattle.std.proofs.Common.{ℕ, ◌≡◌, List, [], ◌∷◌, refl, ap, subst, ◌∙◌, Option}
use Rattle.questions.specs.declared.row.Row.{Row}
use Rattle.gauges.specs.declared.pair_row.PairRow.{PairRow}
use Rattle.gauges.specs.GaugeViews.{GaugeView, fresh}
use Rattle.run_inputs.specs.Failures.{change}
use Rattle.critarea_core.specs.Run.{Files, Output, RunsWith}
use Rattle.critarea_core.specs.Run as run
use Rattle.critarea_core.proofs.RunLaws.{runs_to, starts_none}

-- a gauge that has seen nothing, by the text that it prints
fresh_view : {Kind : Type 0} (gauge : GaugeView Kind) (prints : List Kind → List ℕ) → gauge.seen ≡ [] → gauge.text ≡ prints → gauge ≡ fresh prints
fresh_view gauge prints none is =
    ap (λ seen. record { seen = seen; text = gauge.text }) none ∙ ap (λ text. record { seen = []; text = text }) is

-- one such gauge, and two
pub one_fresh : {Kind : Type 0} (gauge : GaugeView Kind) (prints : List Kind → List ℕ) → gauge.seen ≡ [] → gauge.text ≡ prints → gauge ∷ [] ≡ fresh prints ∷ []
one_fresh gauge prints none is = ap (λ view. view ∷ []) (fresh_view gauge prints none is)

pub two_fresh : {Kind : Type 0} (gauge other : GaugeView Kind) (prints another : List Kind → List ℕ) → gauge.seen ≡ [] → gauge.text ≡ prints
    → other.seen ≡ [] → other.text ≡ another → gauge ∷ other ∷ [] ≡ fresh prints ∷ fresh another ∷ []
two_fresh gauge other prints another none is unseen so =
    ap (λ view. view ∷ other ∷ []) (fresh_view gauge prints none is) ∙ ap (λ views. fresh prints ∷ views) (one_fresh other another unseen so)

-- the same run, where the gauges are these
pub runs_fresh : (words : List (List ℕ)) (files : Files) (out err : Output) (status : ℕ) (gauges also : List (GaugeView Row)) (pair_gauges others : List (GaugeView PairRow))
    → gauges ≡ also → pair_gauges ≡ others → RunsWith words gauges pair_gauges files out err status → RunsWith words also others files out err status
runs_fresh words files out err status gauges also pair_gauges others same alike runs =
    subst (λ views. RunsWith words also views files out err status) alike (subst (λ views. RunsWith words views pair_gauges files out err status) same runs)

-- ---- a run that does not begin

module _ (words : List (List ℕ)) (gauges : List (GaugeView Row)) (pair_gauges : List (GaugeView PairRow)) (holds : List ℕ → Option (List ℕ)) (sure : List ℕ → Type 0)
    (starts : Option (List (List ℕ))) (failures out_failures err_failures out_sure err_sure : ℕ) (out err : Option (List ℕ)) where
  abbrev pub AtRest : ℕ → Type 0
  AtRest = RunsWith words gauges pair_gauges
      (record { holds = change holds holds; sure = sure; starts = change starts starts; failures = change failures failures })
      (record { taken = change out out; sure = out_sure; failures = change out_failures out_failures })
      (record { taken = change err err; sure = err_sure; failures = change err_failures err_failures })

  -- where no memory is left, files, outputs and gauges stay as they are
  pub runs_nowhere : AtRest 6
  runs_nowhere = record {
    gauges_after = gauges;
    pair_gauges_after = pair_gauges;
    runs = runs_to words _ 6 (run.out_of_memory refl (refl, refl) (refl, refl) (record { of_rows = refl; of_pairs = refl })) (starts_none words holds starts) (λ name. refl);
  }
