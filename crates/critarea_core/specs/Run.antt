-- what a run comes to
use Rattle.std.specs.Prelude.{ℕ, List, [], length, ◌≡◌, ◌≢◌, ◌<◌, ◌≤◌, ◌⊎◌, Contains, Option, map}
use Rattle.first_refusal.specs.Outcomes.{Outcome, value, refused}
use Rattle.edge_io.specs.Bytes.{Appends, AppendsPrefix}
use Rattle.command_line.specs.Requests.{Ask}
use Rattle.command_line.specs.declared.request.Request.{Request}
use Rattle.map_model.specs.MapNames.{LayerMap}
use Rattle.questions.specs.declared.row.Row.{Row}
use Rattle.gauges.specs.declared.pair_row.PairRow.{PairRow}
use Rattle.gauges.specs.GaugeViews.{GaugeView, AreTold, AreToldPrefixes, views_of}
pub use Rattle.run_inputs.specs.Failures.{Change, change, HasRisen, IsCalm, IsUnsureOf}
use Rattle.run_inputs.specs.Contents.{Contents, AgreeWith, MayContain, map_names, file_names}
use Rattle.run_inputs.specs.Refusals.{refusal_text}
use Rattle.run_inputs.specs.Inquiries.{Inquiry, QueryComesTo}
use Rattle.run_inputs.specs.Verdict.{MapComesTo, IsVerdict}
use Rattle.run_inputs.specs.declared.query.Query.{Query}
use Rattle.run_inputs.specs.declared.refusal.Refusal.{Refusal}
use Rattle.critarea_core.specs.Outputs.{Due, IsDue}

-- ---- the words, and what files tell

-- Below, `words` are the words of the command line, and `told` gives what a file holds, by its name, where that is told.

-- some contents that the files may have come to this
pub record MayComeTo (words : List (List ℕ)) (told : List ℕ → Option (List ℕ)) (outcome : Outcome Inquiry Refusal) : Type 0 where
  pub contents : Contents
  pub agree : AgreeWith told contents
  pub verdict : IsVerdict words contents outcome

-- all contents that the files may have come to this
abbrev pub MustComeTo : List (List ℕ) → (List ℕ → Option (List ℕ)) → Outcome Inquiry Refusal → Type 0
MustComeTo words told outcome = (contents : Contents) → AgreeWith told contents → IsVerdict words contents outcome

-- some bytes that the map may have make it a good one, and it has what the task asks of it
pub record MapMayServe (told : List ℕ → Option (List ℕ)) (request : Request) : Type 0 where
  pub bytes : List ℕ → List ℕ
  pub may_be : MayContain told bytes
  pub layer_map : LayerMap
  pub comes : MapComesTo request.task bytes (value layer_map)
  pub query : Query
  pub fits : QueryComesTo request.task layer_map (value query)

-- ---- what a run met and left behind

-- the files: what each holds by its name and which were started, where they tell it, of which names they are sure, whose start
-- and reads cannot fail, and how many of their calls failed, a count that stands still at its last value
pub record Files : Type 1 where
  pub holds : Change (List ℕ → Option (List ℕ))
  pub sure : List ℕ → Type 0
  pub starts : Change (Option (List (List ℕ)))
  pub failures : Change ℕ

-- an output: what it took, where it tells it, how many bytes it was sure to take, and how many of its calls failed, a count of
-- the same kind
pub record Output : Type 0 where
  pub taken : Change (Option (List ℕ))
  pub sure : ℕ
  pub failures : Change ℕ

-- the gauges of rows and those of pairs, each in their order
pub record Gauges : Type 0 where
  pub of_rows : Change (List (GaugeView Row))
  pub of_pairs : Change (List (GaugeView PairRow))

-- the same, read by the meanings of the two kinds of gauges
abbrev pub known_gauges : {One Other : Type 0} → (One → List Row) → (One → List Row → List ℕ) → (Other → List PairRow) → (Other → List PairRow → List ℕ)
    → Change (List One) → Change (List Other) → Gauges
known_gauges seen text pairs_seen pairs_text of_rows of_pairs = record {
  of_rows = change (views_of seen text of_rows.before) (views_of seen text of_rows.after);
  of_pairs = change (views_of pairs_seen pairs_text of_pairs.before) (views_of pairs_seen pairs_text of_pairs.after);
}

-- the files, the output of what is due, that of the refusal's line, and the gauges
pub record Surroundings : Type 1 where
  pub files : Files
  pub out : Output
  pub err : Output
  pub gauges : Gauges

-- the output took nothing, and did not fail
abbrev pub IsIdle : Output → Type 0
IsIdle out = (out.taken.after ≡ out.taken.before) × IsCalm out.failures

-- the output took the text, and did not fail
abbrev pub Takes : Output → List ℕ → Type 0
Takes out text = Appends out.taken.before out.taken.after text × IsCalm out.failures

-- the output failed, as far as its count tells, which was not sure to take the text, and took the first part of it
pub record FailsWithin (out : Output) (text : List ℕ) : Type 0 where
  pub risen : HasRisen out.failures
  pub not_sure : out.sure < length text
  pub prefix : AppendsPrefix out.taken.before out.taken.after text

-- there are as many gauges as before, and the one at each place prints for a list of rows what it printed
abbrev pub KeepTexts : {Kind : Type 0} → Change (List (GaugeView Kind)) → Type 0
KeepTexts gauges = map (λ gauge. gauge.text) gauges.after ≡ map (λ gauge. gauge.text) gauges.before

abbrev pub KeepTheirTexts : Gauges → Type 0
KeepTheirTexts gauges = KeepTexts gauges.of_rows × KeepTexts gauges.of_pairs

-- no gauge has seen more than it had seen
pub record AreUntold (gauges : Gauges) : Type 0 where
  pub of_rows : gauges.of_rows.after ≡ gauges.of_rows.before
  pub of_pairs : gauges.of_pairs.after ≡ gauges.of_pairs.before

-- each has seen the rows, too, that it is due to be told
pub record AreToldAll (due : Due) (gauges : Gauges) : Type 0 where
  pub of_rows : AreTold due.rows gauges.of_rows.before gauges.of_rows.after
  pub of_pairs : AreTold due.pair_rows gauges.of_pairs.before gauges.of_pairs.after

-- each has seen the first few of these, too, perhaps none or all
pub record AreToldSome (due : Due) (gauges : Gauges) : Type 0 where
  pub of_rows : AreToldPrefixes due.rows gauges.of_rows.before gauges.of_rows.after
  pub of_pairs : AreToldPrefixes due.pair_rows gauges.of_pairs.before gauges.of_pairs.after

-- this is due to the gauges as they were, of a layout and what is asked of it
abbrev pub IsDueTo : Gauges → Inquiry → Due → Type 0
IsDueTo gauges inquiry = IsDue inquiry gauges.of_rows.before gauges.of_pairs.before

-- ---- the run

-- the names of files that a run starts, in order: none; the map's, where there is one; or the layout's behind it, where
-- the map may serve the task
pub data MayBeStarted (words : List (List ℕ)) (told : List ℕ → Option (List ℕ)) : List (List ℕ) → Type 0 where
  no_file : MayBeStarted words told []
  map_file : (request : Request) → Ask words request → MayBeStarted words told (map_names request.task)
  both_files : (request : Request) → Ask words request → MapMayServe told request → MayBeStarted words told (file_names request.task)

-- the files are not sure of a name that may be started
pub record AreUnsure (words : List (List ℕ)) (told : List ℕ → Option (List ℕ)) (sure : List ℕ → Type 0) : Type 0 where
  pub names : List (List ℕ)
  pub may_be : MayBeStarted words told names
  pub not_sure : IsUnsureOf sure names

-- this is due of a layout to which the words may come, and of what they ask of it
pub record IsDueFor (words : List (List ℕ)) (met : Surroundings) (due : Due) : Type 0 where
  pub inquiry : Inquiry
  pub comes : MayComeTo words met.files.holds.before (value inquiry)
  pub is_due : IsDueTo met.gauges inquiry due

-- the words may come to this refusal
abbrev pub IsRefusalFor : List (List ℕ) → (List ℕ → Option (List ℕ)) → Refusal → Type 0
IsRefusalFor words told refusal = MayComeTo words told (refused refusal)

-- The run ends with this status. Its cases are the table of statuses; refusals of words, map and layout are one case.
pub data EndsWith (words : List (List ℕ)) (met : Surroundings) : ℕ → Type 0 where
  -- what is due went out
  reported : {due : Due} → IsDueFor words met due
      → IsCalm met.files.failures → Takes met.out due.text → IsIdle met.err → AreToldAll due met.gauges → EndsWith words met 0
  -- the input is refused, and the line of its first refusal went out
  refused_input : {refusal : Refusal} → IsRefusalFor words met.files.holds.before refusal
      → IsCalm met.files.failures → IsIdle met.out → Takes met.err (refusal_text refusal)
      → AreUntold met.gauges → EndsWith words met refusal.status
  -- the files failed, as far as their count tells, of which one that may be started may fail
  files_failed : AreUnsure words met.files.holds.before met.files.sure
      → HasRisen met.files.failures → IsIdle met.out → IsIdle met.err → AreUntold met.gauges → EndsWith words met 5
  -- the output of what is due failed, as far as its count tells
  report_cut_short : {due : Due} → IsDueFor words met due
      → IsCalm met.files.failures → FailsWithin met.out due.text → IsIdle met.err → AreToldAll due met.gauges → EndsWith words met 5
  -- the output of the refusal failed, as far as its count tells
  refusal_cut_short : {refusal : Refusal} → IsRefusalFor words met.files.holds.before refusal
      → IsCalm met.files.failures → IsIdle met.out → FailsWithin met.err (refusal_text refusal)
      → AreUntold met.gauges → EndsWith words met 5
  -- out of memory, and the gauges were told nothing
  out_of_memory : IsCalm met.files.failures → IsIdle met.out → IsIdle met.err → AreUntold met.gauges → EndsWith words met 6
  -- out of memory once there were rows, as where a gauge refuses one of them, or to print
  out_of_memory_with_rows : {due : Due} → IsDueFor words met due
      → IsCalm met.files.failures → IsIdle met.out → IsIdle met.err → AreToldSome due met.gauges → EndsWith words met 6

-- Nothing can fail: the files are sure of each name that may be started, the output of what is due of as many bytes as it has to be
-- for all that may be due, and that of the refusal of as many as the line of each refusal has to which the words may come.
pub record CannotFail (words : List (List ℕ)) (met : Surroundings) : Type 0 where
  pub files : (names : List (List ℕ)) → MayBeStarted words met.files.holds.before names
      → (name : List ℕ) → Contains names name → met.files.sure name
  pub out : (due : Due) → IsDueFor words met due → due.room ≤ met.out.sure
  pub err : (refusal : Refusal) → IsRefusalFor words met.files.holds.before refusal → length (refusal_text refusal) ≤ met.err.sure

-- what the words must come to comes out, or the run is out of memory, unless the files or the output failed on the way, or
-- their count stands at its last value; and where nothing can fail the run does not end as if something had
pub record IsComplete (words : List (List ℕ)) (met : Surroundings) (status : ℕ) : Type 0 where
  pub report : (inquiry : Inquiry) → MustComeTo words met.files.holds.before (value inquiry)
      → (HasRisen met.files.failures → ⊥) → (HasRisen met.out.failures → ⊥) → (status ≡ 0) ⊎ (status ≡ 6)
  pub refusal : (refusal : Refusal) → MustComeTo words met.files.holds.before (refused refusal)
      → (HasRisen met.files.failures → ⊥) → (HasRisen met.err.failures → ⊥) → (status ≡ refusal.status) ⊎ (status ≡ 6)
  pub no_failure : CannotFail words met → status ≢ 5

-- such names were started, and no others
pub record StartsNamed (words : List (List ℕ)) (told : List ℕ → Option (List ℕ)) (starts : Change (Option (List (List ℕ)))) : Type 0 where
  pub names : List (List ℕ)
  pub may_be : MayBeStarted words told names
  pub started : Appends starts.before starts.after names

-- the run of these words met and left behind this, with this status
pub record RunsTo (words : List (List ℕ)) (met : Surroundings) (status : ℕ) : Type 0 where
  -- the status, what each output took, what each gauge was told, and which counts of failures moved
  pub ends : EndsWith words met status
  -- what is due comes out, unless something failed, as far as counts tell, or the run is out of memory: this follows from the
  -- status
  pub complete : IsComplete words met status
  -- what the gauges print for rows: this follows from the status, too
  pub texts : KeepTheirTexts met.gauges
  -- what becomes of the files
  pub started : StartsNamed words met.files.holds.before met.files.starts
  pub holds : (name : List ℕ) → met.files.holds.after name ≡ met.files.holds.before name

-- The run of these words that has such gauges of rows and of pairs to begin with met and left behind this, with this status. What
-- became of the gauges is known to whoever made them and let them go.
pub record RunsWith (words : List (List ℕ)) (gauges : List (GaugeView Row)) (pair_gauges : List (GaugeView PairRow)) (files : Files)
    (out err : Output) (status : ℕ) : Type 0 where
  pub gauges_after : List (GaugeView Row)
  pub pair_gauges_after : List (GaugeView PairRow)
  pub runs : RunsTo words (record {
    files = files;
    out = out;
    err = err;
    gauges = record { of_rows = change gauges gauges_after; of_pairs = change pair_gauges pair_gauges_after };
  }) status
