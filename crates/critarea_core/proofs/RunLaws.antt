-- what a run found of the words and the files, and what it printed
use Rattle.std.proofs.Common.{ℕ, ◌≡◌, ◌≢◌, ◌≤◌, ◌↔◌, ◌⊎◌, arith, List, [], ◌++◌, refl, sym, ap, subst, ◌∙◌, inl, inr, append_assoc, Option, Some, None, IsErrAnd, Result, Ok, Err, Vec, map, length}
use Rattle.lists.proofs.Words.{append-nil, Global, Contains-append_right}
use Rattle.first_refusal.specs.Answers.{gives, refuses}
use Rattle.first_refusal.specs.Outcomes.{Outcome, Retold, value, refused, reads, lacks, kept, retold, goes_on, stops}
use Rattle.edge_io.specs.Bytes.{Appends}
use Rattle.command_line.specs.Requests.{Ask}
use Rattle.command_line.specs.declared.request.Request.{Request}
use Rattle.map_model.specs.MapNames.{layer_map_of}
use Rattle.map_model.specs.declared.map.Map.{Map}
use Rattle.questions.specs.declared.row.Row.{Row}
use Rattle.gauges.specs.declared.pair_row.PairRow.{PairRow}
use Rattle.gauges.specs.GaugeViews.{GaugeView}
use Rattle.gauges.proofs.laws.Told.{some_told_keep_texts, told_keep_texts}
use Rattle.run_inputs.specs.Contents.{MayContain, MayHave, names_in, map_names, file_names, bytes_from, layout_source, wanted_top}
use Rattle.run_inputs.specs.Inquiries.{Inquiry, QueryComesTo}
use Rattle.run_inputs.specs.StageAnswers.{Analyses, AreItems, Finds, FindsInFiles, files_serve, files_fail, gives_thing, gives_refusal, IsMapOf}
use Rattle.run_inputs.specs.StageAnswers.{IsToldAs, LayoutMayCome, MapMayCome}
use Rattle.run_inputs.specs.Layout.{ShortLayoutComesTo, Subject}
use Rattle.run_inputs.specs.Refusals.{of_layout_fault, usage}
use Rattle.run_inputs.specs.Verdict.{InquiryComesTo}
use Rattle.run_inputs.specs.Failures.{Change, change, HasRisen, IsCalm, IsUnsureOf}
use Rattle.run_inputs.specs.declared.layout_fault.LayoutFault.{LayoutFault}
use Rattle.run_inputs.specs.declared.layout_fault.LayoutFault.TheVariants as layout_fault
use Rattle.run_inputs.specs.declared.query.Query.{Query}
use Rattle.run_inputs.specs.declared.query.Query.TheVariants.{Report as for_report, Pairs as for_pairs, Probe as for_probe, Region as for_region}
use Rattle.run_inputs.specs.declared.refusal.Refusal.{Refusal}
use Rattle.run_inputs.specs.declared.unreported.Unreported.{Unreported}
use Rattle.run_inputs.specs.declared.unreported.Unreported.TheVariants.{Refused, FilesFailed, Memory}
use Rattle.run_inputs.proofs.laws.ReadingLaws.{fault_found, found_as, found_bytes, found_for, not_found, not_read, some_contents, some_may_be}
use Rattle.run_inputs.proofs.laws.StatusLaws.{refused_status}
use Rattle.run_inputs.proofs.laws.VerdictLaws.{verdicts_agree}
use Rattle.critarea_core.specs.Outputs.{Due, IsDueAs, IsRegionFile}
use Rattle.critarea_core.specs.inside.Finding.{HasFound, IsFound, IsFoundFor}
use Rattle.critarea_core.specs.inside.Finding.{IsPrinted, due_out, due_cut, due_to, nothing_out, line_out, line_cut, no_line}
use Rattle.critarea_core.specs.Run.{AreToldAll, AreToldSome, AreUnsure, AreUntold, CannotFail, Gauges, IsDueFor, KeepTheirTexts, Surroundings, MapMayServe, MayComeTo, MustComeTo}
use Rattle.critarea_core.specs.Run.{IsComplete, EndsWith, RunsTo, StartsNamed, no_file, map_file, both_files}
use Rattle.critarea_core.specs.Run as run
use Rattle.critarea_core.specs.declared.found.Found.{Found}
use Rattle.critarea_core.specs.declared.found.Found.TheVariants.{Report as Rows, Pairs as Tables, Probe as Probed, Region as Cells}
use Rattle.critarea_core.proofs.RegionLaws.{region_has_room}

-- the one list behind the other
appends_both : {A : Type 0} (before middle after : Option (List A)) (xs ys : List A) → Appends before middle xs → Appends middle after ys → Appends before after (xs ++ ys)
appends_both None middle after xs ys p q = subst (λ m. Appends m after ys) p q
appends_both (Some all) middle after xs ys p q = subst (λ m. Appends m after ys) p q ∙ ap (λ (zs : List _). Some zs) (append_assoc all xs ys)

module _ (words : List (List ℕ)) (told : List ℕ → Option (List ℕ)) where
  -- ---- what is found

  pub words_refused : ((request : Request) → Ask words request → ⊥) → MayComeTo words told (refused usage)
  words_refused none = record {
    contents = record { map = some_contents told; layout = some_contents told };
    agree = (some_may_be told, some_may_be told);
    verdict = stops (lacks none);
  }

  pub starts_none : (before : Option (List (List ℕ))) → StartsNamed words told (change before before)
  starts_none before = record { names = []; may_be = no_file; started = kept before } where
    kept : (o : Option (List (List ℕ))) → Appends o o []
    kept None = refl
    kept (Some names) = ap (λ (n : List (List ℕ)). Some n) (sym (append-nil names))

  module _ (request : Request) (asked : Ask words request) where
    map_refused : (refusal : Refusal) → MapMayCome told request.task (refused refusal) → MayComeTo words told (refused refusal)
    map_refused refusal m = record {
      contents = record { map = m.bytes; layout = some_contents told };
      agree = (m.may_be, some_may_be told);
      verdict = goes_on (reads asked) (stops m.comes);
    }

    -- a map that was not found
    module _ (sure : List ℕ → Type 0) where
      -- the map's file may be started
      name_map : IsUnsureOf sure (map_names request.task) → AreUnsure words told sure
      name_map unsure = record { names = map_names request.task; may_be = map_file request asked; not_sure = unsure }

      pub no_map : (failures : Change ℕ) (why : Unreported) (result : Result Found Unreported) → IsErrAnd result (λ same. same ≡ why)
          → FindsInFiles failures (IsUnsureOf sure (map_names request.task)) (MapMayCome told request.task) IsMapOf (Err why) → IsFound words told sure failures result
      no_map failures why result gave found =
          not_found failures (IsUnsureOf sure (map_names request.task)) (AreUnsure words told sure) (MapMayCome told request.task) IsMapOf (MayComeTo words told) IsFoundFor name_map
          map_refused why result gave found

    -- the map's file alone
    pub starts_map : {before after : Option (List (List ℕ))} → Appends before after (map_names request.task) → StartsNamed words told (change before after)
    starts_map first = record { names = map_names request.task; may_be = map_file request asked; started = first }

    -- Below, a map was found.
    module _ {before middle : ℕ} {SomeFile : Type 0} (map : Map) (found_map : FindsInFiles (change before middle) SomeFile (MapMayCome told request.task) IsMapOf (Ok map)) where
      good : IsCalm (change before middle) × MapMayCome told request.task (value (layer_map_of map))
      good = found_as layer_map_of (MapMayCome told request.task) (change before middle) SomeFile map found_map

      -- the map has not what the task asks of it
      lacks_what_is_asked : (refusal : Refusal) → QueryComesTo request.task (layer_map_of map) (refused refusal) → MayComeTo words told (refused refusal)
      lacks_what_is_asked refusal unfit = record {
        contents = record { map = good.1.bytes; layout = some_contents told };
        agree = (good.1.may_be, some_may_be told);
        verdict = goes_on (reads asked) (goes_on good.1.comes (stops unfit));
      }

      pub map_unfit : (sure : List ℕ → Type 0) (refusal : Refusal) (result : Result Found Unreported) → IsErrAnd result (λ why. why ≡ Refused refusal)
          → QueryComesTo request.task (layer_map_of map) (refused refusal) → IsFound words told sure (change before middle) result
      map_unfit sure refusal (Ok found) gave unfit = absurd gave
      map_unfit sure refusal (Err why) gave unfit = files_serve good.0 (rw gave (refuses (gives_refusal (lacks_what_is_asked refusal unfit))))

      -- Below, it has what the task asks of it.
      module _ (query : Query) (fits : QueryComesTo request.task (layer_map_of map) (value query)) where
        may_serve : MapMayServe told request
        may_serve = record { bytes = good.1.bytes; may_be = good.1.may_be; layer_map = layer_map_of map; comes = good.1.comes; query = query; fits = fits }

        -- the map's file, where there is one, and the layout's behind it
        pub starts_both : {first second third : Option (List (List ℕ))} → Appends first second (map_names request.task)
            → Appends second third (names_in (layout_source request.task)) → StartsNamed words told (change first third)
        starts_both {first} {second} {third} of_map of_layout = record {
          names = file_names request.task;
          may_be = both_files request asked may_serve;
          started = appends_both first second third (map_names request.task) (names_in (layout_source request.task)) of_map of_layout;
        }

        -- the files tell then what they told before, and are sure of what they were sure of
        module _ (sure sure_later : List ℕ → Type 0) (as_sure : (name : List ℕ) → sure_later name ↔ sure name)
            (later : List ℕ → Option (List ℕ)) (same : (name : List ℕ) → later name ≡ told name) where
          -- the layout's file may be started behind the map's
          name_layout : IsUnsureOf sure_later (names_in (layout_source request.task)) → AreUnsure words told sure
          name_layout (name, among, unsure) = record {
            names = file_names request.task;
            may_be = both_files request asked may_serve;
            not_sure = (name, Contains-append_right (map_names request.task) (names_in (layout_source request.task)) name among, λ is. unsure ((as_sure name).1 is));
          }

          -- what a layout comes to that they may have, the words may come to
          with_layout : (bytes : List ℕ → List ℕ) → MayContain later bytes → (outcome : Outcome Inquiry Refusal)
              → InquiryComesTo query (layer_map_of map) (wanted_top request.task) (bytes_from bytes (layout_source request.task)) outcome → MayComeTo words told outcome
          with_layout bytes may outcome comes = record {
            contents = record { map = good.1.bytes; layout = bytes };
            agree = (good.1.may_be, λ name. subst (λ known. MayHave known (bytes name)) (same name) (may name));
            verdict = goes_on (reads asked) (goes_on good.1.comes (goes_on {v = query} fits comes));
          }

          -- a layout that was not found
          pub no_layout : {after : ℕ} (why : Unreported) (result : Result Found Unreported) → IsErrAnd result (λ same. same ≡ why)
              → FindsInFiles (change middle after) (IsUnsureOf sure_later (names_in (layout_source request.task))) (LayoutMayCome later (layout_source request.task)) AreItems (Err why)
              → IsFound words told sure (change before after) result
          no_layout {after} why result gave found =
              subst (λ first. IsFound words told sure (change first after) result) good.0
              (not_found (change middle after) (IsUnsureOf sure_later (names_in (layout_source request.task))) (AreUnsure words told sure) (LayoutMayCome later (layout_source request.task)) AreItems
              (MayComeTo words told) IsFoundFor name_layout (λ refusal l. with_layout l.bytes l.may_be (refused refusal) (stops (stops l.comes))) why result gave found)

          -- Below, so was the layout.
          module _ {after : ℕ} {OtherFile : Type 0} (read : Vec ℕ Global)
              (found_layout : FindsInFiles (change middle after) OtherFile (LayoutMayCome later (layout_source request.task)) AreItems (Ok read)) where
            abbrev AreOnLayout : Result Found LayoutFault → Type 0
            AreOnLayout = Analyses (ShortLayoutComesTo (layer_map_of map) (wanted_top request.task) read.items) (HasFound query)

            there : IsCalm (change middle after) × LayoutMayCome later (layout_source request.task) (value read.items)
            there = found_bytes (LayoutMayCome later (layout_source request.task)) (change middle after) OtherFile read found_layout

            abbrev Retells : Outcome Subject Refusal → Type 0
            Retells = Retold of_layout_fault (ShortLayoutComesTo (layer_map_of map) (wanted_top request.task) read.items)

            to_refusal : (refusal : Refusal) → Retells (refused refusal) → MayComeTo words told (refused refusal)
            to_refusal refusal comes = with_layout there.1.bytes there.1.may_be (refused refusal) (stops (goes_on {v = read.items} there.1.comes comes))

            to_inquiry : (subject : Subject) → Retells (value subject) → MayComeTo words told (value (record { subject = subject; query = query }))
            to_inquiry subject comes =
                with_layout there.1.bytes there.1.may_be (value (record { subject = subject; query = query })) (goes_on {v = subject} (goes_on {v = read.items} there.1.comes comes) refl)

            -- its fault
            pub fault_on_layout : (why : LayoutFault) (result : Result Found Unreported) → IsErrAnd result (IsToldAs layout_fault.Memory Memory (λ known. Refused (of_layout_fault known)) why)
                → AreOnLayout (Err why) → IsFound words told sure (change before after) result
            fault_on_layout why result gave found =
                files_serve (there.0 ∙ good.0) (not_read Memory (λ refusal. Refused refusal) (MayComeTo words told) IsFoundFor layout_fault.Memory of_layout_fault why result gave
                (λ known. to_refusal (of_layout_fault why) (retold (fault_found _ (HasFound query) why found known))))

            -- what was found on it
            pub found_on_layout : (found : Found) → AreOnLayout (Ok found) → IsFound words told sure (change before after) (Ok found)
            found_on_layout found is =
                let on = found_for _ _ _ _ found is in files_serve (there.0 ∙ good.0) (gives (gives_thing {v = record { subject = on.0; query = query }} (to_inquiry on.0 (kept on.1)) on.2))

-- ---- gauges

-- what is due where this was found is due to the gauges
is_due : (gauges : Gauges) (query : Query) (subject : Subject) (found : Found) → HasFound query subject found
    → IsDueAs query subject gauges.of_rows.before gauges.of_pairs.before (due_to gauges found)
is_due gauges for_report subject (Rows rows) has = record { are_rows = has; no_pairs = refl; text = refl; room = refl }
is_due gauges (for_pairs size) subject (Tables tables) has = record { are_pairs = has; no_rows = refl; text = refl; room = refl }
is_due gauges (for_probe cell) subject (Probed metals) has =
    record { told = metals.items; is_probe = has; no_rows = refl; no_pairs = refl; text = refl; room = refl }
is_due gauges (for_region kind number size) subject (Cells region) has = record {
  rects = region.rects.items;
  is_region = has.is_region;
  is_file = subst (λ units. IsRegionFile units region.rects.items (due_to gauges (Cells region)).text) has.units (record { fit = region.fit; bytes = refl });
  no_rows = refl;
  no_pairs = refl;
  room = refl;
}
is_due gauges query subject found has = absurd has

-- no more bytes are due than there has to be room for
text_has_room : (query : Query) (subject : Subject) (gauges : List (GaugeView Row)) (pair_gauges : List (GaugeView PairRow)) (due : Due)
    → IsDueAs query subject gauges pair_gauges due → length due.text ≤ due.room
text_has_room for_report subject gauges pair_gauges due is = let room = is.room in omega (arith, room)
text_has_room (for_pairs size) subject gauges pair_gauges due is = let room = is.room in omega (arith, room)
text_has_room (for_probe cell) subject gauges pair_gauges due is = let room = is.room in omega (arith, room)
text_has_room (for_region kind number size) subject gauges pair_gauges due is = region_has_room subject.units is.rects due.text due.room is.is_file is.room

untold_texts : (gauges : Gauges) → AreUntold gauges → KeepTheirTexts gauges
untold_texts gauges untold =
    (ap (map (λ (g : GaugeView Row). g.text)) untold.of_rows, ap (map (λ (g : GaugeView PairRow). g.text)) untold.of_pairs)

all_texts : (due : Due) (gauges : Gauges) → AreToldAll due gauges → KeepTheirTexts gauges
all_texts due gauges told = (
  told_keep_texts due.rows gauges.of_rows.before gauges.of_rows.after told.of_rows,
  told_keep_texts due.pair_rows gauges.of_pairs.before gauges.of_pairs.after told.of_pairs,
)

some_texts : (due : Due) (gauges : Gauges) → AreToldSome due gauges → KeepTheirTexts gauges
some_texts due gauges told = (
  some_told_keep_texts due.rows gauges.of_rows.before gauges.of_rows.after told.of_rows,
  some_told_keep_texts due.pair_rows gauges.of_pairs.before gauges.of_pairs.after told.of_pairs,
)

-- ---- what is printed

module _ (words : List (List ℕ)) (met : Surroundings) where
  abbrev told : List ℕ → Option (List ℕ)
  told = met.files.holds.before

  due_for : (inquiry : Inquiry) (found : Found) → MayComeTo words told (value inquiry) → IsFoundFor inquiry found → IsDueFor words met (due_to met.gauges found)
  due_for inquiry found comes has = record { inquiry = inquiry; comes = comes; is_due = is_due met.gauges inquiry.query inquiry.subject found has }

  never_failed : {T V : Type 0} (Stage : Outcome V Refusal → Type 0) (IsFor : V → T → Type 0) → Finds Stage IsFor (Err FilesFailed) → ⊥
  never_failed Stage IsFor (refuses h) = elim h [ ]

  pub ends : (found : Result Found Unreported) (status : ℕ) → IsFound words told met.files.sure met.files.failures found → IsPrinted found met.gauges met.out met.err status → EndsWith words met status
  ends (Ok found) status (files_serve calm (gives (gives_thing {v = inquiry} comes has))) (due_out takes told, idle) = run.reported (due_for inquiry found comes has) calm takes idle told
  ends (Ok found) status (files_serve calm (gives (gives_thing {v = inquiry} comes has))) (due_cut fails told, idle) = run.report_cut_short (due_for inquiry found comes has) calm fails idle told
  ends (Ok found) status (files_serve calm (gives (gives_thing {v = inquiry} comes has))) (nothing_out also some, idle) =
      run.out_of_memory_with_rows (due_for inquiry found comes has) calm also idle some
  ends (Err (Refused refusal)) status (files_serve calm (refuses (gives_refusal comes))) (line_out takes, idle, untold) = run.refused_input comes calm idle takes untold
  ends (Err (Refused refusal)) status (files_serve calm (refuses (gives_refusal comes))) (line_cut fails, idle, untold) = run.refusal_cut_short comes calm idle fails untold
  ends (Err (Refused refusal)) status (files_serve calm answer) (no_line also, idle, untold) = run.out_of_memory calm idle also untold
  ends (Err FilesFailed) status (files_serve calm answer) printed = absurd (never_failed (MayComeTo words told) IsFoundFor answer)
  ends (Err FilesFailed) status (files_fail risen some) (e, idle, also, untold) = subst (EndsWith words met) (sym e) (run.files_failed some risen idle also untold)
  ends (Err Memory) status (files_serve calm answer) (e, idle, also, untold) = subst (EndsWith words met) (sym e) (run.out_of_memory calm idle also untold)

  -- ---- what is due comes out

  one_outcome : (due found : Outcome Inquiry Refusal) → MustComeTo words told due → MayComeTo words told found → due ≡ found
  one_outcome due found must may = verdicts_agree words may.contents due found (must may.contents may.agree) may.verdict

  report_comes : (status : ℕ) → EndsWith words met status → (inquiry : Inquiry) → MustComeTo words told (value inquiry)
      → (HasRisen met.files.failures → ⊥) → (HasRisen met.out.failures → ⊥) → (status ≡ 0) ⊎ (status ≡ 6)
  report_comes status (run.reported is calm takes idle told_all) inquiry due f o = inl refl
  report_comes status (run.refused_input {refusal = r} is calm idle takes untold) inquiry due f o = absurd (cc (one_outcome (value inquiry) (refused r) due is))
  report_comes status (run.files_failed names risen idle also untold) inquiry due f o = absurd (f risen)
  report_comes status (run.report_cut_short is calm fails idle told_all) inquiry due f o = absurd (o fails.risen)
  report_comes status (run.refusal_cut_short {refusal = r} is calm idle fails untold) inquiry due f o = absurd (cc (one_outcome (value inquiry) (refused r) due is))
  report_comes status (run.out_of_memory calm idle also untold) inquiry due f o = inr refl
  report_comes status (run.out_of_memory_with_rows is calm idle also some) inquiry due f o = inr refl

  not_reported : (refusal : Refusal) (what : Due) → MustComeTo words told (refused refusal) → IsDueFor words met what → ⊥
  not_reported refusal what due is = cc (one_outcome (refused refusal) (value is.inquiry) due is.comes)

  refusal_comes : (status : ℕ) → EndsWith words met status → (refusal : Refusal) → MustComeTo words told (refused refusal)
      → (HasRisen met.files.failures → ⊥) → (HasRisen met.err.failures → ⊥) → (status ≡ refusal.status) ⊎ (status ≡ 6)
  refusal_comes status (run.reported {due = what} is calm takes idle told_all) refusal due f e = absurd (not_reported refusal what due is)
  refusal_comes status (run.refused_input {refusal = r} is calm idle takes untold) refusal due f e =
      let same : r ≡ refusal = let outcomes = one_outcome (refused refusal) (refused r) due is in cc outcomes in inl (ap (λ (x : Refusal). x.status) same)
  refusal_comes status (run.files_failed names risen idle also untold) refusal due f e = absurd (f risen)
  refusal_comes status (run.report_cut_short {due = what} is calm fails idle told_all) refusal due f e = absurd (not_reported refusal what due is)
  refusal_comes status (run.refusal_cut_short is calm idle fails untold) refusal due f e = absurd (e fails.risen)
  refusal_comes status (run.out_of_memory calm idle also untold) refusal due f e = inr refl
  refusal_comes status (run.out_of_memory_with_rows is calm idle also some) refusal due f e = inr refl

  -- the status of a refusal is not that of a failure
  other_status : (refusal : Refusal) → MayComeTo words told (refused refusal) → refusal.status ≢ 5
  other_status refusal may = refused_status words may.contents refusal may.verdict

  never_fails : (status : ℕ) → EndsWith words met status → CannotFail words met → status ≢ 5
  never_fails status (run.reported is calm takes idle told_all) cannot e = cc e
  never_fails status (run.refused_input {refusal = r} is calm idle takes untold) cannot e = other_status r is e
  never_fails status (run.files_failed unsure risen idle also untold) cannot e =
      let (name, among, not_sure) = unsure.not_sure in not_sure (cannot.files unsure.names unsure.may_be name among)
  never_fails status (run.report_cut_short {due = what} is calm fails idle told_all) cannot e =
      absurd (omega (arith, cannot.out what is, fails.not_sure, text_has_room is.inquiry.query is.inquiry.subject met.gauges.of_rows.before met.gauges.of_pairs.before what is.is_due))
  never_fails status (run.refusal_cut_short {refusal = r} is calm idle fails untold) cannot e = absurd (omega (arith, cannot.err r is, fails.not_sure))
  never_fails status (run.out_of_memory calm idle also untold) cannot e = cc e
  never_fails status (run.out_of_memory_with_rows is calm idle also some) cannot e = cc e

  complete : (status : ℕ) → EndsWith words met status → IsComplete words met status
  complete status e = record { report = report_comes status e; refusal = refusal_comes status e; no_failure = never_fails status e }

  -- ---- what gauges print

  texts : (status : ℕ) → EndsWith words met status → KeepTheirTexts met.gauges
  texts status (run.reported {due = what} is calm takes idle told_all) = all_texts what met.gauges told_all
  texts status (run.refused_input is calm idle takes untold) = untold_texts met.gauges untold
  texts status (run.files_failed names risen idle also untold) = untold_texts met.gauges untold
  texts status (run.report_cut_short {due = what} is calm fails idle told_all) = all_texts what met.gauges told_all
  texts status (run.refusal_cut_short is calm idle fails untold) = untold_texts met.gauges untold
  texts status (run.out_of_memory calm idle also untold) = untold_texts met.gauges untold
  texts status (run.out_of_memory_with_rows {due = what} is calm idle also some) = some_texts what met.gauges some

  -- ---- all that is promised of a run

  pub runs_to : (status : ℕ) → EndsWith words met status → StartsNamed words told met.files.starts → ((name : List ℕ) → met.files.holds.after name ≡ met.files.holds.before name)
      → RunsTo words met status
  runs_to status e started holds = record { ends = e; complete = complete status e; texts = texts status e; started = started; holds = holds }
