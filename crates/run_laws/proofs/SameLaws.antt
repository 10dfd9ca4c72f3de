-- words that ask for the same come to the same, and one thing is due of what they come to
use Rattle.std.proofs.Common.{ℕ, ◌≡◌, ◌+◌, ◌*◌, List, length, refl, sym, ap, subst, ◌∙◌, Option, Vec}
use Rattle.lists.proofs.Words.{Global}
use Rattle.first_refusal.specs.Outcomes.{Outcome, value, refused}
use Rattle.first_refusal.specs.Laws.{IsUnique}
use Rattle.command_line.specs.Requests.{Ask}
use Rattle.command_line.specs.declared.request.Request.{Request}
use Rattle.geo_core.specs.declared.plane.Cell.{Cell}
use Rattle.map_model.specs.MapNames.{LayerMap}
use Rattle.gauges.specs.GaugeViews.{GaugeView}
use Rattle.gauges.specs.declared.pair_row.PairRow.{PairRow}
use Rattle.pair_report.specs.PairReport.{whole_pair_text}
use Rattle.layout_pairs.proofs.laws.PairRowLaws.{rows_agree as pair_rows_agree}
use Rattle.layout_probe.specs.ProbeText.{probe_text}
use Rattle.layout_probe.proofs.laws.UniqueLaws.{probes_agree}
use Rattle.layout_regions.proofs.laws.RegionLaws.{count_alike, cover_alike}
use Rattle.area_parts.proofs.laws.UniqueLaws.{rows_agree}
use Rattle.questions.specs.declared.kind.Kind.{Kind}
use Rattle.questions.specs.declared.row.Row.{Row}
use Rattle.critarea_core.specs.Analysis.{AnalysisComesTo, has_rows, has_fault}
use Rattle.critarea_core.specs.Contents.{Contents}
use Rattle.critarea_core.specs.Coverage.{IsCoveredOn}
use Rattle.critarea_core.specs.Outputs.{ArePairRowsOn, AreRowsOn, IsProbeOn, whole_report}
use Rattle.critarea_core.specs.Outputs.{ArePairsDue, Due, IsDue, IsDueAs, IsProbeDue, IsRegionDue, IsReportDue}
use Rattle.critarea_core.specs.Inquiries.{Inquiry}
use Rattle.run_inputs.specs.declared.query.ListedSize.{ListedSize}
use Rattle.run_inputs.specs.declared.query.Query.{Query}
use Rattle.run_inputs.specs.declared.query.Query.TheVariants.{Report as for_report, Pairs as for_pairs, Probe as for_probe, Region as for_region}
use Rattle.critarea_core.specs.Layout.{Subject}
use Rattle.critarea_core.specs.Verdict.{IsVerdict}
use Rattle.run_inputs.specs.declared.layout_fault.LayoutFault.{LayoutFault}
use Rattle.run_inputs.specs.declared.refusal.Refusal.{Refusal}
use Rattle.run_inputs.proofs.laws.VerdictLaws.{short_layouts_agree, verdicts_agree}
use Rattle.run_laws.specs.AlikeDues.{AreAlikeDue, AreAlikeTexts, IsForRegions}
use Rattle.run_laws.specs.NamedFiles.{HoldTheSame}
use Rattle.run_laws.specs.TaskRows.{GivesRegion}
use Rattle.run_laws.proofs.AskedLaws.{asked_of, not_for_region}
use Rattle.run_laws.proofs.NameLaws.{same_files_same_verdict, task_outcome}

-- ---- rows and reports

-- a subject has one list of rows
pub rows_on_agree : (subject : Subject) → IsUnique (AreRowsOn subject)
rows_on_agree subject = rows_agree subject.layer_map (IsCoveredOn subject.layer_map subject.routes)

-- and one list of rows of pairs for a size
pair_rows_on_agree : (subject : Subject) (size : ℕ) → IsUnique (ArePairRowsOn subject size)
pair_rows_on_agree subject size = pair_rows_agree subject.layer_map (IsCoveredOn subject.layer_map subject.routes) size

-- and one probe of a cell
probes_on_agree : (subject : Subject) (cell : Cell) → IsUnique (IsProbeOn subject cell)
probes_on_agree subject cell = probes_agree subject.layer_map (IsCoveredOn subject.layer_map subject.routes) cell

-- and one report with these gauges
pub reports_agree : (subject : Subject) (rows others : List Row) (gauges : List (GaugeView Row)) → AreRowsOn subject rows
    → AreRowsOn subject others → whole_report rows gauges ≡ whole_report others gauges
reports_agree subject rows others gauges are these = ap (λ rows. whole_report rows gauges) (rows_on_agree subject rows others are these)

-- ---- what is due

-- what is due is its text, its rows, those of pairs and the room
same_due : (one other : Due) → one.text ≡ other.text → one.rows ≡ other.rows → one.pair_rows ≡ other.pair_rows → one.room ≡ other.room → one ≡ other
same_due one other text rows pairs room =
    ap (λ text. record { text = text; rows = one.rows; pair_rows = one.pair_rows; room = one.room }) text
    ∙ ap (λ rows. record { text = other.text; rows = rows; pair_rows = one.pair_rows; room = one.room }) rows
    ∙ ap (λ pairs. record { text = other.text; rows = other.rows; pair_rows = pairs; room = one.room }) pairs
    ∙ ap (λ room. record { text = other.text; rows = other.rows; pair_rows = other.pair_rows; room = room }) room

-- two texts that are one have the same length
same_room : (one other : Due) → one.room ≡ length one.text → other.room ≡ length other.text → one.text ≡ other.text → one.room ≡ other.room
same_room one other room also text = room ∙ ap (λ (bytes : List ℕ). length bytes) text ∙ sym also

report_dues_agree : (subject : Subject) (gauges : List (GaugeView Row)) → IsUnique (IsReportDue subject gauges)
report_dues_agree subject gauges one other a b =
    let rows = rows_on_agree subject one.rows other.rows a.are_rows b.are_rows in
    let text : one.text ≡ other.text = a.text ∙ ap (λ rows. whole_report rows gauges) rows ∙ sym b.text in
    same_due one other text rows (a.no_pairs ∙ sym b.no_pairs) (same_room one other a.room b.room text)

pair_dues_agree : (subject : Subject) (size : ℕ) (gauges : List (GaugeView PairRow)) → IsUnique (ArePairsDue subject size gauges)
pair_dues_agree subject size gauges one other a b =
    let pairs = pair_rows_on_agree subject size one.pair_rows other.pair_rows a.are_pairs b.are_pairs in
    let text : one.text ≡ other.text = a.text ∙ ap (λ rows. whole_pair_text rows gauges) pairs ∙ sym b.text in
    same_due one other text (a.no_rows ∙ sym b.no_rows) pairs (same_room one other a.room b.room text)

probe_dues_agree : (subject : Subject) (cell : Cell) → IsUnique (IsProbeDue subject cell)
probe_dues_agree subject cell one other a b =
    let told = probes_on_agree subject cell a.told b.told a.is_probe b.is_probe in
    let text : one.text ≡ other.text = a.text ∙ ap probe_text told ∙ sym b.text in
    same_due one other text (a.no_rows ∙ sym b.no_rows) (a.no_pairs ∙ sym b.no_pairs) (same_room one other a.room b.room text)

dues_agree_as : (query : Query) (subject : Subject) (gauges : List (GaugeView Row)) (pair_gauges : List (GaugeView PairRow))
    → (IsForRegions query → ⊥) → IsUnique (IsDueAs query subject gauges pair_gauges)
dues_agree_as for_report subject gauges pair_gauges other = report_dues_agree subject gauges
dues_agree_as (for_pairs size) subject gauges pair_gauges other = pair_dues_agree subject size.size pair_gauges
dues_agree_as (for_probe cell) subject gauges pair_gauges other = probe_dues_agree subject cell
dues_agree_as (for_region kind number size) subject gauges pair_gauges other = absurd (other tt)

pub dues_agree : (inquiry : Inquiry) (gauges : List (GaugeView Row)) (pair_gauges : List (GaugeView PairRow)) → (IsForRegions inquiry.query → ⊥)
    → IsUnique (IsDue inquiry gauges pair_gauges)
dues_agree inquiry = dues_agree_as inquiry.query inquiry.subject

-- ---- what is due of regions is alike

region_dues_alike : (subject : Subject) (kind : Kind) (number : ℕ) (size : ListedSize) (one other : Due)
    → IsRegionDue subject kind number size.size one → IsRegionDue subject kind number size.size other
    → AreAlikeDue (record { subject = subject; query = for_region kind number size }) one other
region_dues_alike subject kind number size one other a b =
    let covers = IsCoveredOn subject.layer_map subject.routes in
    let same = λ (c : Cell). cover_alike subject.layer_map covers kind number size.size a.rects b.rects c a.is_region b.is_region in
    let cells = count_alike subject.layer_map covers kind number size.size a.rects b.rects a.is_region b.is_region in
    record {
      texts = record { rects = a.rects; others = b.rects; is_file = a.is_file; is_other = b.is_file; same = same };
      rows = a.no_rows ∙ sym b.no_rows;
      pair_rows = a.no_pairs ∙ sym b.no_pairs;
      room = a.room ∙ ap (λ n. 106 + 64 * n) cells ∙ sym b.room;
    }

-- what is the same is alike
texts_alike : (query : Query) (units text other : List ℕ) → (IsForRegions query → ⊥) → text ≡ other → AreAlikeTexts query units text other
texts_alike for_report units text other none same = same
texts_alike (for_pairs size) units text other none same = same
texts_alike (for_probe cell) units text other none same = same
texts_alike (for_region kind number size) units text other none same = absurd (none tt)

module _ (subject : Subject) (gauges : List (GaugeView Row)) (pair_gauges : List (GaugeView PairRow)) (one other : Due) where
  abbrev AreDue : Query → Type 0
  AreDue query = IsDueAs query subject gauges pair_gauges one × IsDueAs query subject gauges pair_gauges other

  abbrev AreAlike : Query → Type 0
  AreAlike query = AreAlikeDue (record { subject = subject; query = query }) one other

  same_alike : (query : Query) → (IsForRegions query → ⊥) → AreDue query → AreAlike query
  same_alike query none are =
      let same = dues_agree_as query subject gauges pair_gauges none one other are.0 are.1 in
      record {
        texts = texts_alike query subject.units one.text other.text none (ap (λ (due : Due). due.text) same);
        rows = ap (λ (due : Due). due.rows) same;
        pair_rows = ap (λ (due : Due). due.pair_rows) same;
        room = ap (λ (due : Due). due.room) same;
      }

  dues_alike_as : (query : Query) → AreDue query → AreAlike query
  dues_alike_as for_report are = same_alike for_report (λ never. never) are
  dues_alike_as (for_pairs size) are = same_alike (for_pairs size) (λ never. never) are
  dues_alike_as (for_probe cell) are = same_alike (for_probe cell) (λ never. never) are
  dues_alike_as (for_region kind number size) are = region_dues_alike subject kind number size one other are.0 are.1

pub dues_alike : (inquiry : Inquiry) (gauges : List (GaugeView Row)) (pair_gauges : List (GaugeView PairRow)) (one other : Due)
    → IsDue inquiry gauges pair_gauges one → IsDue inquiry gauges pair_gauges other → AreAlikeDue inquiry one other
dues_alike inquiry gauges pair_gauges one other a b = dues_alike_as inquiry.subject gauges pair_gauges one other inquiry.query (a, b)

-- ---- what tiles and workers change: nothing

pub same_task_same_verdict : (words other : List (List ℕ)) (one same : Request) → Ask words one → Ask other same → one.task ≡ same.task
    → (contents : Contents) (outcome : Outcome Inquiry Refusal) → IsVerdict words contents outcome → IsVerdict other contents outcome
same_task_same_verdict words other one same asks also alike contents outcome verdict =
    let comes = (task_outcome words one one.task asks refl contents outcome).0 verdict in
    (task_outcome other same one.task also (sym alike) contents outcome).1 comes

module _ (words other : List (List ℕ)) (one same : Request) (asks : Ask words one) (asks_too : Ask other same)
    (alike : one.task ≡ same.task) (contents found : Contents) (files : HoldTheSame one.task contents found)
    (inquiry also : Inquiry) (due too : Due) (gauges : List (GaugeView Row)) (pair_gauges : List (GaugeView PairRow))
    (verdict : IsVerdict words contents (value inquiry)) (is : IsDue inquiry gauges pair_gauges due)
    (verdict_too : IsVerdict other found (value also)) (is_too : IsDue also gauges pair_gauges too) where
  same_inquiry : inquiry ≡ also
  same_inquiry =
      let named = same_files_same_verdict words one asks contents found files (value inquiry) verdict in
      let moved = same_task_same_verdict words other one same asks asks_too alike found (value inquiry) named in
      cc (verdicts_agree other found (value inquiry) (value also) moved verdict_too)

  due_here : IsDue inquiry gauges pair_gauges too
  due_here = subst (λ (i : Inquiry). IsDue i gauges pair_gauges too) (sym same_inquiry) is_too

  pub same_task_same_due : (GivesRegion one.task → ⊥) → due ≡ too
  same_task_same_due none =
      let asked = asked_of words contents one inquiry asks verdict in
      dues_agree inquiry gauges pair_gauges (not_for_region one.task asked.0 inquiry.query none asked.1) due too is due_here

  pub same_task_alike_due : AreAlikeDue inquiry due too
  same_task_alike_due = dues_alike inquiry gauges pair_gauges due too is due_here

-- ---- what is found in the bytes of a layout

module _ (layer_map : LayerMap) (wanted : Option (List ℕ)) (bytes : List ℕ) where
  abbrev pub Comes : Outcome (Vec Row Global) LayoutFault → Type 0
  Comes = AnalysisComesTo layer_map wanted bytes

  pub analysed_rows_agree : (rows others : Vec Row Global) → Comes (value rows) → Comes (value others) → rows.items ≡ others.items
  analysed_rows_agree rows others (has_rows {subject = s} comes are) (has_rows {subject = t} also these) =
      let subjects : s ≡ t = cc (short_layouts_agree layer_map wanted bytes (value s) (value t) comes also) in
      rows_on_agree t rows.items others.items (subst (λ u. AreRowsOn u rows.items) subjects are) these

  pub analysed_faults_agree : (fault other : LayoutFault) → Comes (refused fault) → Comes (refused other) → fault ≡ other
  analysed_faults_agree fault other (has_fault comes) (has_fault also) = cc (short_layouts_agree layer_map wanted bytes (refused fault) (refused other) comes also)

  pub rows_or_fault : (rows : Vec Row Global) (fault : LayoutFault) → Comes (value rows) → Comes (refused fault) → ⊥
  rows_or_fault rows fault (has_rows {subject = s} comes are) (has_fault also) = cc (short_layouts_agree layer_map wanted bytes (value s) (refused fault) comes also)
