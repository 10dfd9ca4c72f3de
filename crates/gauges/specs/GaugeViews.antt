-- what gauges have seen, and what they print, for rows of any kind
use Rattle.std.specs.Prelude.{ℕ, ◌≡◌, List, [], ◌++◌, map, flat_map, take}
use Rattle.lists.specs.Words.{AllZip}

-- what is known of a gauge of rows of a kind: the rows that it has seen, and what it prints for a list of rows
pub record GaugeView (Row : Type 0) : Type 0 where
  pub seen : List Row
  pub text : List Row → List ℕ

-- a gauge that has seen nothing, and prints this for a list of rows
abbrev pub fresh : {Row : Type 0} → (List Row → List ℕ) → GaugeView Row
fresh text = record { seen = []; text = text }

-- what the gauge prints: its text for all rows that it has seen
abbrev pub text_of : {Row : Type 0} → GaugeView Row → List ℕ
text_of gauge = gauge.text gauge.seen

-- what the gauges print, one after the other
abbrev pub texts_of : {Row : Type 0} → List (GaugeView Row) → List ℕ
texts_of gauges = flat_map text_of gauges

-- what they print once each is told these rows: its text for the rows that it had seen before, followed by these
abbrev pub texts_after : {Row : Type 0} → List Row → List (GaugeView Row) → List ℕ
texts_after rows gauges = flat_map (λ gauge. gauge.text (gauge.seen ++ rows)) gauges

-- the gauge has seen these rows after what it had seen, and prints for each list what it printed
pub record IsTold {Row : Type 0} (rows : List Row) (old new : GaugeView Row) : Type 0 where
  pub seen : new.seen ≡ old.seen ++ rows
  pub text : new.text ≡ old.text

-- it has seen the first few of these rows, perhaps none or all
abbrev pub IsToldPrefix : {Row : Type 0} → List Row → GaugeView Row → GaugeView Row → Type 0
IsToldPrefix rows old new = (count : ℕ) × IsTold (take count rows) old new

-- the gauges are as many as before, and each has seen these rows after what it had seen
abbrev pub AreTold : {Row : Type 0} → List Row → List (GaugeView Row) → List (GaugeView Row) → Type 0
AreTold rows old new = AllZip (IsTold rows) old new

-- the gauges are as many as before, and each has seen the first few of these rows, perhaps none or all
abbrev pub AreToldPrefixes : {Row : Type 0} → List Row → List (GaugeView Row) → List (GaugeView Row) → Type 0
AreToldPrefixes rows old new = AllZip (IsToldPrefix rows) old new

-- what is known of a gauge, read by the two meanings of its trait
abbrev pub view_of : {Gauge Row : Type 0} → (Gauge → List Row) → (Gauge → List Row → List ℕ) → Gauge → GaugeView Row
view_of seen text gauge = record { seen = seen gauge; text = text gauge }

-- the same of each gauge of a list
abbrev pub views_of : {Gauge Row : Type 0} → (Gauge → List Row) → (Gauge → List Row → List ℕ) → List Gauge → List (GaugeView Row)
views_of seen text gauges = map (view_of seen text) gauges
