-- Numbers in the text format that Prometheus reads, version 0.0.4.
use Rattle.std.specs.Prelude.{ℕ, ◌==◌, List, [], ◌∷◌, ◌++◌, codes, if◌then◌else◌}
use Rattle.std.specs.Fmt.{decimal}
use Rattle.std.specs.List.{flat_map}
use Rattle.ups_log.specs.declared.metrics.Label.{Label}
use Rattle.ups_log.specs.declared.metrics.Labels.{Labels}
use Rattle.ups_log.specs.declared.metrics.Labels.TheVariants.{Nothing, One, Two}
use Rattle.ups_log.specs.declared.metrics.Metric.{Metric}
use Rattle.ups_log.specs.declared.metrics.MetricKind.{MetricKind}
use Rattle.ups_log.specs.declared.metrics.MetricKind.TheVariants.{Counter, Gauge}

-- the word for a kind of metric
abbrev pub kind_word : MetricKind → List ℕ
kind_word Counter = codes "counter"
kind_word Gauge = codes "gauge"

-- a line about a metric: a number sign, what the line tells, the name and the text
abbrev pub about : List ℕ → List ℕ → List ℕ → List ℕ
about word name text = (((codes "# " ++ word) ++ (32 ∷ name)) ++ (32 ∷ text)) ++ (10 ∷ [])

-- what comes before the numbers of a metric
abbrev pub heading : Metric → List ℕ
heading metric = about (codes "HELP") metric.name.now metric.help.now ++ about (codes "TYPE") metric.name.now (kind_word metric.kind)

-- a byte of the value of a label: a line feed is a backslash and an n; a backslash is before a backslash and before a quotation mark
abbrev pub escaped_byte : ℕ → List ℕ
escaped_byte byte = if byte == 10 then codes "\\n" else if byte == 92 then codes "\\\\" else if byte == 34 then codes "\\\"" else byte ∷ []

abbrev pub escaped : List ℕ → List ℕ
escaped value = flat_map escaped_byte value

-- a label: its name, and its value in quotation marks
abbrev pub label_text : Label → List ℕ
label_text label = ((label.name.now ++ codes "=\"") ++ escaped label.value.now) ++ (34 ∷ [])

-- labels in braces, with a comma between them
abbrev pub labels_text : Labels → List ℕ
labels_text Nothing = []
labels_text (One label) = (123 ∷ label_text label) ++ (125 ∷ [])
labels_text (Two first second) = ((123 ∷ label_text first) ++ (44 ∷ label_text second)) ++ (125 ∷ [])

-- a number of a metric, with its labels
abbrev pub sample : Metric → Labels → ℕ → List ℕ
sample metric labels value = (metric.name.now ++ labels_text labels) ++ ((32 ∷ decimal value) ++ (10 ∷ []))

-- a metric that has one number, without labels
abbrev pub metric_text : Metric → ℕ → List ℕ
metric_text metric value = heading metric ++ sample metric Nothing value
