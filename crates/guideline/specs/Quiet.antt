-- P4, quiet on a missing frequency: document 001, 3.4.2, in its order and under its section numbers. Where step 9 finds no row with the frequency,
-- `suppresses` says whether the signal is suppressed. It asks for a weight or a surface that matters to the rows per day.
use Rattle.std.specs.Prelude.{◌*◌, Bool, false, ◌&&◌, eqb, ltb}
use Rattle.guideline.specs.Types.{Prescription, T643, T649, Question, Ratio, Context, Bounds}
use Rattle.guideline.specs.Values.{empty_range, Q_general, per_day, no_limit, switched, fits, matters}
use Rattle.guideline.specs.Ask.{Done, Step, ◌>>=◌}
use Rattle.guideline.specs.Table.{Table, Hits, some, all_rows, among}
use Rattle.guideline.specs.Rows.{Row, keyed, weight_bounds, surface_bounds}
use Rattle.guideline.specs.Forms.{when, ask, choose}

-- 3.4.2: "De voorwaarden hiervoor zijn: 1. De stof is niet een stof met een smalle therapeutische breedte (bst640.GPRISC = leeg)"
unfoldable pub risk_empty : Context → Bool
risk_empty c = eqb c.product.gprisc empty_range

-- "2. De indicatie is 'Q-Algemeen' (bst642.ICPCNR1 = 17752)"; P4: "the setting chosen is Q general"
unfoldable pub for_Q_general : Context → Bool
for_Q_general c = eqb c.setting.icpcnr1 Q_general

-- "3. De ingevoerde frequentie-eenheid is 'per dag' (bst360.TTEHNR = 19)"
unfoldable pub entered_per_day : Prescription → Bool
entered_per_day e = eqb e.time per_day

-- "With a new setting on (not given means off)", and the three conditions
unfoldable pub may_suppress : Prescription → Context → Bool
may_suppress e c = switched e.quiet && (risk_empty c && (for_Q_general c && entered_per_day e))

-- 3.4.2.1 "Tijdseenheid per dag beschikbaar?": rows "waarbij de frequentie-tijdseenheid 'per dag' (bst643.GPDFEE = 19) is en die passen bij de leeftijd,
-- gewicht en lichaamsoppervlakte van de patiënt". They are among those that passed the age.
unfoldable pub of_day : Row T643 → Bool
of_day r = eqb r.gpdfee per_day

-- P4: "a blank weight or surface that matters to the per-day rows, judged as in step 10, gives 105 or 106 in step 9". No row left is no refusal here:
-- "If no per-day row fits .. the original signal stands."
unfoldable pub fitting : Question → (Row T643 → Bounds) → Table (Row T643) → Step (Table (Row T643))
fitting question bounds t =
    when (some (t (λ r. matters (bounds r)))) (do
      measure ← ask question
      Done (among (λ r. fits (bounds r) measure) t))
    (Done t)

unfoldable pub fitting_weight : Table (Row T643) → Step (Table (Row T643))
fitting_weight t = fitting Question.WeightPerDay weight_bounds t

unfoldable pub fitting_surface : Table (Row T643) → Step (Table (Row T643))
fitting_surface t = fitting Question.SurfacePerDay surface_bounds t

-- "onthoud de waarde(s) van bst643.GPDDNR": the rows of 649 of a row's rule
unfoldable pub limits_for : Table (Row T649) → Row T643 → Hits (Row T649)
limits_for limits r = limits (keyed T649 r.gpddnr)

-- 3.4.2.2 "Is norm minimum leeg?": "bij geen enkele van deze regels een norm minimum". P4: "no or several 649 rows, the original signal stands"
unfoldable pub minimum_empty : Table (Row T649) → Row T643 → Bool
minimum_empty limits r = choose (limits_for limits r) false (λ m. eqb m.normminimum no_limit) false

-- 3.4.2.3 "Is norm maximum is gevuld?": "bst649.GPNRMMAX > 0.000". (Its sentence on GPNRMMAXM and GPNRMMAXK, as that of 3.4.2.2 on GPNRMMINK and
-- GPNRMMINM, speaks of limits that table 649 does not have here: docs/DIFFERENCES.md.)
unfoldable pub maximum_given : Row T649 → Bool
maximum_given m = ltb no_limit m.normmaximum

-- 3.4.2.4 "Is norm maximum hoger dan ingevoerde keerdosis?" The highest dose, in base units by cross products as in step 12; equal is not above. ("Bepaal de
-- hoogste waarde": the highest maximum is above the dose exactly where some one is, and the rules that are go on.)
unfoldable pub above_dose : Prescription → Ratio → Row T649 → Bool
above_dose e q m = ltb (e.highest * q.base) (m.normmaximum * q.entered)

-- 3.4.2.5 "Dagdosis lager dan hoogst toegestane dagdosering?": "Vermenigvuldig de waarde van bst649.GPNRMMAX met het frequentie aantal
-- (bst643.GPDFAA)", and "de ingevoerde keerdosis met de ingevoerde frequentie". These products can pass 64 bits.
unfoldable pub above_day_dose : Prescription → Ratio → Row T643 → Row T649 → Bool
above_day_dose e q r m = ltb (e.highest * e.count * q.base) (m.normmaximum * r.gpdfaa * q.entered)

-- 3.4.2.3 to 3.4.2.5, "met de regels die aan de voorwaarden voldoen": all of one rule
unfoldable pub allows_more : Table (Row T649) → Prescription → Ratio → Row T643 → Bool
allows_more limits e q r =
    choose (limits_for limits r) false (λ m. maximum_given m && (above_dose e q m && above_day_dose e q r m)) false

-- 3.4.2.2 to 3.4.2.5, over the rows per day that fit
unfoldable pub lower : Table (Row T649) → Prescription → Ratio → Table (Row T643) → Bool
lower limits e q rows = all_rows (minimum_empty limits) rows && some (rows (allows_more limits e q))

-- 3.4.2: "als de ingevoerde dosering 'lager' is dan de doseringgrenzen, mag dit signaal onderdrukt worden", of the rows that passed the age
unfoldable pub suppresses : Table (Row T649) → Prescription → Context → Table (Row T643) → Step Bool
suppresses limits e c t =
    when (may_suppress e c) (do
      w ← fitting_weight (among of_day t)
      s ← fitting_surface w
      Done (lower limits e c.ratio s))
    (Done false)
