-- P7, "Hosts on the former text set". 001, 4.5.2: "Indien beide afwijken of een dergelijk onderscheid niet gewenst is: tekstnummer 8". The steps do not look
-- at the edition; it says how their answer is given.
use Rattle.std.specs.Prelude.{ℕ, Bool, cond, eqb}
use Rattle.guideline.specs.Types.{Answer, Range}
use Rattle.guideline.specs.Values.{within, from_to, former}

-- "115, 116 or 117"
abbrev pub signals : Range
signals = from_to 115 117

unfoldable pub missing_frequency : ℕ → Bool
missing_frequency n = within signals n

-- "Edition 1 gives 117"
unfoldable pub former_signal : ℕ → ℕ
former_signal n = cond (missing_frequency n) 117 n

-- "with text 8"
unfoldable pub former_text : ℕ → ℕ → ℕ
former_text answer text = cond (missing_frequency answer) 8 text

-- "Edition 1 gives 117 with text 8 where edition 2 gives 115, 116 or 117, and also as the suppressed number of P4. Nothing else differs."
unfoldable pub in_former : Answer → Answer
in_former a =
    record {
      answer = former_signal a.answer;
      text = former_text a.answer a.text;
      table = a.table;
      basis = a.basis;
      category = a.category;
      rule = a.rule;
      high = a.high;
      low = a.low;
      suppressed = former_signal a.suppressed;
    }

unfoldable pub in_edition : ℕ → Answer → Answer
in_edition edition a = cond (eqb edition former) (in_former a) a
