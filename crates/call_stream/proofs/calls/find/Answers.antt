-- Each return is the case of the definition, by the three numbers in front. Assumes nothing.
use mathlib.Core.Path.{refl, sym, ◌∙◌}
use native.Mathlib.Omega.{arith}
use Rattle.std.specs.Prelude.{Ok, Err}
use Rattle.call_stream.proofs.Finding.{no_call, front_more, too_long, numbered, all_there, part_there}
use Rattle.call_stream.proofs.calls.find.Goals as goal

pub returns-then-s-lt-FRONT : goal.returns-then-s-lt-FRONT
returns-then-s-lt-FRONT c = front_more _ (omega arith)

pub returns-then-bytes-gt-MOST : goal.returns-then-bytes-gt-MOST
returns-then-bytes-gt-MOST c = too_long _ (omega arith) _ c.word-bytes.ensures (omega arith)

pub returns-in_err-file : goal.returns-in_err-file
returns-in_err-file c =
    no_call _ c.from_residual.ensures.0 ∙
    numbered _ (omega arith) _ c.word-bytes.ensures (omega arith) _ _ c.word.ensures refl (Err _) _ (sym c.try_from.ensures ∙ c.in_err-file.was) refl

pub returns-in_err-asked : goal.returns-in_err-asked
returns-in_err-asked c =
    no_call _ c.from_residual-in_err-asked.ensures.0 ∙
    numbered _ (omega arith) _ c.word-bytes.ensures (omega arith) _ _ c.word.ensures c.word-2.ensures (Ok _) (Err _) (sym c.try_from.ensures ∙ c.in_ok-file.was) (sym c.try_from-2.ensures ∙ c.in_err-asked.was)

pub returns-then-s-length : goal.returns-then-s-length
returns-then-s-length c =
    part_there _ _ (omega arith) ∙
    numbered _ (omega arith) _ c.word-bytes.ensures (omega arith) _ _ c.word.ensures c.word-2.ensures (Ok _) (Ok _) (sym c.try_from.ensures ∙ c.in_ok-file.was) (sym c.try_from-2.ensures ∙ c.in_ok-asked.was)

pub returns : goal.returns
returns c =
    all_there _ _ (omega arith) ∙
    numbered _ (omega arith) _ c.word-bytes.ensures (omega arith) _ _ c.word.ensures c.word-2.ensures (Ok _) (Ok _) (sym c.try_from.ensures ∙ c.in_ok-file.was) (sym c.try_from-2.ensures ∙ c.in_ok-asked.was)
