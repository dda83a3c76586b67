-- A call lies inside what is gathered, its line has room, and a part of a call leaves room for more and writes nothing. Assumes nothing.
use Rattle.std.proofs.Common.{arith, ℕ, ◌-◌, ◌≡◌, ◌∙◌, refl, List, []}
use Rattle.std.proofs.lemmas.Result.{on_err_weaker}
use Rattle.records.proofs.Chars.{length_chars}
use Rattle.call_stream.proofs.Taking.{inside}
use Rattle.call_stream.specs.Calls.{Found, found}
use Rattle.call_stream.specs.Lines.{line_of}
use Rattle.call_stream.specs.Takes.{Takes, taken}
use Rattle.call_stream.specs.declared.Taken.TheVariants.{More}
use Rattle.std.specs.Prelude.{Some, None, Ok, Err}
use Rattle.record_calls.proofs.next_call.Goals as goal

no_line : (f : Found) (s : List ℕ) (end : ℕ) → More ≡ taken f end → line_of f s ≡ []
unfolding taken line_of
no_line (Ok (Some call)) s end e = cc
no_line (Ok None) s end e = refl
no_line (Err x) s end e = cc

unwritten : {s old left new : List ℕ} {at : ℕ} → Takes s old at left new More → new ≡ old
unwritten {s} p = p.line ∙ rw (no_line (found s) s _ p.result) refl

pub overflow_add-result : goal.overflow_add-result
overflow_add-result g c =
    let x = c.args in
    let i = inside c.in-Answered.ensures in
    omega (arith, length_chars x.input.now x.gathered.from (x.gathered.have - x.gathered.from) (omega arith))

pub gather-requires : goal.gather-requires
gather-requires g c =
    let x = c.args in
    let i = inside c.in-More.ensures in
    omega (arith, length_chars x.input.now x.gathered.from (x.gathered.have - x.gathered.from) (omega arith))

pub returns-in-Answered-clause-ok : goal.returns-in-Answered-clause-ok
returns-in-Answered-clause-ok g c =
    let x = c.args in
    let i = inside c.in-Answered.ensures in
    omega (arith, length_chars x.input.now x.gathered.from (x.gathered.have - x.gathered.from) (omega arith))

pub returns-in-More-clause-err : goal.returns-in-More-clause-err
returns-in-More-clause-err g c = on_err_weaker c.gather.result (λ e. e ∙ unwritten c.in-More.ensures) c.gather.ensures.err

pub returns-in-Broken-clause-ok : goal.returns-in-Broken-clause-ok
returns-in-Broken-clause-ok g c =
    let i = inside c.in-Broken.ensures in
    omega arith
