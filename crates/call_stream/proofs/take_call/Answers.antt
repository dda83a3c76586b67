-- Each case of what is found. Assumes nothing.
use mathlib.Core.Path.{◌≡◌, refl}
use native.Mathlib.Omega.{arith}
use Rattle.call_stream.specs.Calls.{whole, more}
use Rattle.call_stream.specs.Lines.{broken_line, line_of, after}
use Rattle.call_stream.specs.Takes.{taken}
use Rattle.call_stream.proofs.Taking.{within, takes}
use Rattle.call_stream.proofs.take_call.Goals as goal

pub length-requires : goal.length-requires
length-requires c =
    let is : c.find.result ≡ whole c.in-Ok-Some.call = cc in
    (within _ _ _ c.find.ensures is).1

pub put_answer-requires : goal.put_answer-requires
put_answer-requires c =
    let is : c.find.result ≡ whole c.in-Ok-Some.call = cc in
    let w = within _ _ _ c.find.ensures is in
    (w.0, w.1, c.requires)

pub returns-in-Ok-Some : goal.returns-in-Ok-Some
unfolding taken after line_of
returns-in-Ok-Some c =
    let is : c.find.result ≡ whole c.in-Ok-Some.call = cc in
    let line = c.put_answer.ensures in
    takes _ _ _ c.find.ensures is _ _ _ _ _ _ line.0 line.1 line.2 (rw c.length.ensures refl)

pub returns-in-Ok-None : goal.returns-in-Ok-None
unfolding taken after line_of
returns-in-Ok-None c =
    let is : c.find.result ≡ more = cc in
    takes _ _ _ c.find.ensures is _ _ _ _ c.args.at _ (record { bytes = refl; place = omega arith }) (omega arith) refl refl

pub returns-in-Err : goal.returns-in-Err
unfolding taken after line_of broken_line
returns-in-Err c =
    let line = c.put_text.ensures in
    takes _ _ _ c.find.ensures c.in-Err.is _ _ _ _ _ _ line (omega (arith, line.place)) refl refl
