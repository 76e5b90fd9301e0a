use Rattle.std.proofs.Common.{◌≡◌, ◌∙◌, ◌++◌, ℕ, List, sym, append-nil}
use Rattle.std.proofs.Common.{ap, append_assoc, subst, take, arith}
use Rattle.std.proofs.lemmas.List.{take_all}
use Rattle.std.proofs.Math.Seq.{take-length}
use Rattle.std.proofs.KnownBytes.{Appends-trans}
use Rattle.std.specs.Io.KnownBytes.{Appends}
use Rattle.pram_streams.specs.Transfer.{AppendsBeginning}
use Rattle.pram_streams.proofs.Beginnings.{beginning-after}
use Rattle.pram_run.specs.Printed.{CellWords, sight_lines, sights_text}
use Rattle.pram_run.proofs.Lines.{sights-begin}
use Rattle.pram_run.proofs.print.print_sights.Goals as goal

pub returns-in_err-put-clause-beginning : goal.returns-in_err-put-clause-beginning
returns-in_err-put-clause-beginning g c =
    sights-begin _ _ _ c.args.sights.now 0
    (subst (λ bytes. AppendsBeginning (g.W.Sink.taken c.args.sink.now)
    (g.W.Sink.taken c.put.new.sink) bytes) (c.as_bytes.ensures.value ∙ c.header.ensures ∙ sym (append-nil _)) c.in_err-put.ensures.beginning)

pub loop-done-init : goal.loop-done-init
loop-done-init g c = record {
  unfailed = c.in_ok-put.ensures.failed;
  within = omega arith;
  put = subst
      (λ bytes. Appends (g.W.Sink.taken c.args.sink.now) (g.W.Sink.taken c.put.new.sink) bytes)
      (c.as_bytes.ensures.value ∙ c.header.ensures ∙ sym (append-nil _)) c.in_ok-put.ensures.ok;
}

pub returns-in_err-lines-clause-beginning : goal.returns-in_err-lines-clause-beginning
returns-in_err-lines-clause-beginning g c =
    let text = sights_text (g.C.CellNames.words c.args.names.now) (take c.loop-done.done c.args.sights.now) in
    sights-begin _ _ _ c.args.sights.now c.loop-done.done
    (text, take-length text, c.loop-done.invariant.put)

-- the trace's text, and then the lines up to a later place
further : (words : CellWords) (sights : _) (done end : ℕ) (lines : List ℕ) →
    sight_lines words (take done sights) ++ lines ≡ sight_lines words (take end sights) →
    sights_text words (take done sights) ++ lines ≡ sights_text words (take end sights)
further words sights done end lines more =
    append_assoc words.header (sight_lines words (take done sights)) lines
    ∙ ap (λ l. words.header ++ l) more

pub returns-in_err-put-2-clause-beginning : goal.returns-in_err-put-2-clause-beginning
returns-in_err-put-2-clause-beginning g c =
    let next = further (g.C.CellNames.words c.args.names.now) c.args.sights.now
    c.loop-done.done c.min-end.result c.in_ok-lines.lines.items c.in_ok-lines.ensures in
    let put = subst (λ bytes. AppendsBeginning (g.W.Sink.taken c.loop-done.sink)
    (g.W.Sink.taken c.put-in-loop-done.new.sink) bytes)
    c.as_slice.ensures.value c.in_err-put-2.ensures.beginning in
    sights-begin _ _ _ c.args.sights.now c.min-end.result
    (rw (sym next) (beginning-after _ _ _ _ _ c.loop-done.invariant.put put))

pub loop-done-preserved : goal.loop-done-preserved
loop-done-preserved g c =
    let next = further (g.C.CellNames.words c.args.names.now) c.args.sights.now
    c.loop-done.done c.min-end.result c.in_ok-lines.lines.items c.in_ok-lines.ensures in
    let put = subst (λ bytes.
    Appends (g.W.Sink.taken c.loop-done.sink) (g.W.Sink.taken c.put-in-loop-done.new.sink) bytes)
    c.as_slice.ensures.value c.in_ok-put-2.ensures.ok in
    record {
      unfailed = c.in_ok-put-2.ensures.failed;
      within = omega (arith, c.min-end.ensures);
      put = rw (sym next) (Appends-trans _ _ _ _ _ c.loop-done.invariant.put put);
    }

pub returns-clause-ok : goal.returns-clause-ok
returns-clause-ok g c =
    let all = take_all c.loop-done.done c.args.sights.now (omega (arith, c.loop-done-test.false)) in
    subst (λ sights. Appends (g.W.Sink.taken c.args.sink.now) (g.W.Sink.taken c.loop-done.sink)
    (sights_text (g.C.CellNames.words c.args.names.now) sights)) all c.loop-done.invariant.put
