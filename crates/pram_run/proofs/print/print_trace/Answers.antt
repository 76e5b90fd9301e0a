use Rattle.std.proofs.Common.{◌≡◌, ◌++◌, ℕ, List, sym, ap, subst, take, codes, arith}
use Rattle.std.proofs.lemmas.List.{take_all}
use Rattle.std.proofs.Math.Seq.{take-length}
use Rattle.std.proofs.KnownBytes.{Appends-trans}
use Rattle.std.specs.Io.KnownBytes.{Appends}
use Rattle.pram_streams.specs.Transfer.{AppendsBeginning}
use Rattle.pram_streams.proofs.Beginnings.{beginning-after}
use Rattle.pram_run.specs.Printed.{row_lines, trace_text}
use Rattle.pram_run.proofs.Lines.{trace-begins}
use Rattle.pram_run.proofs.print.print_trace.Goals as goal

abbrev header : List ℕ
header = codes "tick,worker,op,word,before,after\n"

pub returns-in_err-put-clause-beginning : goal.returns-in_err-put-clause-beginning
returns-in_err-put-clause-beginning g c =
    trace-begins _ _ c.args.rows.now 0
    (subst (λ bytes. AppendsBeginning (g.W.Sink.taken c.args.sink.now)
    (g.W.Sink.taken c.put.new.sink) bytes) c.as_bytes.ensures.value c.in_err-put.ensures.beginning)

pub loop-done-init : goal.loop-done-init
loop-done-init g c = record {
  unfailed = c.in_ok-put.ensures.failed;
  within = omega arith;
  put = subst
      (λ bytes. Appends (g.W.Sink.taken c.args.sink.now) (g.W.Sink.taken c.put.new.sink) bytes)
      c.as_bytes.ensures.value c.in_ok-put.ensures.ok;
}

pub returns-in_err-lines-clause-beginning : goal.returns-in_err-lines-clause-beginning
returns-in_err-lines-clause-beginning g c =
    let text = trace_text (take c.loop-done.done c.args.rows.now) in
    trace-begins _ _ c.args.rows.now c.loop-done.done
    (text, take-length text, c.loop-done.invariant.put)

-- the trace's text, and then the lines up to a later place
further : (rows : _) (done end : ℕ) (lines : List ℕ) →
    row_lines 0 (take done rows) ++ lines ≡ row_lines 0 (take end rows) →
    trace_text (take done rows) ++ lines ≡ trace_text (take end rows)
further rows done end lines more = ap (λ l. header ++ l) more

pub returns-in_err-put-2-clause-beginning : goal.returns-in_err-put-2-clause-beginning
returns-in_err-put-2-clause-beginning g c =
    let next = further c.args.rows.now
    c.loop-done.done c.min-end.result c.in_ok-lines.lines.items c.in_ok-lines.ensures in
    let put = subst (λ bytes. AppendsBeginning (g.W.Sink.taken c.loop-done.sink)
    (g.W.Sink.taken c.put-in-loop-done.new.sink) bytes)
    c.as_slice.ensures.value c.in_err-put-2.ensures.beginning in
    trace-begins _ _ c.args.rows.now c.min-end.result
    (rw (sym next) (beginning-after _ _ _ _ _ c.loop-done.invariant.put put))

pub loop-done-preserved : goal.loop-done-preserved
loop-done-preserved g c =
    let next = further c.args.rows.now
    c.loop-done.done c.min-end.result c.in_ok-lines.lines.items c.in_ok-lines.ensures in
    let put = subst (λ bytes.
    Appends (g.W.Sink.taken c.loop-done.sink) (g.W.Sink.taken c.put-in-loop-done.new.sink) bytes)
    c.as_slice.ensures.value c.in_ok-put-2.ensures.ok in
    record {
      unfailed = c.in_ok-put-2.ensures.failed;
      within = omega (arith, c.min-end.ensures);
      put = rw (sym next) (Appends-trans _ _ _ _ _ c.loop-done.invariant.put put);
    }

pub returns-clause-ok : goal.returns-clause-ok
returns-clause-ok g c =
    let all = take_all c.loop-done.done c.args.rows.now (omega (arith, c.loop-done-test.false)) in
    subst (λ rows. Appends (g.W.Sink.taken c.args.sink.now) (g.W.Sink.taken c.loop-done.sink)
    (trace_text rows)) all c.loop-done.invariant.put
