-- `closing::close` meets its contract: what is found is told before anything is set, and what is set stays only where the judge accepts.
-- Assumes nothing.
use mathlib.Core.Path.{◌≡◌, sym, ap, ◌∙◌}
use mathlib.Core.Bool.{Bool, true, false, not}
use Rattle.std.specs.Prelude.{Result, Ok, Err}
use Rattle.std.specs.Result.{is_err}
use Rattle.wire.specs.declared.refusal.Refusal.{Refusal}
use Rattle.building.specs.Sent.{Written, is_written}
use lib.Seq.{length-take-le}
use Rattle.closing.proofs.Setting.{set_closable, set_inside}
use Rattle.closing.proofs.Laws.{found_closable, found_answer, close_kept, close_set}
use Rattle.closing.proofs.close.Goals as goal

pub set-old-requires : goal.set-old-requires
set-old-requires c = found_closable _ _ _ c.in_ok-closing_fault.ensures

pub slice_bounds-judge-end : goal.slice_bounds-judge-end
slice_bounds-judge-end c =
    let can = found_closable _ _ _ c.in_ok-closing_fault.ensures in
    set_inside _ _ can c.needs-size.ensures c.set-old.ensures.buffer_after

pub slice_bounds-judge-end-2 : goal.slice_bounds-judge-end-2
slice_bounds-judge-end-2 c =
    let can = found_closable _ _ _ c.in_ok-closing_fault.ensures in
    sym (length-take-le _ _ (set_inside _ _ can c.needs-size.ensures c.set-old.ensures.buffer_after))

pub put_back-requires : goal.put_back-requires
put_back-requires c =
    set_closable _ _ (found_closable _ _ _ c.in_ok-closing_fault.ensures) c.set-old.ensures.buffer_after

-- an answer is written where it is no error
unwritten : (sent : Result Written Refusal) (t : Bool) → is_written sent ≡ t → is_err sent ≡ not t
unwritten (Ok written) t e = ap not e
unwritten (Err refusal) t e = ap not e

pub returns-then-not-is_written : goal.returns-then-not-is_written
returns-then-not-is_written c =
    let a = c.args in
    let set = c.set-old.ensures in
    let answer = found_answer a.connection a.building a.buffer.now c.in_ok-closing_fault.ensures c.needs-size.ensures set.buffer_after c.judge-sent.ensures in
    let kept = close_kept a.connection a.building a.buffer.now c.judge-sent.result answer (unwritten _ false (sym c.is_written.ensures ∙ c.if-not-is_written.true)) in
    record { result_value = answer; buffer_after = cc }

pub returns-else-not-is_written : goal.returns-else-not-is_written
returns-else-not-is_written c =
    let a = c.args in
    let set = c.set-old.ensures in
    let answer = found_answer a.connection a.building a.buffer.now c.in_ok-closing_fault.ensures c.needs-size.ensures set.buffer_after c.judge-sent.ensures in
    let stands = close_set a.connection a.building a.buffer.now c.judge-sent.result answer (unwritten _ true (sym c.is_written.ensures ∙ c.if-not-is_written.false)) in
    record { result_value = answer; buffer_after = cc }
