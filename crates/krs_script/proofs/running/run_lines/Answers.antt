use Rattle.std.proofs.{Common.{◌∙◌, ap, arith, Ok, refl}, lemmas.Result.err_from_is_err_and}
use Rattle.krs_script.proofs.Going.{going_more, going_same, going_start, runs_at_line, runs_to_end, runs_too_long}
use Rattle.krs_script.proofs.Going.{runs_unread, runs_unwritten}
use Rattle.krs_script.proofs.running.run_lines.Goals as goal

pub loop-init : goal.loop-init
loop-init g c = (going_start g.C.Carries.acts _ _ _ _, omega (arith, c.requires), refl)

pub returns-in_err-write_before_waiting-clause-runs : goal.returns-in_err-write_before_waiting-clause-runs
returns-in_err-write_before_waiting-clause-runs g c =
    let p = err_from_is_err_and c.from_residual.result c.from_residual.ensures.1 in
    rw (p.1, p.2, c.in_err-write_before_waiting.ensures.causes) (runs_unwritten g.C.Carries.acts g.C.Carries.breaks
    _ _ _ _ _ _ _ _ _ _ _ c.loop-test.true c.loop.invariant.0 c.in_err-write_before_waiting.ensures.failed)

pub returns-in_err-read_next-clause-runs : goal.returns-in_err-read_next-clause-runs
returns-in_err-read_next-clause-runs g c =
    let p = err_from_is_err_and c.from_residual-in_err-read_next.result c.from_residual-in_err-read_next.ensures.1 in
    let going = going_same g.C.Carries.acts g.C.Carries.breaks _ _ _ _ _ _ _ _ _ _ _
    c.loop.invariant.0 c.in_ok-write_before_waiting.ensures.ok in
    rw (p.1, p.2) (runs_unread g.C.Carries.acts g.C.Carries.breaks _ _ _ _ _ _ _ _ _ _
    c.in_err-read_next.ensures.causes c.loop-test.true going)

pub returns-then-not-branch-clause-runs : goal.returns-then-not-branch-clause-runs
returns-then-not-branch-clause-runs g c =
    let going = going_same g.C.Carries.acts g.C.Carries.breaks _ _ _ _ _ _ _ _ _ _ _
    c.loop.invariant.0 c.in_ok-write_before_waiting.ensures.ok in
    runs_to_end g.C.Carries.acts g.C.Carries.breaks _ _ _ _ _ _ _ _ _ c.loop-test.true going
    (c.in_ok-read_next.ensures.end (ap Ok c.if-not-branch.true))

pub returns-in_err-obey-clause-runs : goal.returns-in_err-obey-clause-runs
returns-in_err-obey-clause-runs g c =
    let p = err_from_is_err_and c.from_residual-in_err-obey.result c.from_residual-in_err-obey.ensures.1 in
    let going = going_same g.C.Carries.acts g.C.Carries.breaks _ _ _ _ _ _ _ _ _ _ _
    c.loop.invariant.0 c.in_ok-write_before_waiting.ensures.ok in
    let reads = rw (← c.as_slice.ensures.value) at (c.in_ok-read_next.ensures.found (ap Ok c.if-not-branch.false)) in
    rw (p.1, p.2) (runs_at_line g.C.Carries.acts g.C.Carries.breaks _ _ _ _ _ _ _ _ _ _ _ _ _ _ _ c.loop-test.true going
    reads c.in_err-obey.ensures.obeyed)

pub loop-preserved : goal.loop-preserved
loop-preserved g c =
    let going = going_same g.C.Carries.acts g.C.Carries.breaks _ _ _ _ _ _ _ _ _ _ _
    c.loop.invariant.0 c.in_ok-write_before_waiting.ensures.ok in
    let reads = rw (← c.as_slice.ensures.value) at (c.in_ok-read_next.ensures.found (ap Ok c.if-not-branch.false)) in (
      going_more g.C.Carries.acts g.C.Carries.breaks _ _ _ _ _ _ _ _ _ _ _ _ _ _ _ going reads
          c.in_ok-obey.ensures.obeyed.1 c.in_ok-obey.ensures.obeyed.2,
      omega (arith, c.in_ok-obey.ensures.few, c.loop.invariant.1),
      c.in_ok-obey.ensures.kept ∙ c.loop.invariant.2,
    )

pub returns-clause-runs : goal.returns-clause-runs
returns-clause-runs g c =
    runs_too_long g.C.Carries.acts g.C.Carries.breaks _ _ _ _ _ _ _ _ _
    (omega (arith, c.loop-test.false, c.loop.auto.counter-end)) c.loop.invariant.0
