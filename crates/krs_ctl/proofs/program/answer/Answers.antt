use Rattle.std.proofs.Common.{ap, List, refl, subst, sym, ℕ}
use Rattle.krs_model.specs.State.{State}
use Rattle.krs_words.specs.Saying.{heard}
use Rattle.krs_ctl.specs.{Connecting.connecting, Program.{Answers, RunsAt}, Running.EndsScript, Telling.TellsOver}
use Rattle.krs_ctl.specs.declared.choice.Choice.{Choice as ChoiceIs}
use Rattle.krs_ctl.proofs.program.answer.Goals as goal

-- a script on a new store: it ended as it is said, and told nothing where its status is 0
pub returns-in-Script : goal.returns-in-Script
returns-in-Script g c =
    let end = c.run_script_at-end.result.0 in
    let net = connecting g.C.Connects.made g.C.Connects.failed g.C.Connects.closed g.C.Reader.Read.remaining
    g.C.Writer.Write.contents c.args.net.now c.args.net.now in
    let input = g.R.Read.remaining c.args.input in
    let old = g.W.Write.contents c.args.output.now in
    let new = g.W.Write.contents c.run_script_at-end.new.writer in
    subst
    (λ (choice : ChoiceIs).
    Answers net choice input old new (heard g.E.Write.contents c.args.errors.now)
    (heard g.E.Write.contents c.tell.new.errors) end.status)
    (sym c.in-Script.is) (
      (
        end,
        subst (λ (s : State). EndsScript input old new s end) c.new-store.ensures c.run_script_at-end.ensures.ends,
        refl,
      ),
      (
        c.run_script_at-end.new.place.number,
        c.run_script_at-end.new.place.line.items,
        c.run_script_at-end.result.1,
        c.tell.ensures.exact,
        λ is. ap (heard g.E.Write.contents) (c.tell.ensures.ended is),
        c.run_script_at-end.ensures.usage,
      ),
      λ zero. ap (heard g.E.Write.contents) (c.tell.ensures.ended (c.run_script_at-end.ensures.whole zero)),
      refl,
    )

-- a script over a path, which is the one that was given
pub returns-in-Remote : goal.returns-in-Remote
returns-in-Remote g c =
    let net = connecting g.C.Connects.made g.C.Connects.failed g.C.Connects.closed g.C.Reader.Read.remaining
    g.C.Writer.Write.contents c.args.net.now c.script_at.new.net in
    let input = g.R.Read.remaining c.args.input in
    let old = g.W.Write.contents c.args.output.now in
    let new = g.W.Write.contents c.script_at.new.output in
    let old_errors = heard g.E.Write.contents c.args.errors.now in
    let new_errors = heard g.E.Write.contents c.script_at.new.errors in
    let status = c.script_at.result in
    let over =
    subst
    (λ (path : List ℕ). RunsAt net path input old new status × TellsOver path status old_errors new_errors)
    c.as_str.ensures.value (c.script_at.ensures.runs, c.script_at.ensures.told) in
    subst (λ (choice : ChoiceIs). Answers net choice input old new old_errors new_errors status) (sym c.in-Remote.is)
    (over.0, over.1, c.script_at.ensures.well)
