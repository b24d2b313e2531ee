use Rattle.std.proofs.{Common.{[], ◌≡◌, false, Some}, lemmas.Result.err_from_is_err_and}
use Rattle.krs_words.specs.Words.{words_of}
use Rattle.krs_words.proofs.WritingLemmas.{Prints-nil}
use Rattle.krs_commands.specs.Command.{command_of}
use Rattle.krs_script.specs.Running.{is_skipped}
use Rattle.krs_script.proofs.RunningLemmas.{is_skipped-kept, ObeysLine-broken, ObeysLine-command, TakesLine-empty}
use Rattle.krs_script.proofs.running.obey.Goals as goal

pub returns-then-is_empty-clause-obeyed : goal.returns-then-is_empty-clause-obeyed
returns-then-is_empty-clause-obeyed g c = (
  [],
  TakesLine-empty g.C.Carries.acts (g.C.Carries.state c.args.client.now) c.args.line.now c.in_ok-words.words.items _
      c.if-is_comment.ensures c.in_ok-words.ensures c.in_ok-words.words.ok.0 c.if-is_empty.ensures,
  Prints-nil _ _,
)

pub returns-in_err-output-clause-obeyed : goal.returns-in_err-output-clause-obeyed
returns-in_err-output-clause-obeyed g c =
    let p = err_from_is_err_and c.from_residual-in_err-output.result c.from_residual-in_err-output.ensures.1 in
    let kept : is_skipped c.args.line.now ≡ false =
    is_skipped-kept c.args.line.now c.in_ok-words.words.items _ c.if-is_comment.ensures c.in_ok-words.ensures
    c.in_ok-words.words.ok.0 c.if-is_empty.ensures in
    let is : command_of (words_of c.args.line.now) ≡ Some c.in_ok-command.command =
    rw (c.as_slice.ensures.value, c.in_ok-words.ensures) at c.in_ok-command.ensures in
    rw (p.1, p.2) (ObeysLine-broken g.C.Carries.acts g.C.Carries.breaks _ _ c.args.line.now c.in_ok-command.command
    _ _ _ kept is c.in_err-output.ensures.err c.in_err-output.ensures.causes)

pub returns-clause-obeyed : goal.returns-clause-obeyed
returns-clause-obeyed g c =
    let kept : is_skipped c.args.line.now ≡ false =
    is_skipped-kept c.args.line.now c.in_ok-words.words.items _ c.if-is_comment.ensures c.in_ok-words.ensures
    c.in_ok-words.words.ok.0 c.if-is_empty.ensures in
    let is : command_of (words_of c.args.line.now) ≡ Some c.in_ok-command.command =
    rw (c.as_slice.ensures.value, c.in_ok-words.ensures) at c.in_ok-command.ensures in
    ObeysLine-command g.C.Carries.acts g.C.Carries.breaks _ _ c.args.line.now c.in_ok-command.command
    c.in_ok-output.output _ _ _ _
    c.print_output.result kept is c.in_ok-output.ensures.ok c.print_output.ensures.ok c.print_output.ensures.memory
    c.print_output.ensures.printing c.print_output.ensures.causes
