use Rattle.std.proofs.Common.{◌∙◌, ap, option_copied, sym}
use Rattle.krs_model.specs.Linking.{is_named}
use Rattle.krs_walk.specs.Searching.{searcher_for}
use Rattle.krs_walk.proofs.SoughtLemmas.{seen_there, unnamed_comes_to, unseen}
use Rattle.krs_walk.proofs.search.Search.judge_by.Goals.{in_default-via-in-Some+else-eq, in_default-via-in_default}
use Rattle.krs_walk.proofs.search.Search.judge_by.Goals as goal

pub returns-in_default-clause-sought : goal.returns-in_default-clause-sought
returns-in_default-clause-sought c =
    let s = c.args.self.now in
    elim c.in_default.branch [
      | in_default-via-in-Some+else-eq w ↦ sym (unnamed_comes_to (searcher_for s) s.name.now c.args.serial
          (ap (is_named s.name.now) (seen_there s.keys.now.keys c.args.serial w.in-Some.key.now
          (sym c.get.ensures ∙ ap option_copied w.in-Some.is))
          ∙ (sym w.eq.ensures ∙ w.if-eq.false)))
      | in_default-via-in_default w ↦ sym (unnamed_comes_to (searcher_for s) s.name.now c.args.serial
          (ap (is_named s.name.now) (unseen s.keys.now.keys c.args.serial
          (sym c.get.ensures ∙ ap option_copied w.in_default.is))))
    ]
