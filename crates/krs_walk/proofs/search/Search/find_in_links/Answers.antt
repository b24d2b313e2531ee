use Rattle.std.proofs.Common.{◌∙◌, ap, option_copied, sym}
use Rattle.krs_walk.specs.Searching.{sought_behind}
use Rattle.krs_walk.proofs.SearchLemmas.{entered_absent, entered_there, nothing_sought}
use Rattle.krs_walk.proofs.search.Search.find_in_links.Goals.{in_default-via-in-Some+else-is_entered}
use Rattle.krs_walk.proofs.search.Search.find_in_links.Goals.{in_default-via-in_default}
use Rattle.krs_walk.proofs.search.Search.find_in_links.Goals as goal

pub returns-in-Some : goal.returns-in-Some
returns-in-Some c =
    c.judge_behind.ensures ∙ ap (sought_behind c.args.self.now c.args.fault)
    (sym (entered_there c.args.self.now c.args.ring c.in-Some.key.now _
    (sym c.get.ensures ∙ ap option_copied c.in-Some.is) (sym c.is_entered.ensures ∙ c.if-is_entered.true)))

pub returns-in_default : goal.returns-in_default
returns-in_default c =
    elim c.in_default.branch [
      | in_default-via-in-Some+else-is_entered w ↦ nothing_sought c.args.self.now c.args.ring c.args.fault
          (entered_there c.args.self.now c.args.ring w.in-Some.key.now _
          (sym c.get.ensures ∙ ap option_copied w.in-Some.is) (sym w.is_entered.ensures ∙ w.if-is_entered.false))
      | in_default-via-in_default w ↦ nothing_sought c.args.self.now c.args.ring c.args.fault
          (entered_absent c.args.self.now c.args.ring (sym c.get.ensures ∙ ap option_copied w.in_default.is))
    ]
