use Rattle.std.proofs.Common.{◌∙◌, ap, arith, filter, option_copied, sym, ℕ}
use Rattle.krs_model.specs.{Reach.is_ring, Table.at}
use Rattle.krs_keys.specs.Keys.{shown}
use Rattle.krs_walk.specs.Searching.{sought_behind}
use Rattle.krs_walk.proofs.SearchLemmas.{entered_absent, entered_there, nothing_sought, rings_entered}
use Rattle.krs_walk.proofs.search.Search.look_in.Goals.{in_default-via-in-Some+else-is_entered}
use Rattle.krs_walk.proofs.search.Search.look_in.Goals.{in_default-via-in_default}
use Rattle.krs_walk.proofs.search.Search.look_in.Goals as goal
use Rattle.std.proofs.lemmas.Grind.{common_steps}

pub returns-in-Some-clause-sought : goal.returns-in-Some-clause-sought
returns-in-Some-clause-sought c =
    c.judge_behind.ensures ∙ ap (sought_behind c.args.self.now c.args.fault)
    (sym (entered_there c.args.self.now c.args.ring c.in-Some.key.now _
    (sym c.get.ensures ∙ ap option_copied c.in-Some.is) (sym c.is_entered.ensures ∙ c.if-is_entered.true)))

pub returns-in-Some-clause-rings : goal.returns-in-Some-clause-rings
returns-in-Some-clause-rings c = grind (arith, common_steps, rings_entered, option_copied)

pub returns-in_default-clause-sought : goal.returns-in_default-clause-sought
returns-in_default-clause-sought c =
    elim c.in_default.branch [
      | in_default-via-in-Some+else-is_entered w ↦ nothing_sought c.args.self.now c.args.ring c.args.fault
          (entered_there c.args.self.now c.args.ring w.in-Some.key.now _
          (sym c.get.ensures ∙ ap option_copied w.in-Some.is) (sym w.is_entered.ensures ∙ w.if-is_entered.false))
      | in_default-via-in_default w ↦ nothing_sought c.args.self.now c.args.ring c.args.fault
          (entered_absent c.args.self.now c.args.ring (sym c.get.ensures ∙ ap option_copied w.in_default.is))
    ]

pub returns-in_default-clause-rings : goal.returns-in_default-clause-rings
returns-in_default-clause-rings c =
    let s = c.args.self.now in
    let passes = λ (k : ℕ). is_ring (at (shown s.keys.now.keys) k) in
    elim c.in_default.branch [
      | in_default-via-in-Some+else-is_entered w ↦ sym (ap (filter passes) (entered_there s c.args.ring
          w.in-Some.key.now _ (sym c.get.ensures ∙ ap option_copied w.in-Some.is)
          (sym w.is_entered.ensures ∙ w.if-is_entered.false)))
      | in_default-via-in_default w ↦ sym (ap (filter passes) (entered_absent s c.args.ring
          (sym c.get.ensures ∙ ap option_copied w.in_default.is)))
    ]
