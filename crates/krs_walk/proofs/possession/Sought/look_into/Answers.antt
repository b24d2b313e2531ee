use Rattle.std.proofs.Common.{◌∙◌, ap, arith, filter, option_copied, sym}
use Rattle.krs_model.specs.{Levels.is_in, Reach.is_ring, Table.at}
use Rattle.krs_keys.specs.Keys.{shown}
use Rattle.krs_walk.proofs.PossessionLemmas.{followed_absent, followed_links, followed_nested, unfollowed}
use Rattle.krs_walk.proofs.possession.Sought.look_into.Goals.{in_default-via-in-Some+else-is_followed}
use Rattle.krs_walk.proofs.possession.Sought.look_into.Goals.{in_default-via-in_default}
use Rattle.krs_walk.proofs.possession.Sought.look_into.Goals as goal
use Rattle.std.proofs.lemmas.Grind.{common_steps}

pub returns-in-Some-clause-linked : goal.returns-in-Some-clause-linked
returns-in-Some-clause-linked c = grind (arith, common_steps, followed_links, option_copied)

pub returns-in-Some-clause-rings : goal.returns-in-Some-clause-rings
returns-in-Some-clause-rings c = grind (arith, common_steps, followed_nested, option_copied)

pub returns-in_default-clause-linked : goal.returns-in_default-clause-linked
returns-in_default-clause-linked c =
    let s = c.args.self.now in
    elim c.in_default.branch [
      | in_default-via-in-Some+else-is_followed w ↦ ap (is_in s.serial)
          (sym (unfollowed s.keys.now.keys s.clock s.context.now.caller c.args.ring w.in-Some.holder.now
          (sym c.get.ensures ∙ ap option_copied w.in-Some.is) (sym w.is_followed.ensures ∙ w.if-is_followed.false)))
      | in_default-via-in_default w ↦ ap (is_in s.serial)
          (sym (followed_absent s.keys.now.keys s.clock s.context.now.caller c.args.ring
          (sym c.get.ensures ∙ ap option_copied w.in_default.is)))
    ]

pub returns-in_default-clause-rings : goal.returns-in_default-clause-rings
returns-in_default-clause-rings c =
    let s = c.args.self.now in
    elim c.in_default.branch [
      | in_default-via-in-Some+else-is_followed w ↦ ap (filter (λ k. is_ring (at (shown s.keys.now.keys) k)))
          (sym (unfollowed s.keys.now.keys s.clock s.context.now.caller c.args.ring w.in-Some.holder.now
          (sym c.get.ensures ∙ ap option_copied w.in-Some.is) (sym w.is_followed.ensures ∙ w.if-is_followed.false)))
      | in_default-via-in_default w ↦ ap (filter (λ k. is_ring (at (shown s.keys.now.keys) k)))
          (sym (followed_absent s.keys.now.keys s.clock s.context.now.caller c.args.ring
          (sym c.get.ensures ∙ ap option_copied w.in_default.is)))
    ]
