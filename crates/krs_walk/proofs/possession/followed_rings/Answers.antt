use Rattle.std.proofs.Common.{◌∙◌, ap, arith, filter, option_copied, sym}
use Rattle.krs_model.specs.{Reach.is_ring, Table.at}
use Rattle.krs_keys.specs.Keys.{shown}
use Rattle.krs_walk.proofs.PossessionLemmas.{followed_absent, followed_nested, unfollowed}
use Rattle.krs_walk.proofs.possession.followed_rings.Goals.{in_default-via-in-Some+else-is_followed}
use Rattle.krs_walk.proofs.possession.followed_rings.Goals.{in_default-via-in_default}
use Rattle.krs_walk.proofs.possession.followed_rings.Goals as goal
use Rattle.std.proofs.lemmas.Grind.{common_steps}

pub returns-in-Some : goal.returns-in-Some
returns-in-Some c = grind (arith, common_steps, followed_nested, option_copied)

pub returns-in_default : goal.returns-in_default
returns-in_default c =
    let keys = c.args.keys.now.keys in
    elim c.in_default.branch [
      | in_default-via-in-Some+else-is_followed w ↦ ap (filter (λ k. is_ring (at (shown keys) k)))
          (sym (unfollowed keys c.args.clock c.args.caller.now c.args.serial w.in-Some.key.now
          (sym c.get.ensures ∙ ap option_copied w.in-Some.is) (sym w.is_followed.ensures ∙ w.if-is_followed.false)))
      | in_default-via-in_default w ↦ ap (filter (λ k. is_ring (at (shown keys) k)))
          (sym (followed_absent keys c.args.clock c.args.caller.now c.args.serial
          (sym c.get.ensures ∙ ap option_copied w.in_default.is)))
    ]
