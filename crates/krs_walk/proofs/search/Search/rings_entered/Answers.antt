use Rattle.std.proofs.Common.{◌∙◌, ap, arith, filter, option_copied, sym, ℕ}
use Rattle.krs_model.specs.{Reach.is_ring, Table.at}
use Rattle.krs_keys.specs.Keys.{shown}
use Rattle.krs_walk.proofs.SearchLemmas.{entered_absent, entered_there, rings_entered}
use Rattle.krs_walk.proofs.search.Search.rings_entered.Goals.{in_default-via-in-Some+else-is_entered}
use Rattle.krs_walk.proofs.search.Search.rings_entered.Goals.{in_default-via-in_default}
use Rattle.krs_walk.proofs.search.Search.rings_entered.Goals as goal
use Rattle.std.proofs.lemmas.Grind.{common_steps}

pub returns-in-Some : goal.returns-in-Some
returns-in-Some c = grind (arith, common_steps, rings_entered, option_copied)

pub returns-in_default : goal.returns-in_default
returns-in_default c =
    let s = c.args.self.now in
    let passes = λ (k : ℕ). is_ring (at (shown s.keys.now.keys) k) in
    elim c.in_default.branch [
      | in_default-via-in-Some+else-is_entered w ↦ sym (ap (filter passes) (entered_there s c.args.ring
          w.in-Some.key.now _ (sym c.get.ensures ∙ ap option_copied w.in-Some.is)
          (sym w.is_entered.ensures ∙ w.if-is_entered.false)))
      | in_default-via-in_default w ↦ sym (ap (filter passes) (entered_absent s c.args.ring
          (sym c.get.ensures ∙ ap option_copied w.in_default.is)))
    ]
