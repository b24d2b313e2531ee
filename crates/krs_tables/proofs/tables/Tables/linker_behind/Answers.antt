use Rattle.std.proofs.Common.{◌∙◌, ◌≡◌, subst, sym, true}
use Rattle.krs_model.specs.{Levels.is_in, Reach.links_of_key_at, State.State}
use Rattle.krs_tables.proofs.Links.{linked_told}
use Rattle.krs_tables.proofs.tables.Tables.linker_behind.Goals as goal

pub returns-then-links_key-clause-links : goal.returns-then-links_key-clause-links
returns-then-links_key-clause-links c =
    subst (λ (s : State). is_in c.args.serial (links_of_key_at s.keys c.in-Some.ring) ≡ true) c.self.view_is
    (sym (linked_told c.self.inside.keys.keys c.in-Some.ring c.args.serial)
    ∙ (sym c.links_key.ensures ∙ c.if-links_key.true))
