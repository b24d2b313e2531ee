use Rattle.std.proofs.{Common.{◌∙◌, ◌≡◌, ap, List, Ok, Some, subst, sym, w32, ℕ}, lemmas.Int.to_z-of_z}
use Rattle.krs_types.specs.declared.name.Name.{Name}
use Rattle.krs_model.specs.{Asks.Adding.admitted, Outcome.Leads}
use Rattle.krs_tables.specs.Specials.{adding_made, Makes}
use Rattle.krs_tables.proofs.MadeFor.{add_made, is_new}
use Rattle.krs_key_asks.proofs.adding.add.Goals as goal

pub returns-in-Some : goal.returns-in-Some
returns-in-Some c =
    let s = c.args.tables.now in
    let x = c.in_ok-context.context.now in
    let own = c.in_ok-context.ensures in
    let special = c.in-Some.special in
    let makes : Makes (Some special) s c.args.number x c.args.ring =
    subst (Makes (Some special) s c.args.number x) (to_z-of_z w32 c.args.ring c.ranges.ring)
    c.in-Some.ensures.makes in
    let new = is_new special s c.args.client c.args.number x c.args.ring makes c.requires.sound own in
    let name : Name = record { kind = c.in_ok-kind.kind; desc = c.args.desc } in
    let admits : admitted c.args.type_name c.args.desc c.args.payload ≡ Ok name =
    rw (sym c.as_slice.ensures, sym c.as_slice-2.ensures) c.in_ok-kind.ensures.name in
    let same = add_made special s c.args.client c.args.number x c.args.type_name c.args.desc c.args.payload name
    c.args.ring new own admits in
    let named : List ℕ → Name = λ bytes. record { kind = c.in_ok-kind.kind; desc = bytes } in
    let hashed : c.hashed-name.result ≡ name = c.hashed-name.ensures ∙ ap named c.new.ensures in
    let told : Leads s c.make_adding.result c.make_adding.new.self
    (adding_made special s c.args.client c.args.number name c.args.payload) =
    subst (λ (n : Name). Leads s c.make_adding.result c.make_adding.new.self (adding_made special s c.args.client
    c.args.number n c.args.payload)) hashed (subst (λ (bytes : List ℕ). Leads s c.make_adding.result
    c.make_adding.new.self (adding_made special s c.args.client c.args.number c.hashed-name.result bytes))
    (c.new-payload.ensures ∙ c.into_vec.ensures) c.make_adding.ensures) in
    subst (Leads s c.make_adding.result c.make_adding.new.self) (sym same) told
