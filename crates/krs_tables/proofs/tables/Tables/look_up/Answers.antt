use Rattle.std.proofs.{Common.{◌∙◌, ap, Ok, option_copied, sym, w32, ℕ}, lemmas.Int.to_z-of_z}
use Rattle.krs_model.specs.{Access.is_over, Lookup.serial_of, State.State}
use Rattle.krs_keys.specs.Keys.{seen}
use Rattle.krs_keys.proofs.KeysLemmas.{finds_by_name}
use Rattle.krs_tables.proofs.KeptKeys.{granted_usable, kept_nowhere, kept_there, looked_for, looked_up, over_usable}
use Rattle.krs_tables.proofs.KeptKeys.{refused_usable, revoked_usable}
use Rattle.krs_tables.proofs.tables.Tables.look_up.Goals as goal

pub returns-in_default-clause-found : goal.returns-in_default-clause-found
returns-in_default-clause-found c =
    looked_for c.args.self.now c.args.context.now c.args.id c.args.want c.in_ok-serial.serial
    (ap (serial_of c.args.self.now c.args.context.now) (sym (to_z-of_z w32 c.args.id c.ranges.id))
    ∙ c.in_ok-serial.ensures)
    (kept_nowhere c.self.inside c.args.self.now c.in_ok-serial.serial c.self.view_is
    (sym c.get.ensures ∙ ap option_copied c.in_default.is))

pub returns-then-key-clause-found : goal.returns-then-key-clause-found
returns-then-key-clause-found c =
    let t = c.args.self.now in
    let n = c.in_ok-serial.serial in
    let key = seen c.in-Some.key.now in
    looked_up t c.args.context.now c.args.id c.args.want n key
    (ap (serial_of t c.args.context.now) (sym (to_z-of_z w32 c.args.id c.ranges.id)) ∙ c.in_ok-serial.ensures)
    (kept_there c.self.inside t n c.in-Some.key.now c.self.view_is (sym c.get.ensures ∙ ap option_copied c.in-Some.is))
    ∙ revoked_usable t c.args.context.now c.args.want n key c.if-key.true

pub returns-then-is_over-clause-found : goal.returns-then-is_over-clause-found
returns-then-is_over-clause-found c =
    let t = c.args.self.now in
    let n = c.in_ok-serial.serial in
    let key = seen c.in-Some.key.now in
    let over = ap (λ (s : State). is_over s.clock key.expiry) (sym c.self.view_is)
    ∙ (sym c.is_over.ensures ∙ c.if-is_over.true) in
    looked_up t c.args.context.now c.args.id c.args.want n key
    (ap (serial_of t c.args.context.now) (sym (to_z-of_z w32 c.args.id c.ranges.id)) ∙ c.in_ok-serial.ensures)
    (kept_there c.self.inside t n c.in-Some.key.now c.self.view_is (sym c.get.ensures ∙ ap option_copied c.in-Some.is))
    ∙ over_usable t c.args.context.now c.args.want n key c.if-key.false over

pub grants-requires : goal.grants-requires
grants-requires c =
    kept_there c.self.inside c.args.self.now c.in_ok-serial.serial c.in-Some.key.now c.self.view_is
    (sym c.get.ensures ∙ ap option_copied c.in-Some.is)

pub returns-then-not-grants-clause-found : goal.returns-then-not-grants-clause-found
returns-then-not-grants-clause-found c =
    let t = c.args.self.now in
    let n = c.in_ok-serial.serial in
    let key = seen c.in-Some.key.now in
    let under = ap (λ (s : State). is_over s.clock key.expiry) (sym c.self.view_is)
    ∙ (sym c.is_over.ensures ∙ c.if-is_over.false) in
    looked_up t c.args.context.now c.args.id c.args.want n key
    (ap (serial_of t c.args.context.now) (sym (to_z-of_z w32 c.args.id c.ranges.id)) ∙ c.in_ok-serial.ensures)
    (kept_there c.self.inside t n c.in-Some.key.now c.self.view_is (sym c.get.ensures ∙ ap option_copied c.in-Some.is))
    ∙ refused_usable t c.args.context.now c.args.want n key c.if-key.false under
    (sym c.grants.ensures ∙ c.if-not-grants.true)

pub returns-clause-found : goal.returns-clause-found
returns-clause-found c =
    let t = c.args.self.now in
    let n = c.in_ok-serial.serial in
    let key = seen c.in-Some.key.now in
    let under = ap (λ (s : State). is_over s.clock key.expiry) (sym c.self.view_is)
    ∙ (sym c.is_over.ensures ∙ c.if-is_over.false) in
    looked_up t c.args.context.now c.args.id c.args.want n key
    (ap (serial_of t c.args.context.now) (sym (to_z-of_z w32 c.args.id c.ranges.id)) ∙ c.in_ok-serial.ensures)
    (kept_there c.self.inside t n c.in-Some.key.now c.self.view_is (sym c.get.ensures ∙ ap option_copied c.in-Some.is))
    ∙ (granted_usable t c.args.context.now c.args.want n key c.if-key.false under
    (sym c.grants.ensures ∙ c.if-not-grants.false)
    ∙ ap (λ (m : ℕ). Ok (m, key)) (sym c.number.ensures))

pub returns-clause-named : goal.returns-clause-named
returns-clause-named c =
    rw (← c.self.view_is) (finds_by_name c.self.inside.keys.keys c.in_ok-serial.serial c.in-Some.key.now
    c.self.invariant.fit (sym c.get.ensures ∙ ap option_copied c.in-Some.is))
