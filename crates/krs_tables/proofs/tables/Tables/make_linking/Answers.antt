use Rattle.std.proofs.Common.{◌∙◌, ◌≡◌, ap, Bor, false, option_map, refl, Some, subst, sym}
use Rattle.krs_model.specs.{Asks.Linked.name_of, Reach.{has_chain, nesting_depth}, State.State, Table.at}
use Rattle.krs_keys.specs.{Keys.seen, declared.key.Key.Key}
use Rattle.krs_tables.proofs.{MadeKeyrings.{has_place, linking_accepted, linking_done}, Wanting.wanting_as}
use Rattle.krs_tables.proofs.tables.Tables.make_linking.Goals as goal

pub make_ring-requires-clause-place : goal.make_ring-requires-clause-place
make_ring-requires-clause-place c =
    has_place c.args.special c.args.self.now c.args.client c.args.number c.in_ok-context_of.field-0.now
    c.of-maker.result c.requires.sound c.in_ok-context_of.ensures c.of-maker.ensures c.requires.missing

pub returns : goal.returns
returns c =
    let s = c.args.self.now in
    let short : has_chain s.keys c.args.serial nesting_depth ≡ false =
    subst (λ (t : State). has_chain t.keys c.args.serial nesting_depth ≡ false) c.self.view_is
    c.in_ok-_height.ensures.shallow in
    let there : at s.keys c.args.serial ≡ Some (seen c.in_ok-key.key.now) =
    sym c.key.ensures.value ∙ ap (option_map (λ (k : Bor Key). seen k.now)) c.in_ok-key.ensures.ok_part in
    linking_done c.args.special s c.make_ring.new.self c.args.client c.args.number c.args.serial
    c.in_ok-context_of.field-0.now c.of-maker.result (seen c.in_ok-key.key.now) c.args.answer
    c.in_ok-context_of.ensures
    c.of-maker.ensures there short c.in_ok-check_serial.ensures.ok c.in_ok-make_ring.ensures.ok

pub returns-in_err-links : goal.returns-in_err-links
returns-in_err-links c =
    let s = c.args.self.now in
    let short : has_chain s.keys c.args.serial nesting_depth ≡ false =
    subst (λ (t : State). has_chain t.keys c.args.serial nesting_depth ≡ false) c.self.view_is
    c.in_ok-_height.ensures.shallow in
    let there : at s.keys c.args.serial ≡ Some (seen c.in_ok-key.key.now) =
    sym c.key.ensures.value ∙ ap (option_map (λ (k : Bor Key). seen k.now)) c.in_ok-key.ensures.ok_part in
    wanting_as s s _ _ c.from_residual-in_err-links.ensures.1
    (linking_accepted c.args.special s c.args.client c.args.number c.args.serial c.in_ok-context_of.field-0.now
    (seen c.in_ok-key.key.now) c.args.answer c.in_ok-context_of.ensures there short c.in_ok-check_serial.ensures.ok)
    refl

pub returns-in_err-make_ring : goal.returns-in_err-make_ring
returns-in_err-make_ring c =
    let s = c.args.self.now in
    let short : has_chain s.keys c.args.serial nesting_depth ≡ false =
    subst (λ (t : State). has_chain t.keys c.args.serial nesting_depth ≡ false) c.self.view_is
    c.in_ok-_height.ensures.shallow in
    let there : at s.keys c.args.serial ≡ Some (seen c.in_ok-key.key.now) =
    sym c.key.ensures.value ∙ ap (option_map (λ (k : Bor Key). seen k.now)) c.in_ok-key.ensures.ok_part in
    wanting_as _ _ _ _ c.from_residual-in_err-make_ring.ensures.1
    (linking_accepted c.args.special s c.args.client c.args.number c.args.serial c.in_ok-context_of.field-0.now
    (seen c.in_ok-key.key.now) c.args.answer c.in_ok-context_of.ensures there short c.in_ok-check_serial.ensures.ok)
    c.in_err-make_ring.ensures.err

pub make_ring-requires-clause-links : goal.make_ring-requires-clause-links
make_ring-requires-clause-links c =
    let there : at c.args.self.now.keys c.args.serial ≡ Some (seen c.in_ok-key.key.now) =
    sym c.key.ensures.value ∙ ap (option_map (λ (k : Bor Key). seen k.now)) c.in_ok-key.ensures.ok_part in
    (c.in_ok-key.key.now.name, ap (option_map name_of) there, c.in_ok-links.ensures)
