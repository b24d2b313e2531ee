use Rattle.std.proofs.{Common.{◌∙◌, ◌≡◌, ap, Ok, subst, sym, w32, ℕ}, lemmas.Int.to_z-of_z}
use Rattle.krs_types.specs.{Rights.WRITE, declared.rights.Want.TheVariants.Granted}
use Rattle.krs_model.specs.{Lookup.look_up, Outcome.Is}
use Rattle.krs_links.specs.Links.{serial_named, serials}
use Rattle.krs_keys.specs.Keys.{seen}
use Rattle.krs_tables.proofs.Definitions.{place_told}
use Rattle.krs_key_asks.specs.Places.{meant}
use Rattle.krs_key_asks.proofs.adding.place_of.Goals as goal
use Rattle.krs_model.specs.Asks.Adding as model

pub returns-in-Links-clause-place : goal.returns-in-Links-clause-place
returns-in-Links-clause-place c =
    let s = c.args.tables.now in
    let x = c.args.context.now in
    let links = c.in-Links.links in
    let passed = to_z-of_z w32 c.args.ring c.ranges.ring in
    let found : look_up s x c.args.ring (Granted WRITE) ≡ Ok (c.in_ok-ring.ring, seen c.in_ok-ring.key.now) =
    ap (λ id. look_up s x id (Granted WRITE)) (sym passed) ∙ c.in_ok-ring.ensures.found in
    let told =
    place_told s x c.args.name.now c.args.ring c.in_ok-ring.ring c.in_ok-ring.key.now links found c.in-Links.is
    c.in_ok-ring.ensures.named in
    let key = seen c.in_ok-ring.key.now in
    let asked : model.by_match s x (c.new.result, key) (serials links) c.find_hashed.result
    ≡ model.by_match s x (c.in_ok-ring.ring, key) (serials links) (serial_named links c.args.name.now) =
    ap (λ (r : ℕ). model.by_match s x (r, key) (serials links) c.find_hashed.result) c.new.ensures
    ∙ ap (model.by_match s x (c.in_ok-ring.ring, key) (serials links)) c.find_hashed.ensures in
    subst (Is meant c.by_match.result) (asked ∙ sym told) c.by_match.ensures.place
