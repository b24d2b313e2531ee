use Rattle.std.proofs.Common.{◌∙◌, ◌≡◌, ap, Err, Ok, subst, sym, w32, ℕ}
use Rattle.std.proofs.lemmas.{Int.to_z-of_z, Result.err_from_is_err_and}
use Rattle.krs_types.specs.{Rights.WRITE, declared.rights.Want.TheVariants.Granted}
use Rattle.krs_model.specs.{Lookup.look_up, Outcome.Leads, State.Key}
use Rattle.krs_keys.specs.Keys.{seen}
use Rattle.krs_ring_asks.proofs.LinkAndUnlink.{found_is_ring, found_ring}
use Rattle.krs_ring_asks.proofs.SearchAndRequest.{search_links, search_no_ring, search_unlooked, seeks, wanted_of}
use Rattle.krs_ring_asks.proofs.SearchWithMade.{search_new_links, search_new_refused, seeks_new}
use Rattle.krs_ring_asks.proofs.finding.search_named.Goals as goal

pub link_found-requires : goal.link_found-requires
link_found-requires c =
    let ring : ℕ × Key = (c.in_ok-into.into, seen c.in_ok-into.ring.now) in
    record {
      ring = found_is_ring c.args.tables.now ring
          (found_ring c.args.tables.now c.in_ok-context.context.now _ ring _ c.in_ok-into.ensures.found
          c.in_ok-links_of-2.ensures);
    }

pub returns-in_err-into-clause-step : goal.returns-in_err-into-clause-step
returns-in_err-into-clause-step c =
    let s = c.args.tables.now in
    let x = c.in_ok-context.context.now in
    let from : ℕ × Key = (c.in_ok-head.head, seen c.in_ok-head.from.now) in
    let l = seeks s c.args.client c.args.number c.args.head c.args.name.now c.args.dest x
    c.in_ok-name.name.now from c.ranges.head c.ranges.dest c.in_ok-context.ensures c.in_ok-name.ensures
    c.in_ok-head.ensures.found c.if-dest-eq0.false c.in_default.ensures.made in
    let unlooked : look_up s x c.args.dest (Granted WRITE) ≡ Err c.in_err-into.field-0.0 =
    rw (sym (to_z-of_z w32 c.args.dest c.ranges.dest)) c.in_err-into.ensures.found in
    let told = search_unlooked s c.args.client c.args.number c.args.head c.args.name.now c.args.dest x
    c.in_ok-name.name.now from c.in_err-into.field-0.0 l unlooked in
    let answer = err_from_is_err_and c.from_residual-in_err-into.result c.from_residual-in_err-into.ensures.1 in
    rw (answer.1, answer.2) told

pub returns-in_err-links_of-2-clause-step : goal.returns-in_err-links_of-2-clause-step
returns-in_err-links_of-2-clause-step c =
    let s = c.args.tables.now in
    let x = c.in_ok-context.context.now in
    let from : ℕ × Key = (c.in_ok-head.head, seen c.in_ok-head.from.now) in
    let into : ℕ × Key = (c.in_ok-into.into, seen c.in_ok-into.ring.now) in
    let l = seeks s c.args.client c.args.number c.args.head c.args.name.now c.args.dest x
    c.in_ok-name.name.now from c.ranges.head c.ranges.dest c.in_ok-context.ensures c.in_ok-name.ensures
    c.in_ok-head.ensures.found c.if-dest-eq0.false c.in_default.ensures.made in
    let into_found : look_up s x c.args.dest (Granted WRITE) ≡ Ok into =
    ap (λ id. look_up s x id (Granted WRITE)) (sym (to_z-of_z w32 c.args.dest c.ranges.dest))
    ∙ c.in_ok-into.ensures.found in
    let told = search_no_ring s c.args.client c.args.number c.args.head c.args.name.now c.args.dest x
    c.in_ok-name.name.now from into _ c.in_err-links_of-2.field-0.0 l into_found c.in_ok-links_of.ensures
    c.in_err-links_of-2.ensures in
    let answer = err_from_is_err_and c.from_residual-in_err-links_of-2.result
    c.from_residual-in_err-links_of-2.ensures.1 in
    rw (answer.1, answer.2) told

pub returns-clause-step : goal.returns-clause-step
returns-clause-step c =
    let s = c.args.tables.now in
    let x = c.in_ok-context.context.now in
    let from : ℕ × Key = (c.in_ok-head.head, seen c.in_ok-head.from.now) in
    let into : ℕ × Key = (c.in_ok-into.into, seen c.in_ok-into.ring.now) in
    let l = seeks s c.args.client c.args.number c.args.head c.args.name.now c.args.dest x
    c.in_ok-name.name.now from c.ranges.head c.ranges.dest c.in_ok-context.ensures c.in_ok-name.ensures
    c.in_ok-head.ensures.found c.if-dest-eq0.false c.in_default.ensures.made in
    let into_found : look_up s x c.args.dest (Granted WRITE) ≡ Ok into =
    ap (λ id. look_up s x id (Granted WRITE)) (sym (to_z-of_z w32 c.args.dest c.ranges.dest))
    ∙ c.in_ok-into.ensures.found in
    let is = found_ring s x c.args.dest into _ into_found c.in_ok-links_of-2.ensures in
    let same = search_links s c.args.client c.args.number c.args.head c.args.name.now c.args.dest x
    c.in_ok-name.name.now from into _ c.in_ok-serial-2.serial l into_found c.in_ok-links_of.ensures is
    c.in_ok-serial-2.ensures in
    subst (Leads s c.link_found.result c.link_found.new.tables) (sym same) c.link_found.ensures

pub returns-in_err-serial-clause-step : goal.returns-in_err-serial-clause-step
returns-in_err-serial-clause-step c =
    let s = c.args.tables.now in
    let x = c.in_ok-context.context.now in
    let from : ℕ × Key = (c.in_ok-head.head, seen c.in_ok-head.from.now) in
    let l = seeks_new c.in-Some.special s c.args.client c.args.number c.args.head c.args.name.now
    c.args.dest x c.in_ok-name.name.now from c.requires.sound c.ranges.head c.ranges.dest c.in_ok-context.ensures
    c.in_ok-name.ensures
    c.in_ok-head.ensures.found c.if-dest-eq0.false c.in-Some.ensures.makes in
    let told = search_new_refused c.in-Some.special s c.args.client c.args.number c.args.head c.args.name.now
    c.args.dest x c.in_ok-name.name.now from c.in_err-serial.field-0.0 l c.in_err-serial.ensures in
    let answer = err_from_is_err_and c.from_residual-in_err-serial.result c.from_residual-in_err-serial.ensures.1 in
    rw (answer.1, answer.2) told

pub returns-in-Some-clause-step : goal.returns-in-Some-clause-step
returns-in-Some-clause-step c =
    let s = c.args.tables.now in
    let x = c.in_ok-context.context.now in
    let from : ℕ × Key = (c.in_ok-head.head, seen c.in_ok-head.from.now) in
    let l = seeks_new c.in-Some.special s c.args.client c.args.number c.args.head c.args.name.now
    c.args.dest x c.in_ok-name.name.now from c.requires.sound c.ranges.head c.ranges.dest c.in_ok-context.ensures
    c.in_ok-name.ensures
    c.in_ok-head.ensures.found c.if-dest-eq0.false c.in-Some.ensures.makes in
    let same = search_new_links c.in-Some.special s c.args.client c.args.number c.args.head c.args.name.now c.args.dest
    x c.in_ok-name.name.now from c.in_ok-serial.serial l c.in_ok-serial.ensures in
    subst (Leads s c.link_found_new.result c.link_found_new.new.tables) (sym same) c.link_found_new.ensures

pub returns-clause-memory : goal.returns-clause-memory
returns-clause-memory c = λ _. wanted_of c.args.dest c.if-dest-eq0.false

pub returns-in-Some-clause-memory : goal.returns-in-Some-clause-memory
returns-in-Some-clause-memory c = λ _. wanted_of c.args.dest c.if-dest-eq0.false
