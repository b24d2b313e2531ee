use Rattle.std.proofs.Common.{◌∙◌, ◌≡◌, ap, arith, option_to_list, subst, sym}
use Rattle.krs_model.specs.{State.State, Sweep.roots}
use Rattle.krs_keys.specs.{Keys.IsOfKind, Table.{Keys, with_key}, declared.key.Key.Key}
use Rattle.krs_hold.specs.Tally.{one_more, with_number}
use Rattle.krs_tables.specs.{Holding.more_of, Specials.{AreLinksTo, attached_as, HasPlace, ring_at, ring_key}}
use Rattle.krs_tables.specs.View.{IsConsistent, state_of}
use Rattle.krs_tables.proofs.MadeKeyrings.{ring_kind, ring_sound, ring_told, room_beside}
use Rattle.krs_tables.proofs.tables.Tables.make_ring.Goals as goal

pub hold_of-requires : goal.hold_of-requires
hold_of-requires c =
    let s = c.self.inside in
    let are = subst (λ (t : State). AreLinksTo t c.args.links c.args.linked) (sym c.self.view_is) c.requires.links in
    room_beside s c.args.links c.args.linked c.new-ring.result c.make_room.new.holders c.hold.new.self
    c.next.ensures.unused are (c.new-ring.ensures ∙ c.next.ensures.value) c.in_ok-make_room.ensures.ok c.hold.ensures
    c.in_ok-check_room.ensures.ok

pub invariant_of-self-in-Ok : goal.invariant_of-self-in-Ok
invariant_of-self-in-Ok c =
    let s = c.self.inside in
    let n = s.keys.next in
    let ring : c.new-ring.result ≡ n = c.new-ring.ensures ∙ c.next.ensures.value in
    let place = subst (HasPlace c.args.special c.args.maker) (sym c.self.view_is) c.requires.place in
    let are = subst (λ (t : State). AreLinksTo t c.args.links c.args.linked) (sym c.self.view_is) c.requires.links in
    let keys : c.insert.new.self ≡ with_key s.keys (ring_key c.args.special c.args.maker c.args.links) =
    c.in-Ok.ensures.ok ∙ ap (with_key s.keys) c.in_ok-key.ensures in
    let contexts : c.attach.new.contexts ≡ attached_as c.args.special c.args.maker n s.contexts =
    c.attach.ensures ∙ ap (λ k. attached_as c.args.special c.args.maker k s.contexts) ring in
    let numbers : c.hold_of.new.holders ≡ more_of c.args.linked (one_more n (with_number n s.holders)) =
    c.hold_of.ensures
    ∙ (ap (more_of c.args.linked) (c.hold.ensures ∙ ap (one_more c.new-ring.result) c.in_ok-make_room.ensures.ok)
    ∙ ap (λ k. more_of c.args.linked (one_more k (with_number k s.holders))) ring) in
    ring_sound s c.args.special c.args.maker c.args.links c.args.linked c.insert.new.self c.attach.new.contexts
    c.hold_of.new.holders c.self.invariant c.next.ensures.unused place are keys contexts numbers

pub returns-in-Ok-clause-ok : goal.returns-in-Ok-clause-ok
returns-in-Ok-clause-ok c =
    let s = c.self.inside in
    let n = s.keys.next in
    let ring : c.new-ring.result ≡ n = c.new-ring.ensures ∙ c.next.ensures.value in
    let are = subst (λ (t : State). AreLinksTo t c.args.links c.args.linked) (sym c.self.view_is) c.requires.links in
    let keys : c.insert.new.self ≡ with_key s.keys (ring_key c.args.special c.args.maker c.args.links) =
    c.in-Ok.ensures.ok ∙ ap (with_key s.keys) c.in_ok-key.ensures in
    let contexts : c.attach.new.contexts ≡ attached_as c.args.special c.args.maker n s.contexts =
    c.attach.ensures ∙ ap (λ k. attached_as c.args.special c.args.maker k s.contexts) ring in
    ring_told s c.args.special c.args.maker c.args.links c.args.linked c.insert.new.self c.attach.new.contexts
    c.hold_of.new.holders are keys contexts
    ∙ ap (ring_at c.args.special c.args.maker (option_to_list c.args.linked)) c.self.view_is

pub insert-requires : goal.insert-requires
insert-requires c =
    subst (λ (k : Key). IsOfKind k.name.kind k.content) (sym c.in_ok-key.ensures) (ring_kind c.args.special)

pub invariant_of-self-in-Err : goal.invariant_of-self-in-Err
invariant_of-self-in-Err c =
    let s = c.self.inside in
    subst (λ (k : Keys). IsConsistent (record s { keys = k; holders = c.make_room.new.holders }))
    (sym c.in-Err.ensures.err)
    (record {
      fit = c.self.invariant.fit;
      kinds = c.self.invariant.kinds;
      tallied = c.in_ok-make_room.ensures.exact s.keys.keys (roots (state_of s)) c.self.invariant.tallied;
    })

pub hold-requires : goal.hold-requires
hold-requires c = omega (arith, c.in_ok-make_room.ensures.room)
