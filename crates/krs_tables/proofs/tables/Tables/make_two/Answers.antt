use Rattle.std.proofs.Common.{[], ◌+◌, ◌∙◌, ap, arith, subst, sym}
use Rattle.krs_model.specs.{Asks.Adding.{made, new_key}, State.State, Sweep.roots}
use Rattle.krs_keys.specs.{Keys.IsOfKind, Table.Keys, declared.key.Key.Key}
use Rattle.krs_tables.specs.{Specials.ring_at, View.{IsConsistent, state_of}}
use Rattle.krs_tables.proofs.{Definitions.first_kind, MadeKeyrings.ring_kind, MadeTwo.{AreMade, room_left, two_made}}
use Rattle.krs_tables.proofs.tables.Tables.make_two.Goals as goal

pub hold-requires-in-Ok : goal.hold-requires-in-Ok
hold-requires-in-Ok c =
    let one = c.new-one.ensures in
    let two = c.new-two.ensures in
    room_left c.make_room-2.new.holders c.hold.new.self c.new-one.result c.new-two.result 18446744073709551615
    (λ same. absurd (omega (arith, one, two, same))) c.hold.ensures c.in_ok-make_room-2.ensures.room

pub invariant_of-self-in-Err : goal.invariant_of-self-in-Err
invariant_of-self-in-Err c =
    let s = c.self.inside in
    let attached = roots (state_of s) in
    subst (λ (k : Keys). IsConsistent (record s { keys = k; holders = c.make_room-2.new.holders }))
    (sym c.in-Err.ensures.err)
    (record {
      fit = c.self.invariant.fit;
      kinds = c.self.invariant.kinds;
      tallied = c.in_ok-make_room-2.ensures.exact s.keys.keys attached
          (c.in_ok-make_room.ensures.exact s.keys.keys attached c.self.invariant.tallied);
    })

-- the two keys are made
told : (c : goal.After-hold-in-Ok) → AreMade c.args.special c.self.inside c.args.maker c.args.name c.args.payload
    (record c.self.inside {
      keys = c.insert_two.new.self;
      contexts = c.attach.new.contexts;
      holders =
          c.hold-in-Ok.new.self;
    })
told c =
    two_made c.args.special c.self.inside c.args.maker c.args.name c.args.payload _ _ _ _ _ _ _ _ _ _
    c.args.self.now c.self.view_is c.self.invariant c.next-first.ensures.unused c.requires.place
    (record {
      first = c.new-one.ensures ∙ c.next-first.ensures.value;
      second = c.new-two.ensures ∙ ap (λ z. z + 1) c.next-first.ensures.value;
      ring_is = c.in_ok-ring.ensures.ring;
      key_is = c.in_ok-ring.ensures.key;
      keys = c.in-Ok.ensures.ok;
      anchors_are = c.attach.ensures;
      room = c.in_ok-make_room.ensures.ok;
      more_room = c.in_ok-make_room-2.ensures.ok;
      held = c.hold.ensures;
      both_held = c.hold-in-Ok.ensures;
    })

pub invariant_of-self-in-Ok : goal.invariant_of-self-in-Ok
invariant_of-self-in-Ok c = (told c).sound

pub returns-in-Ok-clause-ok : goal.returns-in-Ok-clause-ok
returns-in-Ok-clause-ok c =
    (told c).is ∙ ap (λ (t : State). made (ring_at c.args.special c.args.maker [] t) t.next_serial c.args.name
    (new_key c.args.name c.args.payload c.args.maker.uid c.args.maker.gid)) c.self.view_is

pub insert_two-requires-clause-first : goal.insert_two-requires-clause-first
insert_two-requires-clause-first c =
    subst (λ (k : Key). IsOfKind k.name.kind k.content) (sym c.in_ok-ring.ensures.ring) (ring_kind c.args.special)

pub insert_two-requires-clause-second : goal.insert_two-requires-clause-second
insert_two-requires-clause-second c =
    subst (λ (k : Key). IsOfKind k.name.kind k.content) (sym c.in_ok-ring.ensures.key)
    (first_kind c.args.name.kind c.args.payload)
