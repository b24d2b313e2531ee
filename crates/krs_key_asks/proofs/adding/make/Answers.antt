use Rattle.std.proofs.Common.{[], ◌+◌, ◌∙◌, ◌≡◌, ◌≤◌, ap, arith, Option, option_to_list, subst, sym, ℕ}
use Rattle.krs_types.specs.declared.name.Name.{Name}
use Rattle.krs_model.specs.{Asks.Adding.{IsKeyringAt, made}, State.State, Sweep.roots, Table.{alter, put, Table}}
use Rattle.krs_keys.specs.{Keys.{displaced_at, IsOfKind, seen, shown, with_entry}, Table.Keys, declared.key.Key.Key}
use Rattle.krs_hold.specs.Tally.{all_less, AreExact, one_less, one_more, with_number}
use Rattle.krs_hold.proofs.Tallies.{some_with, tallied_hold, tallied_let_go, tallied_with}
use Rattle.krs_tables.specs.{Making.maker_key, View.{IsConsistent, state_of}, declared.tables.Tables.TheInside.Inside}
use Rattle.krs_tables.proofs.Definitions.{first_kind, made_told, seen-maker_key}
use Rattle.krs_tables.proofs.OwedHolders.{first_links, made_tallied}
use Rattle.krs_key_asks.proofs.adding.make.Goals as goal

-- a holder that was counted for a key that is not made lets go of it again
held_sound : (s : Inside) (numbers fewer : Table ℕ) (k : ℕ) → IsConsistent s
    → numbers ≡ one_more k (with_number k s.holders) → fewer ≡ one_less k numbers
    → IsConsistent (record s { holders = fewer })
held_sound s numbers fewer k sound e f = record {
  fit = sound.fit;
  kinds = sound.kinds;
  tallied = subst (λ (zs : Table ℕ). AreExact s.keys.keys zs (roots (state_of s))) (sym (f ∙ ap (one_less k) e))
      (tallied_let_go (shown s.keys.keys) (roots (state_of s)) [] (one_more k (with_number k s.holders)) k
      (tallied_hold (shown s.keys.keys) (roots (state_of s)) [] (with_number k s.holders) k (some_with s.holders k)
      (tallied_with (shown s.keys.keys) (roots (state_of s)) [] s.holders k sound.tallied)));
}

pub invariant_of-tables-in-Err : goal.invariant_of-tables-in-Err
invariant_of-tables-in-Err c =
    subst (λ (k : Keys). IsConsistent (record c.tables.inside { keys = k; holders = c.let_go.new.self }))
    (sym c.in-Err.ensures.err)
    (held_sound c.tables.inside c.made_held.new.self c.let_go.new.self c.new-serial.result c.tables.invariant
    c.in-Ok.ensures.ok c.let_go.ensures)

pub invariant_of-tables-in-Ok-insert_linked : goal.invariant_of-tables-in-Ok-insert_linked
invariant_of-tables-in-Ok-insert_linked c =
    let s = c.tables.inside in
    let es = s.keys.keys in
    let n = s.keys.next in
    let key = maker_key c.args.name c.args.payload c.args.uid c.args.gid in
    let after : Key → Name → Keys = λ k l.
    record { keys = alter (put es n k) c.args.ring (with_entry l n); next = n + 1 } in
    let here : c.insert_linked.new.self ≡ after key c.args.name =
    c.in-Ok-insert_linked.ensures.ok
    ∙ (ap (λ k. after k c.in_ok-link.link) c.new_key-key.ensures ∙ ap (after key) c.in_ok-link.ensures) in
    let displaced : c.in-Ok-insert_linked.displaced ≡ displaced_at (put es n key) c.args.ring c.args.name =
    c.in-Ok-insert_linked.ensures.displaced
    ∙ (ap (λ (k : Key). displaced_at (put es n k) c.args.ring c.in_ok-link.link) c.new_key-key.ensures
    ∙ ap (displaced_at (put es n key) c.args.ring) c.in_ok-link.ensures) in
    let ring : IsKeyringAt (state_of s) c.args.ring =
    subst (λ (t : State). IsKeyringAt t c.args.ring) (sym c.tables.view_is) c.requires.ring in
    let told =
    made_told s c.insert_linked.new.self c.args.ring c.args.name c.args.payload c.args.uid c.args.gid
    c.tables.invariant c.next.ensures.unused ring here in
    let here_n : n ≤ n = omega arith in
    let serial : c.new-serial.result ≡ n = c.new-serial.ensures ∙ c.next.ensures.value in
    let numbers : c.let_go_of.new.self ≡ all_less (option_to_list
    (displaced_at (put es n key) c.args.ring c.args.name)) (one_more n (with_number n s.holders)) =
    c.let_go_of.ensures
    ∙ (ap (all_less (option_to_list c.in-Ok-insert_linked.displaced))
    (c.in-Ok.ensures.ok ∙ ap (λ k. one_more k (with_number k s.holders)) serial)
    ∙ ap (λ (o : Option ℕ). all_less (option_to_list o) (one_more n (with_number n s.holders))) displaced) in
    record {
      fit = told.fit;
      kinds = told.kinds;
      tallied = subst (λ (zs : Table ℕ). AreExact c.insert_linked.new.self.keys zs (roots (state_of s))) (sym numbers)
          (subst (λ (k : Keys). AreExact k.keys (all_less (option_to_list
          (displaced_at (put es n key) c.args.ring c.args.name)) (one_more n (with_number n s.holders)))
          (roots (state_of s))) (sym here)
          (made_tallied s (roots (state_of s)) c.args.ring c.args.name key (c.next.ensures.unused n here_n)
          (first_links c.args.name.kind c.args.payload) ring c.tables.invariant.tallied));
    }

pub returns-in-Ok-insert_linked-clause-ok : goal.returns-in-Ok-insert_linked-clause-ok
returns-in-Ok-insert_linked-clause-ok c =
    let s = c.tables.inside in
    let es = s.keys.keys in
    let n = s.keys.next in
    let key = maker_key c.args.name c.args.payload c.args.uid c.args.gid in
    let after : Key → Name → Keys = λ k l.
    record { keys = alter (put es n k) c.args.ring (with_entry l n); next = n + 1 } in
    let here : c.insert_linked.new.self ≡ after key c.args.name =
    c.in-Ok-insert_linked.ensures.ok
    ∙ (ap (λ k. after k c.in_ok-link.link) c.new_key-key.ensures ∙ ap (after key) c.in_ok-link.ensures) in
    let ring : IsKeyringAt (state_of s) c.args.ring =
    subst (λ (t : State). IsKeyringAt t c.args.ring) (sym c.tables.view_is) c.requires.ring in
    let told =
    made_told s c.insert_linked.new.self c.args.ring c.args.name c.args.payload c.args.uid c.args.gid
    c.tables.invariant c.next.ensures.unused ring here in
    told.is ∙ (ap (λ (t : State). made t c.args.ring c.args.name (seen key)) c.tables.view_is
    ∙ ap (made c.args.tables.now c.args.ring c.args.name) (seen-maker_key c.args.name c.args.payload c.args.uid
    c.args.gid))

pub insert_linked-requires : goal.insert_linked-requires
insert_linked-requires c =
    subst (λ (k : Key). IsOfKind k.name.kind k.content) (sym c.new_key-key.ensures)
    (first_kind c.args.name.kind c.args.payload)
