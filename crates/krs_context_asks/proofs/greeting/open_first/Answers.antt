use Rattle.std.proofs.Common.{[], ◌+◌, ◌∙◌, ◌∷◌, ◌≡◌, ◌≤◌, ap, arith, codes, IsOk, None, Ok, Option, refl, Some, subst}
use Rattle.std.proofs.Common.{sym, ℕ}
use Rattle.krs_types.specs.declared.{ask.Answer.TheVariants.Number, context.UidRings.UidRings}
use Rattle.krs_model.specs.{Asks.Hello.hello, State.State, Sweep.roots, Table.{at, IsBelow, put}}
use Rattle.krs_model.proofs.Tables.Changes.{below_put}
use Rattle.krs_ctx.specs.{Anchors.{anchored, Anchors}, Told.greeted}
use Rattle.krs_ctx.proofs.HelloLemmas.{greeted_opens, hello_done, hello_fails}
use Rattle.krs_links.specs.Links.{serials}
use Rattle.krs_keys.specs.{Keys.{IsOfKind, named_links_of_content, shown}, Table.Keys, declared.key.Key.Key}
use Rattle.krs_hold.specs.Tally.{AreExact, times}
use Rattle.krs_tables.specs.{Making.uid_key, View.{IsConsistent, state_of}}
use Rattle.krs_tables.proofs.{Definitions.first_told, OwedHolders.{first_counted, first_tallied, first_times, room_on}}
use Rattle.krs_context_asks.proofs.EnteredHolders.{refused_stays}
use Rattle.krs_context_asks.proofs.greeting.open_first.Goals as goal

pub returns-in_err-number : goal.returns-in_err-number
returns-in_err-number c =
    let accepted : IsOk (hello (state_of c.tables.inside) c.args.client c.args.caller) =
    subst (λ (t : State). IsOk (hello t c.args.client c.args.caller)) (sym c.tables.view_is) c.requires.accepted in
    rw (← c.tables.view_is)
    (hello_fails (state_of c.tables.inside) c.tables.inside.contexts c.hello.new.self c.args.client c.args.caller
    (Some (record { user = Some c.new-one.result; session = Some c.new-two.result }))
    c.from_residual-in_err-number.result c.in_err-number.field-0.0 c.requires.known accepted
    c.from_residual-in_err-number.ensures.1 c.in_err-number.ensures.done)

pub hold_twice-requires-in-Ok : goal.hold_twice-requires-in-Ok
hold_twice-requires-in-Ok c =
    let one = c.new-one.ensures in
    let two = c.new-two.ensures in
    room_on c.make_room-2.new.holders c.hold_twice.new.holders c.new-one.result c.new-two.result 18446744073709551615
    (λ same. absurd (omega (arith, one, two, same))) c.hold_twice.ensures c.in_ok-make_room-2.ensures.room

pub invariant_of-tables-in-Ok : goal.invariant_of-tables-in-Ok
invariant_of-tables-in-Ok c =
    let s = c.tables.inside in
    let base = state_of s in
    let es = s.keys.keys in
    let n = s.keys.next in
    let m = base.next_context in
    let x = c.args.caller in
    let a = c.args.user in
    let b = c.args.session in
    let mid = c.hello.new.self in
    let here : n ≤ n = omega arith in
    let unused = c.next-first.ensures.unused in
    let next : c.args.tables.now.next_serial ≡ n = ap (λ (t : State). t.next_serial) (sym c.tables.view_is) in
    let made : b ≡ uid_key (codes "_uid_ses.") ((a.name, n) ∷ []) x =
    c.requires.session ∙ ap (λ k. uid_key (codes "_uid_ses.") ((a.name, k) ∷ []) x) next in
    let told = first_told s c.insert_two.new.self x a b c.tables.invariant unused c.requires.user made
    c.in-Ok.ensures.ok in
    let one : c.new-one.result ≡ n = c.new-one.ensures ∙ c.next-first.ensures.value in
    let two : c.new-two.result ≡ n + 1 = c.new-two.ensures ∙ ap (λ z. z + 1) c.next-first.ensures.value in
    let rings : UidRings = record { user = Some c.new-one.result; session = Some c.new-two.result } in
    let opens = greeted_opens s.contexts mid c.args.client x (Some rings) c.in_ok-number.number
    c.in_ok-number.ensures.done in
    let no_context : at base.contexts m ≡ None =
    subst (λ (t : State). at t.contexts t.next_context ≡ None) (sym c.tables.view_is) c.requires.context in
    let no_process : at base.processes m ≡ None =
    subst (λ (t : State). at t.processes t.next_context ≡ None) (sym c.tables.view_is) c.requires.process in
    let no_uid : at base.uids x.uid ≡ None =
    subst (λ (t : State). at t.uids x.uid ≡ None) (sym c.tables.view_is) c.requires.absent in
    let after = roots (anchored base mid) in
    let attach : (q : ℕ) → times q after ≡ times q ((n + 1) ∷ (n + 1) ∷ n ∷ []) + times q (roots base) = λ q.
    ap (λ (t : State). times q (roots t)) (opens base)
    ∙ first_times base.contexts base.processes base.uids m x.uid n (n + 1) _ rings no_context no_process no_uid refl
    (ap Some two) (ap Some one) (ap Some two) q in
    let none : at es n ≡ None = unused n here in
    let below : IsBelow (put es n a) (n + 1) = below_put es _ n a refl unused in
    record {
      fit = told.fit;
      kinds = told.kinds;
      tallied =
          subst (λ (k : Keys). AreExact k.keys c.hold_twice-in-Ok.new.holders after) (sym c.in-Ok.ensures.ok)
          (first_counted (shown (put (put es n a) (n + 1) b)) after s.holders _ _ _ _ n (n + 1) c.new-one.result
          c.new-two.result one two c.in_ok-make_room.ensures.ok c.in_ok-make_room-2.ensures.ok c.hold_twice.ensures
          c.hold_twice-in-Ok.ensures
          (first_tallied es (roots base) after s.holders n (n + 1) a b none (below (n + 1) (omega arith))
          (ap (λ (k : Key). named_links_of_content k.content) c.requires.user)
          (ap (λ (k : Key). serials (named_links_of_content k.content)) made) attach c.tables.invariant.tallied));
    }

pub returns-in-Ok : goal.returns-in-Ok
returns-in-Ok c =
    let s = c.tables.inside in
    let base = state_of s in
    let n = s.keys.next in
    let x = c.args.caller in
    let a = c.args.user in
    let b = c.args.session in
    let mid = c.hello.new.self in
    let next : c.args.tables.now.next_serial ≡ n = ap (λ (t : State). t.next_serial) (sym c.tables.view_is) in
    let few : n ≤ 2147483646 =
    subst (λ (t : State). t.next_serial ≤ 2147483646) (sym c.tables.view_is) c.requires.serials in
    let made : b ≡ uid_key (codes "_uid_ses.") ((a.name, n) ∷ []) x =
    c.requires.session ∙ ap (λ k. uid_key (codes "_uid_ses.") ((a.name, k) ∷ []) x) next in
    let told =
    first_told s c.insert_two.new.self x a b c.tables.invariant c.next-first.ensures.unused c.requires.user made
    c.in-Ok.ensures.ok in
    let no_uid : at base.uids x.uid ≡ None =
    subst (λ (t : State). at t.uids x.uid ≡ None) (sym c.tables.view_is) c.requires.absent in
    let one : c.new-one.result ≡ n = c.new-one.ensures ∙ c.next-first.ensures.value in
    let two : c.new-two.result ≡ n + 1 = c.new-two.ensures ∙ ap (λ z. z + 1) c.next-first.ensures.value in
    let given : Some (record { user = Some c.new-one.result; session = Some c.new-two.result })
    ≡ Some (record { user = Some n; session = Some (n + 1) }) = rw (one, two) refl in
    let accepted : (q : State)
    → greeted (anchored q s.contexts) c.args.client x (Some (record { user = Some n; session = Some (n + 1) }))
    ≡ Ok (anchored q mid, Number c.in_ok-number.number) = λ q.
    ap (λ (r : Option UidRings). greeted (anchored q s.contexts) c.args.client x r) (sym given)
    ∙ c.in_ok-number.ensures.done q in
    rw (← c.tables.view_is)
    (hello_done base s.contexts mid c.args.client x c.in_ok-number.number c.requires.known no_uid few accepted
    ∙ rw (told.is, told.next) refl)

pub insert_two-requires-clause-first : goal.insert_two-requires-clause-first
insert_two-requires-clause-first c = subst (λ (k : Key). IsOfKind k.name.kind k.content) (sym c.requires.user) refl

pub insert_two-requires-clause-second : goal.insert_two-requires-clause-second
insert_two-requires-clause-second c =
    subst (λ (k : Key). IsOfKind k.name.kind k.content) (sym c.requires.session) refl

pub invariant_of-tables-in_err-number : goal.invariant_of-tables-in_err-number
invariant_of-tables-in_err-number c =
    let s = c.tables.inside in
    let exact = c.in_ok-make_room.ensures.exact s.keys.keys (roots (state_of s)) c.tables.invariant.tallied in
    subst (λ (t : Anchors). IsConsistent (record s { contexts = t; holders = c.make_room-2.new.holders }))
    (sym (refused_stays s.contexts c.hello.new.self c.in_err-number.field-0.0 _ c.in_err-number.ensures.done))
    (record {
      fit = c.tables.invariant.fit;
      kinds = c.tables.invariant.kinds;
      tallied = c.in_ok-make_room-2.ensures.exact s.keys.keys (roots (state_of s)) exact;
    })

pub invariant_of-tables-in-Err : goal.invariant_of-tables-in-Err
invariant_of-tables-in-Err c =
    let s = c.tables.inside in
    let exact = c.in_ok-make_room.ensures.exact s.keys.keys (roots (state_of s)) c.tables.invariant.tallied in
    let no_uid : at (state_of s).uids c.args.caller.uid ≡ None =
    subst (λ (t : State). at t.uids c.args.caller.uid ≡ None) (sym c.tables.view_is) c.requires.absent in
    let back : c.take_back.new.self ≡ s.contexts = c.take_back.ensures ∙ c.in_ok-number.ensures.back no_uid in
    subst
    (λ (t : Keys × Anchors).
    IsConsistent (record s { keys = t.0; contexts = t.1; holders = c.make_room-2.new.holders }))
    (λ i. (sym c.in-Err.ensures.err i, sym back i))
    (record {
      fit = c.tables.invariant.fit;
      kinds = c.tables.invariant.kinds;
      tallied = c.in_ok-make_room-2.ensures.exact s.keys.keys (roots (state_of s)) exact;
    })
