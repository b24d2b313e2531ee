-- A thread or process keyring that is made, and a new key that it links.
use Rattle.std.proofs.Common.{[], ◌+◌, ◌<◌, ◌∙◌, ◌∷◌, ◌≡◌, ◌≤◌, ap, arith, cond, false, is_some, IsOk, List, nat_cmp}
use Rattle.std.proofs.Common.{nat_lt, None, Ok, Option, option_map, option_to_list, refl, Some, subst, sym, true, ℕ}
use Rattle.std.specs.{BTreeMap.is_at, Cmp.{ranked, unsigned_tied}, Ordering.match_ordering}
use Rattle.std.specs.declared.cmp.Ordering.TheVariants.{Equal, Greater, Less}
use Rattle.std.proofs.lemmas.Bool.Decides.{nat_tests}
use Rattle.krs_types.specs.declared.{ask.Answer.TheVariants.Number, context.Context.Context, name.Name.Name}
use Rattle.krs_model.specs.Asks.Adding.{IsKeyringAt, made, new_key}
use Rattle.krs_model.specs.{Lookup.context_of, Sweep.roots, Table.{alter, at, IsBelow, put, Table}}
use Rattle.krs_model.proofs.Tables.Changes.{at_map, at_put_other, at_put_same, below_put}
use Rattle.krs_ctx.specs.Anchors.{Anchors}
use Rattle.krs_keys.specs.Keys.{displaced_at, displaced_by, seen, with_entry}
use Rattle.krs_keys.specs.{Table.{Keys, with_key}, declared.key.Key.Key}
use Rattle.krs_hold.specs.Tally.{all_less, AreExact, number_at, one_more, with_number}
use Rattle.krs_hold.proofs.{Places.{alter_put, is_some_alter}, Tallies.number_other}
use Rattle.krs_tables.specs.Making.{maker_key}
use Rattle.krs_tables.specs.Specials.{adding_made, attached_as, HasPlace, maker_of, ring_at, ring_key}
use Rattle.krs_tables.specs.View.{IsConsistent, state_of}
use Rattle.krs_tables.specs.declared.{making.{Maker.Maker, Special.Special}, tables.Tables.TheInside.Inside}
use Rattle.krs_tables.proofs.{Definitions.{made_told, seen-maker_key}, MadeKeyrings.{ring_alone, ring_sound, ring_told}}
use Rattle.krs_tables.proofs.{OwedHolders.{first_links, made_tallied}, Wanting.accepted}
use Rattle.krs_model.specs.State as model

-- a change at another number, before or after
alter_put_other :
    {X : Type 0} (es : Table X) (k j : ℕ) (v : X) (f : X → X) → is_at (nat_cmp j) k ≡ false
    → alter (put es k v) j f ≡ put (alter es j f) k v
alter_put_other [] k j v f apart = rw apart refl
alter_put_other {X = X} (e ∷ es) k j v f apart =
    elim (nat_cmp k e.0) as (λ r. nat_cmp k e.0 ≡ r
    → alter (match_ordering r ((k, v) ∷ e ∷ es) ((e.0, v) ∷ es) (e ∷ put es k v)) j f
    ≡ put (cond (is_at (nat_cmp j) e.0) ((e.0, f e.1) ∷ es) (e ∷ alter es j f)) k v) [
      | Less ↦ λ t. rw apart (elim (is_at (nat_cmp j) e.0) as (λ b.
          ◌≡◌ {A = Table X} ((k, v) ∷ cond b ((e.0, f e.1) ∷ es) (e ∷ alter es j f))
          (put (cond b ((e.0, f e.1) ∷ es) (e ∷ alter es j f)) k v)) [
            | true ↦ rw t refl
            | false ↦ rw t refl
          ])
      | Equal ↦ λ t.
          let no : is_at (nat_cmp j) e.0 ≡ false =
          subst (λ (z : ℕ). is_at (nat_cmp j) z ≡ false) (ranked k e.0 Equal (sym t)) apart in
          rw no (rw t refl)
      | Greater ↦ λ t. elim (is_at (nat_cmp j) e.0) as (λ b.
          ◌≡◌ {A = Table X} (cond b ((e.0, f e.1) ∷ put es k v) (e ∷ alter (put es k v) j f))
          (put (cond b ((e.0, f e.1) ∷ es) (e ∷ alter es j f)) k v)) [
            | true ↦ rw t refl
            | false ↦ rw t (ap (λ zs. e ∷ zs) (alter_put_other es k j v f apart))
          ]
    ] refl

-- two numbers in a row are apart
before : (n : ℕ) → is_at (nat_cmp n) (n + 1) ≡ false
before n = grind (arith, nat_tests, unsigned_tied n (n + 1))

-- of two entries that are put, the first is changed
alter_two :
    {X : Type 0} (es : Table X) (n : ℕ) (v w : X) (f : X → X)
    → put (put es n (f v)) (n + 1) w ≡ alter (put (put es n v) (n + 1) w) n f
alter_two es n v w f =
    sym (alter_put_other (put es n v) (n + 1) n w f (before n)
    ∙ ap (λ zs. put zs (n + 1) w) (alter_put es n v f))

-- room for another count may be made before
room_before :
    (numbers : Table ℕ) (n m : ℕ) → is_at (nat_cmp n) m ≡ false
    → one_more n (with_number m numbers) ≡ with_number m (one_more n numbers)
room_before numbers n m apart =
    let same : is_some (at (one_more n numbers) m) ≡ is_some (at numbers m) =
    is_some_alter numbers n m (λ z. z + 1) in
    rw same (elim (is_some (at numbers m)) as (λ b. one_more n (cond b numbers (put numbers m 0))
    ≡ cond b (one_more n numbers) (put (one_more n numbers) m 0)) [
      | true ↦ refl
      | false ↦ alter_put_other numbers m n 0 (λ z. z + 1) apart
    ])

-- the store with the keyring made, empty
abbrev pub alone : Special → Inside → Maker → Inside
alone special s maker = record s {
  keys = with_key s.keys (ring_key special maker []);
  contexts = attached_as special maker s.keys.next s.contexts;
  holders = one_more s.keys.next (with_number s.keys.next s.holders);
}

-- the store that has the keyring and the new key
pub record AreMade
    (special : Special) (s : Inside) (maker : Maker) (name : Name) (payload : List ℕ) (t : Inside) : Type 0 where
  pub sound : IsConsistent t
  pub is : state_of t
      ≡ made (ring_at special maker [] (state_of s)) s.keys.next name (new_key name payload maker.uid maker.gid)

-- the keyring and the key under the next two serials, the keyring attached, and each of the two held once
two_told :
    (special : Special) (s : Inside) (maker : Maker) (name : Name) (payload : List ℕ) (ring key : Key) (new : Keys)
    (anchors : Anchors) (numbers : Table ℕ) → IsConsistent s → IsBelow s.keys.keys s.keys.next
    → HasPlace special maker (state_of s) → ring ≡ ring_key special maker ((name, s.keys.next + 1) ∷ [])
    → key ≡ maker_key name payload maker.uid maker.gid → new ≡ with_key (with_key s.keys ring) key
    → anchors ≡ attached_as special maker s.keys.next s.contexts
    → numbers ≡ one_more (s.keys.next + 1) (one_more s.keys.next
    (with_number (s.keys.next + 1) (with_number s.keys.next s.holders)))
    → AreMade special s maker name payload (record s { keys = new; contexts = anchors; holders = numbers })
two_told special s maker name payload ring key new anchors numbers sound unused place er ek e ea en =
    let es = s.keys.keys in
    let n = s.keys.next in
    let m = n + 1 in
    let bare = ring_key special maker [] in
    let fresh = maker_key name payload maker.uid maker.gid in
    let mid = alone special s maker in
    let one = put es n bare in
    let mid_sound = ring_sound s special maker [] None _ _ _ sound unused place refl refl refl refl in
    let below : IsBelow one m = below_put es one n bare refl unused in
    let there : at one n ≡ Some bare = at_put_same es n bare in
    let keyring : IsKeyringAt (state_of mid) n =
    (seen bare, at_map seen one n ∙ ap (option_map seen) there, [], refl) in
    let keys : new ≡ record { keys = alter (put one m fresh) n (with_entry name m); next = m + 1 } =
    e ∙ (ap (λ (k : Key). with_key (with_key s.keys k) key) er
    ∙ (ap (λ (k : Key). with_key (with_key s.keys (with_entry name m bare)) k) ek
    ∙ ap (λ (zs : Table Key). record { keys = zs; next = m + 1 }) (alter_two es n bare fresh (with_entry name m)))) in
    let told = made_told mid new n name payload maker.uid maker.gid mid_sound below keyring keys in
    let displaced : displaced_at (put one m fresh) n name ≡ None =
    ap (displaced_by name) (at_put_other one m n fresh (before n) ∙ there) in
    let tallied = made_tallied mid (roots (state_of mid)) n name fresh (below m (omega arith))
    (first_links name.kind payload) keyring mid_sound.tallied in
    let counts : numbers
    ≡ all_less (option_to_list (displaced_at (put one m fresh) n name)) (one_more m (with_number m mid.holders)) =
    en ∙ (ap (one_more m) (room_before (with_number n s.holders) n m (before n))
    ∙ ap (λ (o : Option ℕ). all_less (option_to_list o) (one_more m (with_number m mid.holders))) (sym displaced)) in
    rw ea (record {
      sound = record {
        fit = told.fit;
        kinds = told.kinds;
        tallied = subst (λ (zs : Table ℕ). AreExact new.keys zs (roots (state_of mid))) (sym counts)
            (subst (λ (ks : Keys). AreExact ks.keys (all_less (option_to_list (displaced_at (put one m fresh) n name))
            (one_more m (with_number m mid.holders))) (roots (state_of mid))) (sym keys) tallied);
      };
      is = told.is ∙ (ap (λ (t : model.State). made t n name (seen fresh))
          (ring_told s special maker [] None _ _ mid.holders refl refl refl)
          ∙ ap (made (ring_at special maker [] (state_of s)) n name)
          (seen-maker_key name payload maker.uid maker.gid));
    })

-- the counts of the two, step by step
two_counted :
    (numbers r1 r2 r3 r4 : Table ℕ) (n m one two : ℕ) → one ≡ n → two ≡ m → r1 ≡ with_number one numbers
    → r2 ≡ with_number two r1 → r3 ≡ one_more one r2 → r4 ≡ one_more two r3
    → r4 ≡ one_more m (one_more n (with_number m (with_number n numbers)))
two_counted numbers r1 r2 r3 r4 n m one two a b c d e f = rw (f, e, d, c, a, b) refl

-- the steps of the store: the serials, the two keys, room for their counts, and their holders
pub record AreSteps
    (special : Special) (s : Inside) (maker : Maker) (name : Name) (payload : List ℕ) (one two : ℕ) (ring key : Key)
    (new : Keys) (anchors : Anchors) (r1 r2 r3 r4 : Table ℕ) : Type 0 where
  pub first : one ≡ s.keys.next
  pub second : two ≡ s.keys.next + 1
  pub ring_is : ring ≡ ring_key special maker ((name, two) ∷ [])
  pub key_is : key ≡ maker_key name payload maker.uid maker.gid
  pub keys : new ≡ with_key (with_key s.keys ring) key
  pub anchors_are : anchors ≡ attached_as special maker one s.contexts
  pub room : r1 ≡ with_number one s.holders
  pub more_room : r2 ≡ with_number two r1
  pub held : r3 ≡ one_more one r2
  pub both_held : r4 ≡ one_more two r3

-- these steps make what the definitions make
pub two_made :
    (special : Special) (s : Inside) (maker : Maker) (name : Name) (payload : List ℕ) (one two : ℕ) (ring key : Key)
    (new : Keys) (anchors : Anchors) (r1 r2 r3 r4 : Table ℕ) (was : model.State) → state_of s ≡ was
    → IsConsistent s → IsBelow s.keys.keys s.keys.next → HasPlace special maker was
    → AreSteps special s maker name payload one two ring key new anchors r1 r2 r3 r4
    → AreMade special s maker name payload (record s { keys = new; contexts = anchors; holders = r4 })
two_made special s maker name payload one two ring key new anchors r1 r2 r3 r4 was view sound unused place x =
    two_told special s maker name payload ring key new anchors r4 sound unused
    (subst (HasPlace special maker) (sym view) place)
    (x.ring_is ∙ ap (λ k. ring_key special maker ((name, k) ∷ [])) x.second) x.key_is x.keys
    (x.anchors_are ∙ ap (λ k. attached_as special maker k s.contexts) x.first)
    (two_counted s.holders r1 r2 r3 r4 s.keys.next (s.keys.next + 1) one two x.first x.second x.room
    x.more_room x.held
    x.both_held)

-- room that is there is left by a holder more of another key
pub room_left :
    (numbers new : Table ℕ) (one two most : ℕ) → (two ≡ one → ⊥) → new ≡ one_more one numbers
    → number_at numbers two + 2 ≤ most → number_at new two < most
room_left numbers new one two most apart e h =
    let same : number_at new two ≡ number_at numbers two =
    ap (λ (zs : Table ℕ). number_at zs two) e ∙ number_other numbers one two apart in
    omega (arith, same, h)

-- two serials are left
some_left : (n : ℕ) → n ≤ 2147483646 → nat_lt 2147483647 (n + 1) ≡ false
some_left n h = grind (arith, nat_tests, unsigned_tied 2147483647 (n + 1))

-- the new key of the client, where two serials are left
pub adding_told :
    (special : Special) (s new : model.State) (client number serial : ℕ) (name : Name) (payload : List ℕ)
    (c : Context)
    (maker : Maker) → context_of s client number ≡ Ok c → maker ≡ maker_of number c → s.next_serial ≤ 2147483646
    → new ≡ made (ring_at special maker [] s) s.next_serial name (new_key name payload maker.uid maker.gid)
    → serial ≡ s.next_serial + 1 → adding_made special s client number name payload ≡ Ok (new, Number serial)
adding_told special s new client number serial name payload c maker own of_client left is second =
    rw (own, some_left s.next_serial left, is, second, of_client)
    (ap (λ (t : model.State). Ok (
      made t s.next_serial name (new_key name payload c.caller.uid c.caller.gid),
      Number (s.next_serial + 1),
    )) (ring_alone special s number c))

-- it is accepted where two serials are left
pub adding_accepted :
    (special : Special) (s : model.State) (client number : ℕ) (name : Name) (payload : List ℕ) (c : Context)
    → context_of s client number ≡ Ok c → s.next_serial ≤ 2147483646
    → IsOk (adding_made special s client number name payload)
adding_accepted special s client number name payload c own left =
    let maker = maker_of number c in
    accepted _ _ (adding_told special s
    (made (ring_at special maker [] s) s.next_serial name (new_key name payload maker.uid maker.gid)) client number
    (s.next_serial + 1) name payload c maker own refl left refl refl)
