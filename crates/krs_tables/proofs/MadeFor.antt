-- Asks that make a thread or process keyring, told by the store before it was made.
use Rattle.std.proofs.Common.{[], ◌++◌, ◌+◌, ◌==◌, ◌∙◌, ◌≡◌, ◌≢◌, ap, arith, Bool, cond, eqb-true, Err, false, IfOk}
use Rattle.std.proofs.Common.{IsSome, List, nat_lt, None, Ok, Option, option_to_list, refl, Result, Some, subst, sym}
use Rattle.std.proofs.{Common.{true, true≢false, ℕ, ℤ}, lemmas.Option.none-some}
use Rattle.krs_types.specs.{KeyId.key_id_of, Refusing.{◌>>=◌, or_refuse}, Rights.LINK, declared.ask.Answer.Answer}
use Rattle.krs_types.specs.declared.ask.Answer.TheVariants.{Nothing, Number}
use Rattle.krs_types.specs.declared.{caller.Caller.Caller, context.{Context.Context, UidRings.UidRings}}
use Rattle.krs_types.specs.declared.errno.Errno.{Errno, TheVariants.{EDEADLK, ELOOP, ENOKEY, ENOSPC}}
use Rattle.krs_types.specs.declared.{key_id.KeyId.KeyId, name.Name.Name, rights.Want.TheVariants.Granted}
use Rattle.krs_model.specs.Asks.Adding.{add, added, added_in, added_serial, admitted, Made, made, new_key, Place}
use Rattle.krs_model.specs.Asks.{Changing.changed, Finding.{get_id, got}}
use Rattle.krs_model.specs.{Asks.Linked.{link, linked, linked_into, name_of, unless}, Levels.is_in, Linking.linking}
use Rattle.krs_model.specs.Lookup.{attachment, context_of, look_up, serial_of, user_ring, user_session_ring}
use Rattle.krs_model.specs.Making.{made_for, special_ring, thread_to, within_serials}
use Rattle.krs_model.specs.{Outcome.Outcome, Possession.{attached, process_ring}, Reach.{has_chain, nesting_depth}}
use Rattle.krs_model.specs.{State.{Key, State}, Table.at}
use Rattle.krs_model.proofs.{Lookups.Laws.look_up_usable, MadeKeyring.Links.{got_new, IsFit, linked_into_new}}
use Rattle.krs_model.proofs.MadeKeyring.Links.{linked_into_self, linked_new, place_of_new, sound_fit}
use Rattle.krs_model.proofs.MadeKeyring.{Lookups.{look_up_new, look_up_other}, State.HasMade}
use Rattle.krs_model.proofs.MadeKeyring.State.{HasMadeFor, made_for_has, MadeNone, MadeOne, process_has, thread_has}
use Rattle.krs_model.proofs.{MadeKeyring.Which.{made_process, made_thread}, Reach.Levels.{in_left, in_right, same_is}}
use Rattle.krs_model.proofs.Sound.{Attached.{attached_at, in_uid, uid_keys}, Changes.not_there}
use Rattle.krs_tables.specs.Specials.{adding_made, id_of, is_coming, is_coming_as, IsMissing, linking_made, Makes}
use Rattle.krs_tables.specs.Specials.{ring_made, special_name, with_ring}
use Rattle.krs_tables.specs.declared.making.Special.{Special, TheVariants.{Process, Thread}}
use Rattle.krs_tables.proofs.Owners.{own_there}
use Rattle.krs_model.specs.Sound as model
use Rattle.krs_types.specs.declared.key_id.KeyId.TheVariants as id

-- the context with the keyring that is made for it
abbrev pub context_with : Special → State → Context → Context
context_with Thread s c = thread_to s.next_serial c
context_with Process s c = c

-- what is attached before it and behind it
abbrev pub before : Special → Context → List ℕ
before Thread c = []
before Process c = option_to_list c.thread

abbrev pub behind : Special → State → Context → List ℕ
behind Thread s c = attached s c
behind Process s c = option_to_list c.session

-- what is made for a context that has no such keyring
abbrev pub Has : Special → State → ℕ → Context → Type 0
Has special s number c =
    HasMade s c (with_ring special s number c) (context_with special s c) (special_name special).desc
    (before special c) (behind special s c)

has_made :
    (special : Special) (s : State) (number : ℕ) (c : Context) → IsMissing special s c
    → IsSome (at s.processes c.process) → Has special s number c
has_made Thread s number c missing there = thread_has s number c missing
has_made Process s number c missing there = process_has s c missing there

is_made :
    (special : Special) (s : State) (number : ℕ) (c : Context) (id : ℤ) → Makes (Some special) s number c id
    → made_for s number c id ≡ (with_ring special s number c, context_with special s c)
is_made Thread s number c id makes = made_thread s number c id makes.0 makes.1
is_made Process s number c id makes = made_process s number c id makes.0 makes.1

-- what is asked of the client's context is true of it
pub makes_own :
    (special : Option Special) (s : State) (client number : ℕ) (c : Context) (id : ℤ)
    → context_of s client number ≡ Ok c → IfOk (context_of s client number) (λ x. Makes special s number x id)
    → Makes special s number c id
makes_own special s client number c id own makes =
    subst (λ (r : Result Context Errno). IfOk r (λ x. Makes special s number x id)) own makes

-- a keyring that is made has the next serial
named_made :
    (s : State) (c : Context) (id : ℤ) (made : State × Context) → HasMadeFor s c id made
    → made.0.next_serial ≡ s.next_serial + 1 → serial_of made.0 made.1 id ≡ Ok s.next_serial
named_made s c id _ MadeNone more = absurd (omega (arith, more))
named_made s c id _ (MadeOne t d desc before after made named) more = named

refused_some : (o : Option ℕ) (n : ℕ) → or_refuse ENOKEY o ≡ Ok n → o ≡ Some n
refused_some None n h = absurd cc
refused_some (Some k) n h = cc

named_attached :
    (t : State) (d : Context) (id : ℤ) (named : KeyId) (n : ℕ) → key_id_of id ≡ Ok named
    → serial_of t d id ≡ Ok n → attachment t d named ≡ Some n
unfolding serial_of
named_attached t d id named n is h =
    refused_some (attachment t d named) n
    (sym (ap (λ (r : Result KeyId Errno). r >>= (λ (x : KeyId). or_refuse ENOKEY (attachment t d x))) is) ∙ h)

-- nothing that a context's ids stand for has the next serial
pub record AreOlder (s : State) (c : Context) : Type 0 where
  pub thread : c.thread ≡ Some s.next_serial → ⊥
  pub process : process_ring s c.process ≡ Some s.next_serial → ⊥
  pub session : c.session ≡ Some s.next_serial → ⊥
  pub user : user_ring (at s.uids c.caller.uid) ≡ Some s.next_serial → ⊥
  pub user_session : user_session_ring (at s.uids c.caller.uid) ≡ Some s.next_serial → ⊥

in_own : (k : ℕ) (o : Option ℕ) → o ≡ Some k → is_in k (option_to_list o) ≡ true
in_own k o is = rw (is, same_is k k refl) refl

user_there :
    (s : State) (uid k : ℕ) (o : Option UidRings) → model.AllAttached s → at s.uids uid ≡ o → user_ring o ≡ Some k
    → IsSome (at s.keys k)
user_there s uid k None attached there is = absurd (none-some k is)
user_there s uid k (Some rings) attached there is =
    let own : is_in k (uid_keys rings) ≡ true =
    in_left k (option_to_list rings.user) (option_to_list rings.session) (in_own k rings.user is) in
    attached k (in_uid s k (attached_at uid_keys s.uids uid rings k there own))

user_session_there :
    (s : State) (uid k : ℕ) (o : Option UidRings) → model.AllAttached s → at s.uids uid ≡ o
    → user_session_ring o ≡ Some k → IsSome (at s.keys k)
user_session_there s uid k None attached there is = absurd (none-some k is)
user_session_there s uid k (Some rings) attached there is =
    let own : is_in k (uid_keys rings) ≡ true =
    in_right k (option_to_list rings.user) (option_to_list rings.session) (in_own k rings.session is) in
    attached k (in_uid s k (attached_at uid_keys s.uids uid rings k there own))

older : (s : State) (c : Context) → IsFit s c → model.AllAttached s → AreOlder s c
older s c fit attached =
    let n = s.next_serial in
    let uid = c.caller.uid in
    let thread : List ℕ = option_to_list c.thread in
    let process : List ℕ = option_to_list (process_ring s c.process) in
    let session : List ℕ = option_to_list c.session in
    let other : IsSome (at s.keys n) → ⊥ = λ there. not_there (at s.keys n) there fit.none in
    record {
      thread = λ is. other (fit.heads n (in_left n thread (process ++ session) (in_own n c.thread is)));
      process = λ is. other (fit.heads n (in_right n thread (process ++ session)
          (in_left n process session (in_own n (process_ring s c.process) is))));
      session = λ is. other (fit.heads n (in_right n thread (process ++ session)
          (in_right n process session (in_own n c.session is))));
      user = λ is. other (user_there s uid n (at s.uids uid) attached refl is);
      user_session = λ is. other (user_session_there s uid n (at s.uids uid) attached refl is);
    }

-- a keyring that is made for an id in a sound store
pub record IsNew (special : Special) (s : State) (number : ℕ) (c : Context) (id : ℤ) : Type 0 where
  pub made : Has special s number c
  pub is : made_for s number c id ≡ (with_ring special s number c, context_with special s c)
  pub named : serial_of (with_ring special s number c) (context_with special s c) id ≡ Ok s.next_serial
  pub own : attachment (with_ring special s number c) (context_with special s c) (id_of special) ≡ Some s.next_serial
  pub fit : IsFit s c
  pub older : AreOlder s c

pub is_new :
    (special : Special) (s : State) (client number : ℕ) (c : Context) (id : ℤ)
    → Makes (Some special) s number c id → model.IsSound s → context_of s client number ≡ Ok c
    → IsNew special s number c id
is_new special s client number c id makes sound own =
    let t = with_ring special s number c in
    let d = context_with special s c in
    let fit = sound_fit s number c (own_there s client number c own) sound in
    let made = has_made special s number c makes.1 fit.process in
    let is = is_made special s number c id makes in
    let has : HasMadeFor s c id (t, d) =
    subst (λ (x : State × Context). HasMadeFor s c id x) is (made_for_has s number c id fit.process) in
    let named : serial_of t d id ≡ Ok s.next_serial = named_made s c id (t, d) has made.next in
    record {
      made = made;
      is = is;
      named = named;
      own = named_attached t d id (id_of special) s.next_serial makes.0 named;
      fit = fit;
      older = older s c fit sound.attached;
    }

-- where an id comes to, in the store and the context with the keyring
abbrev stands_at : Special → State → ℕ → Context → Result KeyId Errno → Result ℕ Errno
stands_at special s number c named =
    named >>= (λ x. or_refuse ENOKEY (attachment (with_ring special s number c) (context_with special s c) x))

coming_is :
    (special : Special) (s : State) (number : ℕ) (c : Context) (named : Result KeyId Errno)
    → attachment (with_ring special s number c) (context_with special s c) (id_of special) ≡ Some s.next_serial
    → is_coming_as special s.next_serial named ≡ true → stands_at special s number c named ≡ Ok s.next_serial
coming_is special s number c (Err e) own h = absurd (true≢false (sym h))
coming_is special s number c (Ok (id.Serial k)) own h = ap Ok (eqb-true k s.next_serial h)
coming_is Thread s number c (Ok id.Thread) own h = ap (or_refuse ENOKEY) own
coming_is Process s number c (Ok id.Thread) own h = absurd (true≢false (sym h))
coming_is Thread s number c (Ok id.Process) own h = absurd (true≢false (sym h))
coming_is Process s number c (Ok id.Process) own h = ap (or_refuse ENOKEY) own
coming_is special s number c (Ok id.Session) own h = absurd (true≢false (sym h))
coming_is special s number c (Ok id.User) own h = absurd (true≢false (sym h))
coming_is special s number c (Ok id.UserSession) own h = absurd (true≢false (sym h))

apart : (k n : ℕ) → (k == n) ≡ false → ◌≡◌ {A = Result ℕ Errno} (Ok k) (Ok n) → ⊥
apart k n h e = let same : k ≡ n = cc in true≢false (sym (same_is k n same) ∙ h)

coming_not :
    (special : Special) (s : State) (number : ℕ) (c : Context) (named : Result KeyId Errno) → AreOlder s c
    → is_coming_as special s.next_serial named ≡ false → stands_at special s number c named ≡ Ok s.next_serial → ⊥
coming_not special s number c (Err e) older h is = absurd cc
coming_not special s number c (Ok (id.Serial k)) older h is = apart k s.next_serial h is
coming_not Thread s number c (Ok id.Thread) older h is = true≢false h
coming_not Process s number c (Ok id.Thread) older h is = older.thread (refused_some c.thread s.next_serial is)
coming_not Thread s number c (Ok id.Process) older h is =
    older.process (refused_some (process_ring s c.process) s.next_serial is)
coming_not Process s number c (Ok id.Process) older h is = true≢false h
coming_not Thread s number c (Ok id.Session) older h is = older.session (refused_some c.session s.next_serial is)
coming_not Process s number c (Ok id.Session) older h is = older.session (refused_some c.session s.next_serial is)
coming_not Thread s number c (Ok id.User) older h is =
    older.user (refused_some (user_ring (at s.uids c.caller.uid)) s.next_serial is)
coming_not Process s number c (Ok id.User) older h is =
    older.user (refused_some (user_ring (at s.uids c.caller.uid)) s.next_serial is)
coming_not Thread s number c (Ok id.UserSession) older h is =
    older.user_session (refused_some (user_session_ring (at s.uids c.caller.uid)) s.next_serial is)
coming_not Process s number c (Ok id.UserSession) older h is =
    older.user_session (refused_some (user_session_ring (at s.uids c.caller.uid)) s.next_serial is)

-- an id stands for the keyring that is made just where it is said to
pub stands_for_new :
    (special : Special) (s : State) (number : ℕ) (c : Context) (ring key : ℤ) → IsNew special s number c ring
    → is_coming special s.next_serial key ≡ true
    → serial_of (with_ring special s number c) (context_with special s c) key ≡ Ok s.next_serial
unfolding serial_of
stands_for_new special s number c ring key new coming = coming_is special s number c (key_id_of key) new.own coming

pub stands_for_other :
    (special : Special) (s : State) (number : ℕ) (c : Context) (ring key : ℤ) → IsNew special s number c ring
    → is_coming special s.next_serial key ≡ false
    → serial_of (with_ring special s number c) (context_with special s c) key ≡ Ok s.next_serial → ⊥
unfolding serial_of
stands_for_other special s number c ring key new coming is =
    coming_not special s number c (key_id_of key) new.older coming is

-- what the keyring links, where it is linked to what was found
abbrev links_new : Special → State → ℕ → Context → ℕ × Key → Outcome
links_new special s number c found =
    linked_into (with_ring special s number c) (
      s.next_serial,
      special_ring (special_name special).desc c.caller,
    ) found
    >>= (λ new. Ok (new, Nothing))

link_met :
    (special : Special) (s : State) (client number : ℕ) (c : Context) (key ring : ℤ) → IsNew special s number c ring
    → context_of s client number ≡ Ok c
    → link s client number key ring
    ≡ within_serials s (look_up (with_ring special s number c) (context_with special s c) key (Granted LINK)
    >>= links_new special s number c)
unfolding link
link_met special s client number c key ring new own =
    let t = with_ring special s number c in
    let d = context_with special s c in
    ap (λ (r : Result Context Errno). r >>= (λ x. within_serials s
    (linked (made_for s number x ring).0 (made_for s number x ring).1 key ring))) own
    ∙ (ap (λ (x : State × Context). within_serials s (linked x.0 x.1 key ring)) new.is
    ∙ ap (within_serials s) (linked_new s t c d (special_name special).desc (before special c) (behind special s c)
    key ring new.made new.named))

-- the keyring that is made does not link itself
pub link_to_itself :
    (special : Special) (s : State) (client number : ℕ) (c : Context) (key ring : ℤ) → IsNew special s number c ring
    → context_of s client number ≡ Ok c → is_coming special s.next_serial key ≡ true
    → link s client number key ring ≡ Err EDEADLK
link_to_itself special s client number c key ring new own coming =
    let t = with_ring special s number c in
    let d = context_with special s c in
    let desc = (special_name special).desc in
    let first = before special c in
    let last = behind special s c in
    let made = special_ring desc c.caller in
    let stands = stands_for_new special s number c ring key new coming in
    link_met special s client number c key ring new own
    ∙ (ap (λ (r : Result (ℕ × Key) Errno). within_serials s (r >>= links_new special s number c))
    (look_up_new s t c d desc first last key LINK new.made stands refl)
    ∙ ap (λ (r : Result State Errno). within_serials s (r >>= (λ x. Ok (x, Nothing))))
    (linked_into_self s t c d desc first last made new.made))

-- it links what is looked up in the store before
link_to_other :
    (special : Special) (s : State) (client number : ℕ) (c : Context) (key ring : ℤ) → IsNew special s number c ring
    → context_of s client number ≡ Ok c → is_coming special s.next_serial key ≡ false
    → link s client number key ring
    ≡ within_serials s (look_up s c key (Granted LINK) >>= links_new special s number c)
link_to_other special s client number c key ring new own coming =
    let t = with_ring special s number c in
    let d = context_with special s c in
    let other = stands_for_other special s number c ring key new coming in
    link_met special s client number c key ring new own
    ∙ ap (λ (r : Result (ℕ × Key) Errno). within_serials s (r >>= links_new special s number c))
    (look_up_other s t c d (special_name special).desc (before special c) (behind special s c) key (Granted LINK)
    new.made new.fit.none other)

-- a look-up that is refused, refuses the link
pub link_unlooked :
    (special : Special) (s : State) (client number : ℕ) (c : Context) (key ring : ℤ) (e : Errno)
    → IsNew special s number c ring → context_of s client number ≡ Ok c → is_coming special s.next_serial key ≡ false
    → look_up s c key (Granted LINK) ≡ Err e → link s client number key ring ≡ Err e
link_unlooked special s client number c key ring e new own coming fails =
    link_to_other special s client number c key ring new own coming
    ∙ ap (λ (r : Result (ℕ × Key) Errno). within_serials s (r >>= links_new special s number c)) fails

-- what comes of a link that nests
within_nested :
    (s x : State) (nests : Result (Unit {0}) Errno)
    → within_serials s ((nests >>= (λ n. Ok x)) >>= (λ (new : State). Ok (new, Nothing)))
    ≡ (nests >>= (λ n. within_serials s (Ok (x, Nothing))))
within_nested s x (Ok n) = refl
within_nested s x (Err e) = refl

pub link_linking :
    (special : Special) (s : State) (client number : ℕ) (c : Context) (key ring : ℤ) (found : ℕ × Key)
    → IsNew special s number c ring → context_of s client number ≡ Ok c → is_coming special s.next_serial key ≡ false
    → look_up s c key (Granted LINK) ≡ Ok found
    → link s client number key ring ≡ linking_made special s client number found.0 Nothing
link_linking special s client number c key ring found new own coming is =
    let t = with_ring special s number c in
    let d = context_with special s c in
    let desc = (special_name special).desc in
    let n = s.next_serial in
    let there = (look_up_usable s c key (Granted LINK) found is).there in
    let other : found.0 ≢ n = λ e.
    none-some found.1 (sym (ap (λ (k : ℕ). at s.keys k) e ∙ new.fit.none) ∙ there) in
    let nests : Result (Unit {0}) Errno = unless (has_chain s.keys found.0 nesting_depth) ELOOP in
    let into : State = changed t n (linking t.keys (name_of found.1) found.0) in
    let linking : link s client number key ring ≡ (nests >>= (λ x. within_serials s (Ok (into, Nothing)))) =
    link_to_other special s client number c key ring new own coming
    ∙ (ap (λ (r : Result (ℕ × Key) Errno). within_serials s (r >>= links_new special s number c)) is
    ∙ (ap (λ (r : Result State Errno). within_serials s (r >>= (λ (x : State). Ok (x, Nothing))))
    (linked_into_new s t c d desc (before special c) (behind special s c) found new.made new.fit.linked new.fit.none
    other)
    ∙ within_nested s into nests)) in
    linking ∙ rw (own, there) refl

placed :
    (b : Bool) (place : Place) (f : Place → State × Answer)
    → (cond b (Err ENOSPC) (Ok place) >>= (λ p. Ok (f p))) ≡ (unless b ENOSPC >>= (λ room. Ok (f place)))
placed true place f = refl
placed false place f = refl

-- a key is added to the keyring that is made, where a second serial is left
pub add_made :
    (special : Special) (s : State) (client number : ℕ) (c : Context) (type_name desc payload : List ℕ) (name : Name)
    (ring : ℤ) → IsNew special s number c ring → context_of s client number ≡ Ok c
    → admitted type_name desc payload ≡ Ok name
    → add s client number type_name desc payload ring ≡ adding_made special s client number name payload
unfolding add
add_made special s client number c type_name desc payload name ring new own admits =
    let t = with_ring special s number c in
    let d = context_with special s c in
    let n = s.next_serial in
    let goes : Place → State × Answer = λ place. (added t d name payload place, Number (added_serial t place)) in
    let done : Caller → ℕ → State × Answer = λ caller next.
    (made t n name (new_key name payload caller.uid caller.gid), Number next) in
    let adds : Result (Unit {0}) Errno → Caller → ℕ → Outcome = λ room caller next.
    room >>= (λ there. Ok (done caller next)) in
    let by_place : added_in t d name payload ring ≡ adds (unless (nat_lt 2147483647 t.next_serial) ENOSPC) d.caller
    t.next_serial =
    ap (λ (r : Result Place Errno). r >>= (λ place. Ok (goes place)))
    (place_of_new s t c d (special_name special).desc (before special c) (behind special s c) name ring new.made
    new.named)
    ∙ placed (nat_lt 2147483647 t.next_serial) (Made n) goes in
    let by_caller : adds (unless (nat_lt 2147483647 t.next_serial) ENOSPC) d.caller t.next_serial
    ≡ adds (unless (nat_lt 2147483647 (n + 1)) ENOSPC) c.caller (n + 1) =
    ap (λ (m : ℕ). adds (unless (nat_lt 2147483647 m) ENOSPC) d.caller m) new.made.next
    ∙ ap (λ (caller : Caller). adds (unless (nat_lt 2147483647 (n + 1)) ENOSPC) caller (n + 1)) new.made.caller in
    rw (own, admits)
    (ap (λ (x : State × Context). added_in x.0 x.1 name payload ring) new.is ∙ (by_place ∙ by_caller))

-- the keyring that is made is got
pub got_made :
    (special : Special) (s : State) (client number : ℕ) (c : Context) (id : ℤ) → IsNew special s number c id
    → context_of s client number ≡ Ok c → get_id s client number id true ≡ ring_made special s client number
unfolding get_id
got_made special s client number c id new own =
    let t = with_ring special s number c in
    let d = context_with special s c in
    rw own (ap (λ (x : State × Context). within_serials s (got x.0 x.1 id)) new.is
    ∙ ap (within_serials s) (got_new s t c d (special_name special).desc (before special c) (behind special s c) id
    new.made new.named))
