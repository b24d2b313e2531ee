-- The steps that asks share, with the payloads hidden: a lemma for each, and the set of them, by which a search goes
-- over an ask.
use Rattle.std.proofs.Common.{◌∙◌, ◌≡◌, ap, Bool, cond, Err, List, Ok, refl, Result, subst, sym, true, false, ℕ, ℤ}
use Rattle.krs_types.specs.{Refusing.{◌>>=◌, or_refuse}, declared.{ask.Answer.Answer, context.Context.Context}}
use Rattle.krs_types.specs.declared.{errno.Errno.Errno, rights.Want.Want}
use Rattle.krs_model.specs.{Asks.{Changing.changed, Linked.linked_into}, Linking.ring_links}
use Rattle.krs_model.specs.Hiding.{blind, blind_content, blind_key, blind_keys, Hiding, over}
use Rattle.krs_model.specs.{Lookup.{context_of, look_up, serial_of}, Making.within_serials, Outcome.Outcome}
use Rattle.krs_model.specs.{State.{Content, Key, Links, Payload, State}, Table.{at, Table}}
use Rattle.krs_model.proofs.Hiding.Accepted.{blind_done, changed_blind, done_changed}
use Rattle.krs_model.proofs.Hiding.Links.{linked_into_blind, within_blind}
use Rattle.krs_model.proofs.Hiding.Lookups.{blind_found, look_up_blind, there_blind}
use Rattle.std.proofs.Common.{arith}
use Rattle.std.proofs.lemmas.Grind.{common_steps}

-- a result is another, seen through h: step by step, as a search goes
pub record IsSeen {A B : Type 0} (h : A → B) (hidden : Result B Errno) (meant : Result A Errno) : Type 0 where
  pub is : hidden ≡ over h meant

pub seen_ok : {A B : Type 0} {h : A → B} {x : A} {y : B} → y ≡ h x → IsSeen h (Ok y) (Ok x)
seen_ok {A} {B} {h} {x} {y} same = record { is = ap Ok same }

pub seen_err : {A B : Type 0} {h : A → B} {e : Errno} → IsSeen h (Err e) (Err e)
seen_err {A} {B} {h} {e} = record { is = refl }

-- a step after the same result
pub seen_after : {A C D : Type 0} {h : C → D} (r : Result A Errno) (f : A → Result C Errno) (k : A → Result D Errno)
    → ((x : A) → r ≡ Ok x → IsSeen h (k x) (f x)) → IsSeen h (r >>= k) (r >>= f)
seen_after (Ok x) f k each = each x refl
seen_after (Err e) f k each = seen_err

seen_through : {A B C D : Type 0} (g : A → B) (h : C → D) (r : Result A Errno) (f : A → Result C Errno)
    (k : B → Result D Errno) → ((x : A) → r ≡ Ok x → IsSeen h (k (g x)) (f x)) → IsSeen h (over g r >>= k) (r >>= f)
seen_through g h (Ok x) f k each = each x refl
seen_through g h (Err e) f k each = seen_err

-- a step after a result that is seen through g
pub seen_bound : {A B C D : Type 0} (g : A → B) {h : C → D} (q : Result B Errno) (r : Result A Errno)
    (f : A → Result C Errno) (k : B → Result D Errno) → q ≡ over g r
    → ((x : A) → r ≡ Ok x → IsSeen h (k (g x)) (f x)) → IsSeen h (q >>= k) (r >>= f)
seen_bound {D = D} g {h} q r f k same each = grind (arith, common_steps, seen_through)

pub is_seen : {A B : Type 0} (h : A → B) {hidden : Result B Errno} {meant : Result A Errno} → IsSeen h hidden meant
    → hidden ≡ over h meant
is_seen h seen = seen.is

-- a step after a test
pub seen_if : {A B C D : Type 0} {h : C → D} (b : Bool) (x : A) (y : B) (e : Errno) (f : A → Result C Errno)
    (k : B → Result D Errno) → IsSeen h (k y) (f x)
    → IsSeen h (cond b (Ok y) (Err e) >>= k) (cond b (Ok x) (Err e) >>= f)
seen_if true x y e f k seen = seen
seen_if false x y e f k seen = seen_err

pub seen_either : {A B : Type 0} {h : A → B} (b : Bool) (x y : Result A Errno) (v w : Result B Errno)
    → IsSeen h v x → IsSeen h w y → IsSeen h (cond b v w) (cond b x y)
seen_either true x y v w e f = e
seen_either false x y v w e f = f

-- ---- one step
pub seen_context : {C D : Type 0} {h : C → D} (hide : Hiding) (s : State) (client number : ℕ)
    (f : Context → Result C Errno) (k : Context → Result D Errno)
    → ((c : Context) → context_of s client number ≡ Ok c → IsSeen h (k c) (f c))
    → IsSeen h (context_of (blind hide s) client number >>= k) (context_of s client number >>= f)
unfolding context_of
seen_context hide s client number f k each = seen_after (context_of s client number) f k each

pub seen_serial : {C D : Type 0} {h : C → D} (hide : Hiding) (s : State) (c : Context) (id : ℤ)
    (f : ℕ → Result C Errno) (k : ℕ → Result D Errno)
    → ((serial : ℕ) → serial_of s c id ≡ Ok serial → IsSeen h (k serial) (f serial))
    → IsSeen h (serial_of (blind hide s) c id >>= k) (serial_of s c id >>= f)
unfolding serial_of
seen_serial hide s c id f k each = seen_after (serial_of s c id) f k each

pub seen_look_up : {C D : Type 0} {h : C → D} (hide : Hiding) (s : State) (c : Context) (id : ℤ) (want : Want)
    (f : ℕ × Key → Result C Errno) (k : ℕ × Key → Result D Errno)
    → ((found : ℕ × Key) → look_up s c id want ≡ Ok found → IsSeen h (k (blind_found hide found)) (f found))
    → IsSeen h (look_up (blind hide s) c id want >>= k) (look_up s c id want >>= f)
seen_look_up hide s c id want f k each = grind (arith, common_steps, seen_bound, blind_found, look_up_blind)

pub seen_there : {C D : Type 0} {h : C → D} (hide : Hiding) (keys : Table Key) (e : Errno) (n : ℕ)
    (f : Key → Result C Errno) (k : Key → Result D Errno)
    → ((key : Key) → or_refuse e (at keys n) ≡ Ok key → IsSeen h (k (blind_key (hide n) key)) (f key))
    → IsSeen h (or_refuse e (at (blind_keys hide keys) n) >>= k) (or_refuse e (at keys n) >>= f)
seen_there hide keys e n f k each = grind (arith, common_steps, seen_bound, there_blind)

pub seen_links : {C D : Type 0} {h : C → D} (g : List ℕ → List ℕ) (content : Content) (f : List ℕ → Result C Errno)
    (k : List ℕ → Result D Errno) → ((links : List ℕ) → ring_links content ≡ Ok links → IsSeen h (k links) (f links))
    → IsSeen h (ring_links (blind_content g content) >>= k) (ring_links content >>= f)
seen_links g (Payload bytes) f k each = seen_err
seen_links g (Links serials) f k each = each serials refl

pub seen_linked_into : {C D : Type 0} {h : C → D} (hide : Hiding) (s : State) (into found : ℕ × Key)
    (f : State → Result C Errno) (k : State → Result D Errno)
    → ((new : State) → linked_into s into found ≡ Ok new → IsSeen h (k (blind hide new)) (f new))
    → IsSeen h (linked_into (blind hide s) (blind_found hide into) (blind_found hide found) >>= k)
    (linked_into s into found >>= f)
seen_linked_into hide s into found f k each = grind (arith, common_steps, seen_bound, linked_into_blind)

-- a step of several, which gives a state
pub seen_state : (hide : Hiding) (q r : Result State Errno) (f k : State → Outcome) → IsSeen (blind hide) q r
    → ((new : State) → r ≡ Ok new → IsSeen (blind_done hide) (k (blind hide new)) (f new))
    → IsSeen (blind_done hide) (q >>= k) (r >>= f)
seen_state hide q r f k seen each = seen_bound (blind hide) q r f k seen.is each

pub seen_within : (hide : Hiding) (s : State) (q r : Outcome) → IsSeen (blind_done hide) q r
    → IsSeen (blind_done hide) (within_serials (blind hide s) q) (within_serials s r)
seen_within hide s q r seen =
    record { is = ap (within_serials (blind hide s)) seen.is ∙ within_blind hide s r }

-- a change of one key
pub seen_changed :
    (hide : Hiding) (s : State) (n : ℕ) (f g : Key → Key) (answer : Answer)
    → ((v : Key) → g (blind_key (hide n) v) ≡ blind_key (hide n) (f v))
    → IsSeen (blind_done hide) (Ok (changed (blind hide s) n g, answer)) (Ok (changed s n f, answer))
seen_changed hide s n f g answer same = record { is = done_changed hide s n f g answer same }

-- of these a search is made: each step of an ask, with the payloads hidden
pub ruleset steps = (
  seen_context,
  seen_serial,
  seen_look_up,
  seen_there,
  seen_links,
  seen_within,
  seen_linked_into,
  seen_after,
  seen_if,
  seen_either,
  seen_changed,
  seen_ok,
  seen_err,
  seen_state,
  changed_blind,
  refl,
)
