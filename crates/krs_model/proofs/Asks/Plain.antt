-- No ask is refused with ENOMEM: how much memory there is is no matter of the definitions.
use Rattle.std.proofs.Common.{◌∙◌, ◌≡◌, ap, Bool, cond, Err, false, List, negsuc, None, Ok, Option, pos, refl, Result}
use Rattle.std.proofs.Common.{Some, suc, sym, true, zero, ℕ, ℤ}
use Rattle.krs_types.specs.{KeyId.key_id_of, Kind.{kind_named, paid_by}, Refusing.{◌>>=◌, or_refuse}}
use Rattle.krs_types.specs.declared.{context.Context.Context, errno.Errno.{Errno, TheVariants.ENOMEM}}
use Rattle.krs_types.specs.declared.kind.PayloadRule.{PayloadRule, TheVariants.{NoBytes, SomeBytes}}
use Rattle.krs_types.specs.declared.rights.Want.{Want}
use Rattle.krs_model.specs.Asks.Finding.{found_into, sought_name}
use Rattle.krs_model.specs.{Asks.Linked.{linked_into, nestable}, Linking.{has_room, ring_links}}
use Rattle.krs_model.specs.{Lookup.{context_of, look_up, serial_of}, Making.within_serials, Outcome.Outcome}
use Rattle.krs_model.specs.{Search.{fault, found}, State.{Content, Key, Links, Payload, State}, Table.Table}

-- the error is ENOMEM
abbrev pub is_memory : Errno → Bool
is_memory ENOMEM = true
is_memory e = false

-- it may be refused, but not with ENOMEM
pub record IsPlain {A : Type 0} (meant : Result A Errno) : Type 0 where
  pub other : (e : Errno) → meant ≡ Err e → is_memory e ≡ false

pub plain_ok : {A : Type 0} {x : A} → IsPlain (Ok x)
plain_ok {A} {x} = record { other = λ e no. cc }

same_error : {A : Type 0} (e f : Errno) → ◌≡◌ {A = Result A Errno} (Err e) (Err f) → e ≡ f
same_error {A} e f h = cc

pub plain_err : {A : Type 0} {e : Errno} → is_memory e ≡ false → IsPlain {A = A} (Err e)
plain_err {A} {e} h = record { other = λ f same. ap is_memory (sym (same_error {A = A} e f same)) ∙ h }

-- after a test that may refuse
pub plain_after :
    {A B : Type 0} (r : Result A Errno) (f : A → Result B Errno) → IsPlain r → ((x : A) → IsPlain (f x))
    → IsPlain (r >>= f)
plain_after (Ok x) f h then_plain = then_plain x
plain_after {A = A} {B = B} (Err e) f h then_plain = plain_err {A = B} (h.other e refl)

-- one or the other, by a test
pub plain_either : {A : Type 0} (b : Bool) (x y : Result A Errno) → IsPlain x → IsPlain y → IsPlain (cond b x y)
plain_either true x y h k = h
plain_either false x y h k = k

pub plain_there : {A : Type 0} (e : Errno) (o : Option A) → is_memory e ≡ false → IsPlain (or_refuse e o)
plain_there {A = A} e None h = plain_err {A = A} h
plain_there e (Some x) h = plain_ok

pub ruleset plain = (plain_after, plain_either, plain_there, plain_ok, plain_err, refl)

pub plain_context : (s : State) (client number : ℕ) → IsPlain (context_of s client number)
unfolding context_of
plain_context s client number = search plain

plain_id : (id : ℤ) → IsPlain (key_id_of id)
plain_id (pos zero) = plain_err refl
plain_id (pos (suc n)) = plain_ok
plain_id (negsuc zero) = plain_ok
plain_id (negsuc (suc zero)) = plain_ok
plain_id (negsuc (suc (suc zero))) = plain_ok
plain_id (negsuc (suc (suc (suc zero)))) = plain_ok
plain_id (negsuc (suc (suc (suc (suc zero))))) = plain_ok
plain_id (negsuc (suc (suc (suc (suc (suc n)))))) = plain_err refl

pub plain_serial : (s : State) (c : Context) (id : ℤ) → IsPlain (serial_of s c id)
unfolding serial_of
plain_serial s c id = search (plain, plain_id)

pub plain_look_up : (s : State) (c : Context) (id : ℤ) (want : Want) → IsPlain (look_up s c id want)
unfolding look_up
plain_look_up s c id want = search (plain, plain_serial) depth 12

pub plain_within : (s : State) (r : Outcome) → IsPlain r → IsPlain (within_serials s r)
plain_within s (Err e) h = h
plain_within s (Ok done) h = search plain

pub plain_kind : (name : List ℕ) → IsPlain (kind_named name)
plain_kind name = search plain depth 12

pub plain_paid : (rule : PayloadRule) (payload : List ℕ) → IsPlain (paid_by rule payload)
plain_paid SomeBytes payload = search plain
plain_paid NoBytes payload = search plain

pub plain_links : (content : Content) → IsPlain (ring_links content)
plain_links (Payload bytes) = plain_err refl
plain_links (Links serials) = plain_ok

pub plain_room : (links : List ℕ) (displaced : Option ℕ) → IsPlain (has_room links displaced)
plain_room links None = search plain
plain_room links (Some k) = plain_ok

plain_nestable : (keys : Table Key) (ring serial : ℕ) → IsPlain (nestable keys ring serial)
unfolding nestable
plain_nestable keys ring serial = search plain

pub plain_linked_into : (s : State) (into found : ℕ × Key) → IsPlain (linked_into s into found)
plain_linked_into s into found = search (plain, plain_links, plain_nestable, plain_room)

pub plain_sought : (type_name desc : List ℕ) → IsPlain (sought_name type_name desc)
unfolding sought_name
plain_sought type_name desc = search (plain, plain_kind)

pub plain_fault : (revoked expired denied : Bool) → is_memory (fault revoked expired denied) ≡ false
plain_fault true expired denied = refl
plain_fault false true denied = refl
plain_fault false false true = refl
plain_fault false false false = refl

pub plain_into : (s : State) (c : Context) (into : ℕ × Key) (answer : Result ℕ Errno) → IsPlain answer
    → IsPlain (found_into s c into answer)
plain_into s c into answer h = plain_after answer _ h (λ serial. search (plain, plain_linked_into) depth 12)

-- the steps that asks share
pub ruleset plains = (
  plain_context,
  plain_serial,
  plain_look_up,
  plain_within,
  plain_kind,
  plain_paid,
  plain_links,
  plain_room,
  plain_linked_into,
  plain_sought,
  plain_into,
  plain,
)
