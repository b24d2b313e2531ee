-- Payloads and links stay within their limits, ask by ask.
use Rattle.std.proofs.Common.{[], ◌%◌, ◌+◌, ◌/◌, ◌==◌, ◌∷◌, ◌≤◌, arith, Bool, codes, cond, decimal, false, length, List}
use Rattle.std.proofs.Common.{length-append, nat_lt, None, Ok, Option, Some, suc, true, zero, ℕ, ℤ, ◌≡◌}
use Rattle.std.proofs.lemmas.Bool.Decides.{nat_tests}
use Rattle.std.specs.Fmt.{digit_glyph, digits, digits_onto}
use Rattle.krs_types.specs.Rights.{LINK, WRITE}
use Rattle.krs_types.specs.declared.ask.Op.{Op}
use Rattle.krs_types.specs.declared.ask.Op.TheVariants.{Add, Link, Move, Request, Search, Update}
use Rattle.krs_types.specs.declared.caller.Caller.{Caller}
use Rattle.krs_types.specs.declared.context.Context.{Context}
use Rattle.krs_types.specs.declared.context.UidRings.{UidRings}
use Rattle.krs_types.specs.declared.errno.Errno.TheVariants.{EINVAL}
use Rattle.krs_types.specs.declared.rights.Want.{Want}
use Rattle.krs_types.specs.declared.rights.Want.TheVariants.{Granted}
use Rattle.krs_model.specs.Asks.Adding.{add, admitted, place_of}
use Rattle.krs_model.specs.Asks.Changing.{update}
use Rattle.krs_model.specs.Asks.Finding.{made_where}
use Rattle.krs_model.specs.Asks.Hello.{uid_ring, with_uid}
use Rattle.krs_model.specs.Asks.Joining.{session_joined, session_named, session_ring}
use Rattle.krs_model.specs.Asks.Linked.{unless}
use Rattle.krs_model.specs.Asks.Moving.{move_link, moved}
use Rattle.krs_model.specs.Lookup.{context_of, look_up}
use Rattle.krs_model.specs.Making.{made_for}
use Rattle.krs_model.specs.Search.{found}
use Rattle.krs_model.specs.State.{Key, State}
use Rattle.krs_model.specs.Step.{each_ask, outcome_of}
use Rattle.krs_model.specs.Table.{at, put}
use Rattle.krs_model.proofs.Asks.Fares.{meets_by}
use Rattle.krs_model.proofs.Asks.LaterByAsk.{moved_is}
use Rattle.krs_model.proofs.Asks.Outcomes.{Meets, meets_after, meets_ok, meets_within}
use Rattle.krs_model.proofs.Lookups.Laws.{look_up_usable}
use Rattle.krs_model.proofs.Sound.Changes.{Stands}
use Rattle.krs_model.proofs.Sound.NewContexts.{made_for_stands}
use Rattle.krs_laws.specs.Limits.{IsShort}
use Rattle.krs_laws.proofs.KeyLimits.{added_short, admitted_named, admitted_short, AllShort, cleared_short}
use Rattle.krs_laws.proofs.KeyLimits.{emptied_short, found_short}
use Rattle.krs_laws.proofs.KeyLimits.{linked_short, made_short, moved_short, paid_short, short_alter, short_map}
use Rattle.krs_laws.proofs.KeyLimits.{short_put, unlinked_short, updated_short}
use Rattle.std.proofs.lemmas.Grind.{common_steps}

abbrev Shortly : State → ℕ → ℕ → Op → Type 0
Shortly s client context op = Meets (λ (new : State). AllShort new.keys) (outcome_of s client context op)

update_short : (s : State) (client context : ℕ) (id : ℤ) (payload : List ℕ) → AllShort s.keys
    → Shortly s client context (Update id payload)
unfolding update
update_short s client context id payload all =
    grind (arith, common_steps, meets_after, meets_ok, short_alter, updated_short, paid_short)

add_short : (s : State) (client context : ℕ) (type_name desc payload : List ℕ) (ring : ℤ) → Stands s → AllShort s.keys
    → Shortly s client context (Add type_name desc payload ring)
unfolding add
add_short s client context type_name desc payload ring stands all =
    meets_after (context_of s client context) _ (λ c _.
    meets_after (admitted type_name desc payload) _ (λ name fits.
    let made = made_for s context c ring in
    let none : at made.0.keys made.0.next_serial ≡ None =
    (made_for_stands s context c ring stands).unused made.0.next_serial (omega arith) in
    meets_after (place_of made.0 made.1 name ring) _ (λ place is.
    meets_ok (added_short made.0 made.1 name payload ring place is none
    (admitted_short type_name desc payload name fits) (admitted_named type_name desc payload name fits)
    (made_short s context c ring all)))))

where_short : (create : Bool) (s : State) (context : ℕ) (c : Context) (id : ℤ) → AllShort s.keys
    → AllShort (made_where create s context c id).0.keys
where_short true s context c id all = made_short s context c id all
where_short false s context c id all = all

session_short : (name : List ℕ) (c : Caller) → IsShort (session_ring name c).content
session_short name c = grind (arith, common_steps, codes)

session_named_short : (name : List ℕ) (c : Caller) (x : Unit {0}) → session_named name ≡ Ok x
    → length (session_ring name c).desc ≤ 4095
session_named_short name c x h = grind (arith, common_steps, codes, nat_lt, nat_tests)

joined_short :
    (s : State) (context : ℕ) (c : Context) (name : List ℕ) (answer : Option (ℕ × Key)) (x : Unit {0})
    → session_named name ≡ Ok x → AllShort s.keys
    → Meets (λ (new : State). AllShort new.keys) (session_joined s context c name answer)
joined_short s context c name (Some there) x fits all = meets_ok all
joined_short s context c name None x fits all =
    meets_ok (short_put s.keys s.next_serial (session_ring name c.caller) (session_short name c.caller)
    (session_named_short name c.caller x fits) all)

-- decimals of a number are 64 at most
digits_length : (k base n : ℕ) (upper : Bool) (acc : List ℕ)
    → length (digits_onto k base upper n acc) ≤ k + length acc
digits_length zero base n upper acc = omega arith
digits_length (suc k) base n upper acc =
    let more = digits_length k base (n / base) upper (digit_glyph upper (n % base) ∷ acc) in
    elim (n / base == 0) as (λ b. length (cond b (digit_glyph upper (n % base) ∷ acc)
    (digits_onto k base upper (n / base) (digit_glyph upper (n % base) ∷ acc))) ≤ suc k + length acc) [
      | true ↦ omega arith
      | false ↦ omega arith
    ]

decimal_short : (n : ℕ) → length (decimal n) ≤ 64
unfolding digits
decimal_short n = let most = digits_length 64 10 n false [] in omega arith

uid_named : (prefix links : List ℕ) (c : Caller) → length prefix ≤ 9 → length (uid_ring prefix links c).desc ≤ 4095
uid_named prefix links c short =
    let most = decimal_short c.uid in let all = length-append prefix (decimal c.uid) in omega arith

uid_short : (s : State) (caller : Caller) (rings : Option UidRings) → AllShort s.keys
    → AllShort (with_uid s caller rings).keys
uid_short s caller (Some rings) all = all
uid_short s caller None all =
    let first = uid_ring (codes "_uid.") [] caller in
    let second = uid_ring (codes "_uid_ses.") (s.next_serial ∷ []) caller in
    short_put (put s.keys s.next_serial first) (s.next_serial + 1) second (omega arith)
    (uid_named (codes "_uid_ses.") (s.next_serial ∷ []) caller (omega arith))
    (short_put s.keys s.next_serial first (omega arith) (uid_named (codes "_uid.") [] caller (omega arith)) all)

move_short : (s : State) (client context : ℕ) (key from to : ℤ) (flags : ℕ) → AllShort s.keys
    → Shortly s client context (Move key from to flags)
unfolding move_link
move_short s client context key from to flags all =
    meets_after (context_of s client context) _ (λ c _.
    meets_after (unless (nat_lt 1 flags) EINVAL) _ (λ known _.
    meets_after (look_up s c key (Granted LINK)) _ (λ there _.
    meets_after (look_up s c from (Granted WRITE)) _ (λ first _.
    let made = made_for s context c to in
    meets_within s _ (
    meets_after (look_up made.0 made.1 to (Granted WRITE)) _ (λ into goes.
    meets_after (moved made.0 (flags == 1) there first into) _ (λ new moves.
    meets_ok (moved_short made.0 there first into new (look_up_usable made.0 made.1 to (Granted WRITE) into goes).there
    (moved_is made.0 (flags == 1) there first into new moves) (made_short s context c to all)))))))))

found_there : (s : State) (c : Context) (id : ℤ) (want : Want) (found : ℕ × Key) → look_up s c id want ≡ Ok found
    → at s.keys found.0 ≡ Some found.1
found_there s c id want found is = (look_up_usable s c id want found is).there

ruleset shorts = (
  meets_after,
  meets_within,
  meets_ok,
  short_alter,
  short_map,
  emptied_short,
  cleared_short,
  unlinked_short,
  where_short,
  joined_short,
  uid_short,
)

pub all_short : (s : State) (client context : ℕ) (op : Op) → Stands s → AllShort s.keys → Shortly s client context op
unfolding each_ask
all_short s client context (Search head type_name desc dest) stands all =
    search (found_short, made_short, meets_by, shorts) depth 16
all_short s client context (Request type_name desc dest) stands all =
    search (found_short, made_short, meets_by, shorts) depth 16
all_short s client context (Add type_name desc payload ring) stands all =
    add_short s client context type_name desc payload ring stands all
all_short s client context (Update id payload) stands all = update_short s client context id payload all
all_short s client context (Link key ring) stands all =
    search (linked_short, found_there, made_short, shorts) depth 12
all_short s client context (Move key from to flags) stands all = move_short s client context key from to flags all
all_short s client context op stands all = search shorts depth 12
