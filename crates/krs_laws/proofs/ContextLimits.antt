-- A client has at most 64 contexts.
use Rattle.std.proofs.Common.{[], ◌+◌, ◌<◌, ◌==◌, ◌||◌, ◌∙◌, ◌∷◌, ◌≡◌, ◌≤◌, arith, Bool, cond, false, filter}
use Rattle.std.proofs.Common.{length, nat_cmp, nat_le, nat_lt, not, Ok, Option, refl, Some, subst, sym, true, ℕ}
use Rattle.std.proofs.lemmas.{Bool.Decides.nat_tests, List.Sums.sum_by-cons}
use Rattle.std.specs.{declared.cmp.Ordering.TheVariants.{Equal, Greater, Less}, Map.values_of}
use Rattle.std.specs.Ordering.{match_ordering}
use Rattle.krs_types.specs.{Caller.caller_check, declared.ask.{Answer.Answer, Op.{Op, TheVariants.Hello}}}
use Rattle.krs_types.specs.declared.{caller.Caller.Caller, context.{Context.Context, UidRings.UidRings}}
use Rattle.krs_model.specs.Asks.{Entering.without_thread, Hello.{context_count, has_context_left, hello}}
use Rattle.krs_model.specs.{Asks.{Invalidating.context_without, Leaving.left}, State.State, Table.{alter, map_values}}
use Rattle.krs_model.specs.{Step.outcome_of, Table.{at, IsDistinct, put, Table, without}}
use Rattle.krs_model.proofs.Asks.Houses.{Alters, Begins, Departs, Detaches, entering, Enters, Execs, Exits, Forked}
use Rattle.krs_model.proofs.Asks.Houses.{Houses}
use Rattle.krs_model.proofs.Asks.{Houses.{Named, Rings, Same, Threads}, Later.bind_ok}
use Rattle.krs_model.proofs.{History.Belongings.own_client, Lookups.Serials.own_there}
use Rattle.krs_model.proofs.Tables.{Distinct.{alter_distinct, at_filter_some}, Each.{every_alter, every_map, every_put}}
use Rattle.krs_model.proofs.Tables.Entries.{without_was}
use Rattle.std.proofs.lemmas.Grind.{common_steps}

-- 1 where the context is the client's
abbrev one_of : ℕ → Context → ℕ
one_of client c = cond (c.client == client) 1 0

counted : (client : ℕ) (e : ℕ × Context) (es : Table Context)
    → context_count client (e ∷ es) ≡ one_of client e.1 + context_count client es
counted client e es = sum_by-cons (λ c. cond (c.client == client) 1 0) e.1 (values_of es)

put_count : (client : ℕ) (es : Table Context) (n : ℕ) (c : Context)
    → context_count client (put es n c) ≤ context_count client es + one_of client c
put_count client [] n c = omega (arith, counted client (n, c) [])
put_count client (e ∷ es) n c =
    elim (nat_cmp n e.0) as (λ r. context_count client
    (match_ordering r ((n, c) ∷ e ∷ es) ((e.0, c) ∷ es) (e ∷ put es n c))
    ≤ context_count client (e ∷ es) + one_of client c) [
      | Less ↦ omega (arith, counted client (n, c) (e ∷ es))
      | Equal ↦ omega (arith, counted client (e.0, c) es, counted client e es)
      | Greater ↦ omega (arith, counted client e (put es n c), counted client e es, put_count client es n c)
    ]

alter_count : (client : ℕ) (es : Table Context) (n : ℕ) (f : Context → Context)
    → ((c : Context) → (f c).client ≡ c.client)
    → context_count client (alter es n f) ≡ context_count client es
alter_count client [] n f same = refl
alter_count client (e ∷ es) n f same = grind (arith, common_steps, nat_cmp, counted, alter_count client es n f same)

map_count : (client : ℕ) (es : Table Context) (f : Context → Context) → ((c : Context) → (f c).client ≡ c.client)
    → context_count client (map_values f es) ≡ context_count client es
map_count client [] f same = refl
map_count client (e ∷ es) f same = grind (arith, common_steps, counted, map_count client es f same)

filter_count : (client : ℕ) (p : ℕ × Context → Bool) (es : Table Context)
    → context_count client (filter p es) ≤ context_count client es
filter_count client p [] = omega arith
filter_count client p (e ∷ es) = grind (arith, common_steps, counted, filter_count client p es)

without_count : (client : ℕ) (es : Table Context) (n : ℕ)
    → context_count client (without es n) ≤ context_count client es
without_count client [] n = omega arith
without_count client (e ∷ es) n = grind (arith, common_steps, nat_cmp, counted, without_count client es n)

-- an ask that makes a context finds room for it
few_left : (s : State) (client : ℕ) (x : Unit {0}) → has_context_left s client ≡ Ok x
    → context_count client s.contexts < 64
few_left s client x h = grind (arith, common_steps, nat_le, nat_tests)

-- a further context of the client
put_few : (s : State) (client other n : ℕ) (c : Context) → c.client ≡ client → context_count client s.contexts < 64
    → context_count other s.contexts ≤ 64 → context_count other (put s.contexts n c) ≤ 64
put_few s client other n c mine left few =
    let more = put_count other s.contexts n c in
    elim (c.client == other) as (λ b. (c.client == other) ≡ b
    → context_count other (put s.contexts n c) ≤ context_count other s.contexts + cond b 1 0
    → context_count other (put s.contexts n c) ≤ 64) [
      | true ↦ λ t le.
          let same : c.client ≡ other = grind (arith, nat_tests) in
          let room : context_count other s.contexts < 64 =
          subst (λ (z : ℕ). context_count z s.contexts < 64) (sym mine ∙ same) left in
          omega arith
      | false ↦ λ t le. omega arith
    ] refl more

pub houses_few :
    (s : State) (client context : ℕ) (op : Op) (contexts : Table Context) (processes : Table (Option ℕ))
    (uids : Table UidRings) → Houses s client context op contexts processes uids → (other : ℕ)
    → context_count other s.contexts ≤ 64 → context_count other contexts ≤ 64
unfolding left
houses_few s client context op _ _ _ Same other few = few
houses_few s client context op _ _ _ (Begins caller session rings room is none left begun) other few =
    put_few s client other s.next_context (entering s client caller session) refl
    (few_left s client room left) few
houses_few s client context op _ _ _ (Enters caller session room who left) other few =
    put_few s client other s.next_context (entering s client caller session) refl
    (few_left s client room left) few
houses_few s client context op _ _ _ (Threads d room is own left) other few =
    put_few s client other s.next_context (without_thread d) (own_client s client context d own)
    (few_left s client room left) few
houses_few s client context op _ _ _ (Alters d f own stays how) other few =
    omega (arith, alter_count other s.contexts context f stays.client)
houses_few s client context op _ _ _ (Rings d n own begun) other few = few
houses_few s client context op _ _ _ (Execs d is own) other few =
    let same = alter_count other s.contexts context without_thread (λ c. refl) in
    let less = filter_count other (λ e. not (e.1.process == d.process) || (e.0 == context))
    (alter s.contexts context without_thread) in
    omega arith
houses_few s client context op _ _ _ (Detaches d id gone is own found) other few =
    omega (arith, map_count other s.contexts (context_without gone.0) (λ c. refl))
houses_few s client context op _ _ _ (Exits d is own) other few =
    omega (arith, without_count other s.contexts context)
houses_few s client context op _ _ _ (Departs is) other few =
    omega (arith, filter_count other (λ e. not (e.1.client == client)) s.contexts)

-- ---- groups
abbrev HasFewGroups : Context → Type 0
HasFewGroups c = length c.caller.groups ≤ 32

abbrev pub AllGrouped : Table Context → Type 0
AllGrouped contexts = (number : ℕ) (c : Context) → at contexts number ≡ Some c → HasFewGroups c

checked_few : (c : Caller) (x : Unit {0}) → caller_check c ≡ Ok x → length c.groups ≤ 32
checked_few c x h = grind (arith, common_steps, nat_lt, nat_tests)

pub hello_few :
    (s : State) (client context : ℕ) (caller : Caller) (end : State × Answer)
    → outcome_of s client context (Hello caller) ≡ Ok end → length caller.groups ≤ 32
unfolding hello
hello_few s client context caller end h = grind (arith, common_steps, bind_ok, checked_few)

pub houses_grouped :
    (s : State) (client context : ℕ) (op : Op) (contexts : Table Context) (processes : Table (Option ℕ))
    (uids : Table UidRings) → IsDistinct s.contexts → Houses s client context op contexts processes uids
    → ((caller : Caller) → op ≡ Hello caller → length caller.groups ≤ 32) → AllGrouped s.contexts → AllGrouped contexts
unfolding left
houses_grouped s client context op _ _ _ distinct Same greets few = few
houses_grouped s client context op _ _ _ distinct (Begins caller session rings room is none left begun) greets few =
    every_put HasFewGroups s.contexts s.next_context (entering s client caller session) (greets caller is) few
houses_grouped s client context op _ _ _ distinct (Enters _ _ room (Named caller rings is known) left) greets few =
    every_put HasFewGroups s.contexts s.next_context (entering s client caller rings.session) (greets caller is) few
houses_grouped s client context op _ _ _ distinct (Enters _ _ room (Forked d is own) left) greets few =
    every_put HasFewGroups s.contexts s.next_context (entering s client d.caller d.session)
    (few context d (own_there s client context d own)) few
houses_grouped s client context op _ _ _ distinct (Threads d room is own left) greets few =
    every_put HasFewGroups s.contexts s.next_context (without_thread d)
    (few context d (own_there s client context d own)) few
houses_grouped s client context op _ _ _ distinct (Alters d f own stays how) greets few =
    every_alter HasFewGroups s.contexts context f
    (λ c there. subst (λ (caller : Caller). length caller.groups ≤ 32) (sym (stays.caller c))) few
houses_grouped s client context op _ _ _ distinct (Rings d n own begun) greets few = few
houses_grouped s client context op _ _ _ distinct (Execs d is own) greets few = λ number c there.
    every_alter HasFewGroups s.contexts context without_thread (λ v here short. short) few number c
    (at_filter_some (λ e. not (e.1.process == d.process) || (e.0 == context))
    (alter s.contexts context without_thread) number c
    (alter_distinct s.contexts context without_thread distinct) there)
houses_grouped s client context op _ _ _ distinct (Detaches d id gone is own found) greets few =
    every_map HasFewGroups s.contexts (context_without gone.0) (λ v short. short) few
houses_grouped s client context op _ _ _ distinct (Exits d is own) greets few = λ number c there.
    few number c (without_was s.contexts context number c distinct there)
houses_grouped s client context op _ _ _ distinct (Departs is) greets few = λ number c there.
    few number c (at_filter_some (λ e. not (e.1.client == client)) s.contexts number c distinct there)
