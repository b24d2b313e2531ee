-- WATCH, from what the store has looked up to what it comes to and tells.
use Rattle.std.proofs.Common.{[], ◌∙◌, ◌∷◌, ◌≡◌, ap, FitsSigned, None, of_z, Ok, Option, refl, Some, sym, to_z, w32, ℕ}
use Rattle.std.proofs.{Common.ℤ, lemmas.Int.to_z-of_z}
use Rattle.krs_types.specs.{Rights.VIEW, declared.ask.Answer.TheVariants.Nothing}
use Rattle.krs_types.specs.declared.{context.Context.Context, rights.Want.TheVariants.Granted}
use Rattle.krs_model.specs.Asks.Watching.{Change, unwatched, watch, watch_id_of, watched}
use Rattle.krs_model.specs.Lookup.{context_of, look_up}
use Rattle.krs_model.specs.Notes.{Posting.{posted, removal_for}, Telling.{ended_by, named}}
use Rattle.krs_model.specs.{Queues.{Queues, queues_of, Watch, watch_at, with_queues}, State.{Key, State}}
use Rattle.krs_model.proofs.Asks.Effects.{unwatched_is}
use Rattle.krs_model.proofs.{Asks.Later.{bind_ok, same_ok}, Lookups.Serials.found_serial, Sound.Queues.ended_set}
use Rattle.krs_watch.specs.Changes.{watch_ended}
use Rattle.krs_tables.specs.Serving.{Tells}
use Rattle.krs_tables.proofs.PostsAndSweep.{tells_ended, tells_nothing}
use Rattle.krs_types.specs.declared.ask.Op.TheVariants as op

-- what WATCH has looked up
pub record LooksAt
    (s : State) (client context : ℕ) (id watch_id : ℤ) (c : Context) (asked : Option ℕ)
    (found : ℕ × Key) : Type 0 where
  pub own : context_of s client context ≡ Ok c
  pub asks : watch_id_of watch_id ≡ Ok asked
  pub found_key : look_up s c id (Granted VIEW) ≡ Ok found

-- ids come as numbers of 32 bits, and are read as signed ones
pub looks_at :
    (s : State) (client context : ℕ) (id watch_id : ℤ) (c : Context) (asked : Option ℕ) (found : ℕ × Key)
    → FitsSigned w32 id → FitsSigned w32 watch_id → context_of s client context ≡ Ok c
    → Ok asked ≡ watch_id_of (to_z w32 (of_z w32 watch_id))
    → look_up s c (to_z w32 (of_z w32 id)) (Granted VIEW) ≡ Ok found
    → LooksAt s client context id watch_id c asked found
looks_at s client context id watch_id c asked found id_fits watch_fits own asks is = record {
  own = own;
  asks = ap watch_id_of (sym (to_z-of_z w32 watch_id watch_fits)) ∙ sym asks;
  found_key = ap (λ n. look_up s c n (Granted VIEW)) (sym (to_z-of_z w32 id id_fits)) ∙ is;
}

names :
    (s : State) (client context : ℕ) (id watch_id : ℤ) (c : Context) (asked : Option ℕ) (found : ℕ × Key)
    → LooksAt s client context id watch_id c asked found → named s client context id ≡ Ok found.0
names s client context id watch_id c asked found l = rw l.own (found_serial s c id (Granted VIEW) found l.found_key)

-- the queues that are left
abbrev ends_in : Queues → Change (Unit {0})
ends_in q = Ok (q, tt)

-- a watch is set
pub watch_set :
    (s : State) (q : Queues) (client context : ℕ) (id watch_id : ℤ) (number n : ℕ) (c : Context) (found : ℕ × Key)
    → LooksAt s client context id watch_id c (Some n) found
    → watched (queues_of s) client number found.0 n ≡ ends_in q
    → Tells s client context (op.Watch id number watch_id) Nothing (with_queues s q)
unfolding watch
watch_set s q client context id watch_id number n c found l set =
    tells_nothing (rw (l.own, l.asks, l.found_key, set) refl) refl
    (rw l.asks (ended_set s.watches (named s client context id) number n))

same_end : (a b : Queues) → ends_in a ≡ ends_in b → a ≡ b
same_end a b h = ap (λ (x : Queues × Unit {0}). x.0) (same_ok (ends_in a) (a, tt) (b, tt) refl h)

-- the state that the end of a watch leaves
watch_left :
    (s : State) (client context : ℕ) (id watch_id : ℤ) (number : ℕ) (c : Context) (found : ℕ × Key) (x : Queues × ℕ)
    → LooksAt s client context id watch_id c None found → unwatched (queues_of s) client number found.0 ≡ Ok x
    → watch s client context id number watch_id ≡ Ok (with_queues s x.0, Nothing)
unfolding watch
watch_left s client context id watch_id number c found x l ended = rw (l.own, l.asks, l.found_key, ended) refl

ended_is :
    (s : State) (client context : ℕ) (id watch_id : ℤ) (number n : ℕ) (c : Context) (found : ℕ × Key)
    → LooksAt s client context id watch_id c None found → watch_at s.watches found.0 number ≡ Some n
    → ended_by s client context (op.Watch id number watch_id) ≡ ((found.0, number), n) ∷ []
ended_is s client context id watch_id number n c found l there =
    rw (names s client context id watch_id c None found l, l.asks, there) refl

-- a watch ends, and its queue gets a removal record
pub watch_ends :
    (s : State) (q : Queues) (client context : ℕ) (id watch_id : ℤ) (number : ℕ) (c : Context) (found : ℕ × Key)
    → LooksAt s client context id watch_id c None found
    → watch_ended (queues_of s) client number found.0 ≡ ends_in q
    → Tells s client context (op.Watch id number watch_id) Nothing (with_queues s q)
watch_ends s q client context id watch_id number c found l h =
    let key = found.0 in
    let a = bind_ok (unwatched (queues_of s) client number key) _ (q, tt {0}) h in
    let ended : Watch = ((key, number), a.0.1) in
    let is = unwatched_is (queues_of s) client number key a.0 a.1 in
    let same : posted (removal_for ended ∷ []) a.0.0 ≡ q = same_end _ q a.2 in
    tells_ended ended (watch_left s client context id watch_id number c found a.0 l a.1) refl
    (ended_is s client context id watch_id number a.0.1 c found l is.2) (ap (with_queues s) (sym same))
