-- The removal records of a sweep: a watched key that is dropped is told.
use Rattle.std.proofs.Common.{[], ◌&&◌, ◌==◌, ◌||◌, ◌∙◌, ◌∷◌, ◌≡◌, ◌≤◌, ap, arith, Bool, eq-eqb, false, is_some, IsSome}
use Rattle.std.proofs.Common.{List, not, option_map, refl, sym, true, true≢false, ℕ}
use Rattle.std.specs.List.{AllByRecursion, list_any}
use Rattle.krs_model.specs.{Orderly.Each, Queues.{Queues, Watch}, Sweep.live_watches, Table.{at, Table}}
use Rattle.krs_model.proofs.{Sweep.QueueAsks.{IsLive, live_each}, Tables.Changes.at_map}
use Rattle.krs_keys.specs.{Kept.KeepsAll, Keys.{seen, shown}, declared.key.Key.Key}
use Rattle.krs_watch.specs.{Changes.swept, Watched.AreDue}
use Rattle.krs_tables.specs.{Serving.SweepsOut, View.state_of, declared.tables.Tables.TheInside.Inside}
use Rattle.krs_tables.proofs.Definitions.{IsSweptTable, swept_state}
use Rattle.krs_model.specs.State as model

-- with these keys and queues
abbrev pub with_both : Inside → Table Key → Queues → model.State
with_both s keys q =
    record (state_of s) { keys = shown keys; queues = q.queues; watches = q.watches; next_queue = q.next_queue }

-- the watches of keys that are not there end
pub sweeps_dropped :
    (s : Inside) (new : Table Key) (q : Queues) → IsSweptTable s new
    → q ≡ swept (λ k. is_some (at (shown new) k)) s.queues → SweepsOut (state_of s) (with_both s new q)
sweeps_dropped s new q told is = rw is (record { swept = swept_state s new; sweep = told.sweep; posted = refl })

or_after : (a b : Bool) → b ≡ true → (a || b) ≡ true
or_after true b h = refl
or_after false b h = h

-- what is so of keys of some watches is so of those of more
still :
    (w : Watch) (some ws : List Watch)
    → AllByRecursion (λ (v : Watch). list_any (λ (u : Watch). u.0.0 == v.0.0) some ≡ true) ws
    → AllByRecursion (λ (v : Watch). list_any (λ (u : Watch). u.0.0 == v.0.0) (w ∷ some) ≡ true) ws
still w some [] all = tt
still w some (v ∷ ws) all =
    (or_after (w.0.0 == v.0.0) (list_any (λ (u : Watch). u.0.0 == v.0.0) some) all.0, still w some ws all.1)

-- the key of each watch is watched
all_watched :
    (ws : List Watch) → AllByRecursion (λ (v : Watch). list_any (λ (u : Watch). u.0.0 == v.0.0) ws ≡ true) ws
all_watched [] = tt
all_watched (w ∷ ws) = (
  ap (λ b. b || list_any (λ (u : Watch). u.0.0 == w.0.0) ws) (eq-eqb w.0.0 w.0.0 refl),
  still w ws ws (all_watched ws),
)

-- a watched key that isn't told stayed
is_told :
    (has told : ℕ → Bool) (old new : Table Key) (k : ℕ) → KeepsAll (λ q. has q && not (told q)) old new
    → IsSome (at (shown old) k) → has k ≡ true → is_some (at (shown new) k) ≡ false → told k ≡ true
is_told has told old new k kept there watched gone =
    elim (told k) as (λ b. told k ≡ b → b ≡ true) [
      | true ↦ λ t. refl
      | false ↦ λ t.
          let same : at new k ≡ at old k = kept k (ap (λ b. b && not (told k)) watched ∙ ap not t) in
          let still : is_some (at (shown new) k) ≡ true =
          ap is_some (at_map seen new k ∙ (ap (option_map seen) same ∙ sym (at_map seen old k))) ∙ there in
          absurd (true≢false (sym still ∙ gone))
    ] refl

each_told :
    (has told : ℕ → Bool) (old new : Table Key) (ws : List Watch) → KeepsAll (λ k. has k && not (told k)) old new
    → Each (IsLive (shown old)) ws → AllByRecursion (λ (w : Watch). has w.0.0 ≡ true) ws
    → AreDue (λ k. is_some (at (shown new) k)) told 0 ws
each_told has told old new [] kept live watched = tt
each_told has told old new (w ∷ ws) kept live watched = (
  λ gone. let least : 0 ≤ w.0.0 = omega arith in
      (least, is_told has told old new w.0.0 kept live.0 watched.0 gone),
  each_told has told old new ws kept live.1 watched.1,
)

-- each watch of a key that was dropped is of one that is told
pub dropped_told :
    (told : ℕ → Bool) (old new : Table Key) (ws : List Watch)
    → KeepsAll (λ k. list_any (λ w. w.0.0 == k) ws && not (told k)) old new → live_watches (shown old) ws ≡ ws
    → AreDue (λ k. is_some (at (shown new) k)) told 0 ws
dropped_told told old new ws kept live =
    each_told (λ k. list_any (λ w. w.0.0 == k) ws) told old new ws kept (live_each (shown old) ws live)
    (all_watched ws)
