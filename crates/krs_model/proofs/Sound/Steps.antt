-- Each step leaves a store sound.
use Rattle.std.proofs.Common.{[], ◌++◌, ◌∷◌, ◌≡◌, ap, append-nil, append_assoc, arith, Err, List, Ok, refl, Result}
use Rattle.std.proofs.{Common.{subst, sym, true≢false, ℕ}, lemmas.{Bool.Decides.nat_tests, Option.none-some}}
use Rattle.std.specs.List.Sorted.{IsStrictlySortedBy}
use Rattle.krs_types.specs.declared.{ask.{Answer.Answer, Op.Op}, errno.Errno.Errno, event.Event.Event}
use Rattle.krs_model.specs.{History.IsLegal, Notes.{Posting.{dropped_watches, Post, posted_in}, Telling.notes_of}}
use Rattle.krs_model.specs.{Orderly.{AreOrderly, Each, IsWatch}, Queues.queues_of, Reach.{Directly, Further}}
use Rattle.krs_model.specs.{Reach.{IsAcyclic, links_of_key_at, Reaches}, Sound.{AreHoused, AreInUse, IsSound}}
use Rattle.krs_model.specs.{State.{Key, Queue, raised, starting_at, State}, Step.{Ends, outcome_of, posts_by, Serves}}
use Rattle.krs_model.specs.{Step.{Step, watches_left}, Sweep.{IsSweep, IsSwept}, Table.{IsBelow, Rises, Table}}
use Rattle.krs_model.proofs.Asks.{Effects.effect_of, GreatestSerial.{few_swept, mid_few}, Laws.law_of}
use Rattle.krs_model.proofs.Notes.Fitting.{ArePosts, each_filter, each_on, FitsRecord, posts_fit}
use Rattle.krs_model.proofs.Sound.{Changes.{same_stands, Stands, sweep_stands}, InUse.houses_in_use}
use Rattle.krs_model.proofs.Sound.Queues.{effect_orderly, ended_watch, posted_orderly, sweep_orderly}
use Rattle.krs_model.proofs.Sweep.Laws.{sweep_swept}
use Rattle.krs_model.specs.Queues as queues
use Rattle.std.proofs.lemmas.Grind.{common_steps}

posted_stands : (ps : List Post) (s : State) → Stands s → Stands (posted_in ps s)
posted_stands ps s stands = same_stands s _ refl refl stands.attached stands.placed stands.housed stands

pub sound_stands : (s : State) → IsSound s → Stands s
sound_stands s sound = search depth 8

stands_sound :
    (s : State) → Stands s → AreInUse s.contexts s.processes s.uids → IsBelow s.keys 2147483648 → IsSwept s
    → AreOrderly (queues_of s) → IsSound s
stands_sound s stands used few swept orderly = search depth 8

-- the clock alone
pub raised_sound : (s : State) (moment : ℕ) → IsSound s → IsSound (raised s moment)
raised_sound s moment sound = search (stands_sound, same_stands, sound_stands) depth 8

each_append : (P : queues.Watch → Type 0) (vs ws : List queues.Watch) → Each P vs → Each P ws → Each P (vs ++ ws)
each_append P [] ws f g = g
each_append P (v ∷ vs) ws f g = (f.0, each_append P vs ws f.1 g)

fits_on : (table : Table Queue) (ws : List queues.Watch) → Each (IsWatch table) ws → Each FitsRecord ws
fits_on table ws h = each_on (IsWatch table) FitsRecord ws (λ w is. record { key = is.key; id = is.id }) h

-- what an accepted ask posts
pub posts_by_fit :
    (s mid : State) (client context : ℕ) (op : Op) (answer : Answer) (keys : Table Key) → IsSound s
    → outcome_of s client context op ≡ Ok (mid, answer) → ArePosts (posts_by s client context op answer keys)
posts_by_fit s mid client context op answer keys sound meant =
    let effect = effect_of s client context op mid answer meant in
    let few = mid_few s mid client context op answer meant sound.placed sound.unused sound.few in
    let ended = ended_watch s client context op mid answer effect sound.few sound.orderly in
    let orderly = effect_orderly s client context op mid answer effect sound.few sound.orderly in
    let gone = each_filter (IsWatch mid.queues) _ mid.watches orderly.watches in
    let left : watches_left (outcome_of s client context op) ≡ mid.watches = ap watches_left meant in
    let dropped : Each FitsRecord (dropped_watches keys (watches_left (outcome_of s client context op))) =
    subst (λ (ws : List queues.Watch). Each FitsRecord (dropped_watches keys ws)) (sym left)
    (fits_on mid.queues _ gone) in
    posts_fit (queues_of s) (notes_of s client context op answer) _ sound.orderly.watches
    ((law_of s client context op).small mid answer few meant)
    (each_append FitsRecord _ _ (fits_on s.queues _ ended) dropped)

-- a sweep is of keys
swept_in_use :
    (old new : State) → IsSweep old new → AreInUse old.contexts old.processes old.uids
    → AreInUse new.contexts new.processes new.uids
swept_in_use old new s used = subst (λ (z : State). AreInUse z.contexts z.processes z.uids) (sym s.rest) used

-- what an accepted ask leaves is sound
pub served_sound :
    {s new : State} {client context : ℕ} {op : Op} {answer : Answer} → IsSound s
    → Serves s client context op answer new → IsSound new
served_sound {s} {new} {client} {context} {op} {answer} sound serves =
    let mid = serves.mid in
    let swept = serves.swept in
    let meant = serves.meant in
    let stood = ((law_of s client context op).fares.meets mid answer meant).stands (sound_stands s sound) in
    let stands = sweep_stands mid swept serves.sweep stood in
    let still = sweep_swept mid swept serves.sweep in
    let few = mid_few s mid client context op answer meant sound.placed sound.unused sound.few in
    let kept = few_swept mid swept serves.sweep few in
    let effect = effect_of s client context op mid answer meant in
    let orderly = sweep_orderly mid swept serves.sweep
    (effect_orderly s client context op mid answer effect sound.few sound.orderly) in
    let used = houses_in_use s client context op mid.contexts mid.processes mid.uids (sound_stands s sound) sound.used
    ((law_of s client context op).fares.meets mid answer meant).houses in
    let ps = posts_by s client context op answer swept.keys in
    let fit = posts_by_fit s mid client context op answer swept.keys sound meant in
    subst IsSound (sym serves.posted)
    (stands_sound (posted_in ps swept) (posted_stands ps swept stands)
    (swept_in_use mid swept serves.sweep used) kept
    (record { keys = still.keys; watches = still.watches }) (posted_orderly ps (queues_of swept) fit orderly))

end_sound :
    (s new : State) (client context : ℕ) (op : Op) (reply : Result Answer Errno) → IsSound s
    → Ends s client context op reply new → IsSound new
end_sound s new client context op (Ok answer) sound serves = served_sound sound serves
end_sound s new client context op (Err e) sound ends = subst IsSound (sym ends.1) sound

-- each step leaves a store sound
pub step_sound : (old new : State) (event : Event) → IsSound old → Step old event new → IsSound new
unfolding Step
step_sound old new event sound step = grind (arith, nat_tests, end_sound, raised_sound)

-- before the sweep no keyring reaches itself
pub served_acyclic :
    (old up mid : State) (moment client context : ℕ) (op : Op) (answer : Answer) → IsSound old → up ≡ raised old moment
    → outcome_of up client context op ≡ Ok (mid, answer) → IsAcyclic (links_of_key_at mid.keys)
served_acyclic old up mid moment client context op answer sound raise meant =
    let above : IsSound up = subst IsSound (sym raise) (raised_sound old moment sound) in
    (((law_of up client context op).fares.meets mid answer meant).stands (sound_stands up above)).acyclic

not_linked : (a b : ℕ) → Reaches (λ k. []) a b → ⊥
not_linked _ _ (Directly a b h) = true≢false (sym h)
not_linked _ _ (Further a j b p h) = true≢false (sym h)

none_rise : (X : Type 0) → Rises {X = X} []
unfolding IsStrictlySortedBy
none_rise X = tt

none_housed : AreHoused [] [] [] 1
none_housed = search (true≢false, none_rise) depth 8

-- an empty store is sound
pub start_sound : (n : ℕ) → IsSound (starting_at n)
start_sound n = grind (arith, nat_tests, not_linked, true≢false, none_housed, none-some, none_rise)

-- and so is the end of each legal history
pub legal_sound :
    (start : State) (events : List Event) (end : State) → IsSound start → IsLegal start events end → IsSound end
unfolding IsLegal
legal_sound start [] end sound legal = subst IsSound legal sound
legal_sound start (event ∷ events) end sound legal =
    legal_sound legal.0 events end (step_sound start legal.0 event sound legal.1) legal.2

-- what each step keeps, a legal history keeps
pub legal_keeps :
    (P : State → List Event → Type 0)
    → ((old new : State) (past : List Event) (event : Event) → IsSound old → P old past → Step old event new
    → P new (past ++ event ∷ []))
    → (start end : State) (past events : List Event) → IsSound start → P start past → IsLegal start events end
    → P end (past ++ events)
unfolding IsLegal
legal_keeps P step start end past [] sound known legal = grind (arith, common_steps, append-nil)
legal_keeps P step start end past (event ∷ events) sound known legal =
    subst (P end) (append_assoc past (event ∷ []) events)
    (legal_keeps P step legal.0 end (past ++ event ∷ []) events (step_sound start legal.0 event sound legal.1)
    (step start legal.0 past event sound known legal.1) legal.2)
