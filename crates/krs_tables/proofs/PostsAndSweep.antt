-- For a store that takes a step in turn: posts and the sweep touch different parts, so the order between them is free.
use Rattle.std.proofs.Common.{[], ◌++◌, ◌∙◌, ◌∷◌, ◌≡◌, ap, append-nil, append_assoc, flat_map, List, map, Ok, refl}
use Rattle.std.proofs.Common.{Result, subst, sym, ℕ}
use Rattle.krs_types.specs.declared.{ask.{Answer.Answer, Op.Op}, errno.Errno.Errno}
use Rattle.krs_model.specs.Notes.Posting.{dropped_watches, Note, Post, posted_in, posts, posts_of, removal_for}
use Rattle.krs_model.specs.Notes.Telling.{ended_by, notes_of}
use Rattle.krs_model.specs.{Queues.{Queues, queues_of, Watch}, Reach.{IsAcyclic, links_of_key_at}, Sound.IsSound}
use Rattle.krs_model.specs.{State.{Key, Queue, raised, State}, Step.{outcome_of, posts_by, Serves, watches_left}}
use Rattle.krs_model.specs.{Sweep.{IsSweep, live_watches}, Table.Table}
use Rattle.krs_model.proofs.Asks.Effects.{Closes, Effect, effect_of, Filters, Leaves, OfKeys, Opens, Reads, Unwatches}
use Rattle.krs_model.proofs.Asks.Effects.{Watches}
use Rattle.krs_model.proofs.{Notes.Posts.post_all-append, Sound.Steps.{raised_sound, served_acyclic, served_sound}}
use Rattle.krs_tables.specs.Serving.{SweepsOut, Tells}

-- what is swept after posts is what was swept before them, with those posts
pub record SweptBefore (ps : List Post) (mid new : State) : Type 0 where
  pub swept : State
  pub sweep : IsSweep mid swept
  pub posted : new ≡ posted_in ps swept

pub sweep_posted : (ps : List Post) (mid new : State) → IsSweep (posted_in ps mid) new → SweptBefore ps mid new
sweep_posted ps mid new sweep =
    let swept : State = record mid { keys = new.keys; watches = live_watches new.keys mid.watches } in
    record {
      swept = swept;
      sweep = record { kept = sweep.kept; picks = sweep.picks; keys = sweep.keys; rest = refl };
      posted = sweep.rest;
    }

-- posts one list after the other
pub posted_twice : (ps qs : List Post) (s : State) → posted_in qs (posted_in ps s) ≡ posted_in (ps ++ qs) s
posted_twice ps qs s =
    ap (λ (queues : Table Queue). record s { queues = queues }) (sym (post_all-append ps qs s.queues))

-- no post changes nothing
pub posted_nothing : (ps : List Post) (s : State) → ps ≡ [] → posted_in ps s ≡ s
posted_nothing ps s none = ap (λ (qs : List Post). posted_in qs s) none

removals_append : (vs ws : List Watch) → map removal_for (vs ++ ws) ≡ map removal_for vs ++ map removal_for ws
removals_append [] ws = refl
removals_append (v ∷ vs) ws = ap (λ (ps : List Post). removal_for v ∷ ps) (removals_append vs ws)

posts_further :
    (q : Queues) (notes : List Note) (ended dropped : List Watch)
    → posts q notes ended ++ map removal_for dropped ≡ posts q notes (ended ++ dropped)
posts_further q notes ended dropped =
    let told = flat_map (posts_of q) notes in
    append_assoc told (map removal_for ended) (map removal_for dropped)
    ∙ ap (λ (ps : List Post). told ++ ps) (sym (removals_append ended dropped))

-- the parts of a step, taken in turn, are a step
pub serves_in_turn :
    {s told new : State} {client context : ℕ} {op : Op} {answer : Answer} → Tells s client context op answer told
    → SweepsOut told new → Serves s client context op answer new
serves_in_turn {s} {told} {new} {client} {context} {op} {answer} tells sweeps =
    let mid = tells.mid in
    let notes = notes_of s client context op answer in
    let ended = ended_by s client context op in
    let ps = posts (queues_of s) notes ended in
    let gone : State → Table Key → List Post = λ t keys. map removal_for (dropped_watches keys t.watches) in
    let after : IsSweep (posted_in ps mid) sweeps.swept =
    subst (λ (t : State). IsSweep t sweeps.swept) tells.posted sweeps.sweep in
    let before = sweep_posted ps mid sweeps.swept after in
    let swept = before.swept in
    let keys : sweeps.swept.keys ≡ swept.keys = ap (λ (t : State). t.keys) before.posted in
    let same : gone told sweeps.swept.keys ≡ gone mid swept.keys =
    ap (λ (t : State). gone t sweeps.swept.keys) tells.posted ∙ ap (gone mid) keys in
    let left : dropped_watches swept.keys mid.watches
    ≡ dropped_watches swept.keys (watches_left (outcome_of s client context op)) =
    ap (λ (m : Result (State × Answer) Errno). dropped_watches swept.keys (watches_left m)) (sym tells.meant) in
    let all : ps ++ gone mid swept.keys ≡ posts_by s client context op answer swept.keys =
    posts_further (queues_of s) notes ended (dropped_watches swept.keys mid.watches)
    ∙ ap (λ (ws : List Watch). posts (queues_of s) notes (ended ++ ws)) left in
    record {
      mid = mid;
      swept = swept;
      meant = tells.meant;
      sweep = before.sweep;
      posted = sweeps.posted
          ∙ (ap (λ (qs : List Post). posted_in qs sweeps.swept) same
          ∙ (ap (posted_in (gone mid swept.keys)) before.posted
          ∙ (posted_twice ps (gone mid swept.keys) swept ∙ ap (λ (qs : List Post). posted_in qs swept) all)));
    }

-- an ask that tells nothing
pub tells_nothing :
    {s mid : State} {client context : ℕ} {op : Op} {answer : Answer}
    → outcome_of s client context op ≡ Ok (mid, answer) → notes_of s client context op answer ≡ []
    → ended_by s client context op ≡ [] → Tells s client context op answer mid
tells_nothing {s} {mid} {client} {context} {op} {answer} meant no_notes none_ended =
    let ps = posts (queues_of s) (notes_of s client context op answer) (ended_by s client context op) in
    let nothing : ps ≡ [] = rw (no_notes, none_ended) refl in
    record { mid = mid; meant = meant; posted = sym (posted_nothing ps mid nothing) }

-- an ask that ends one watch
pub tells_ended :
    {s mid told : State} {client context : ℕ} {op : Op} {answer : Answer} (watch : Watch)
    → outcome_of s client context op ≡ Ok (mid, answer) → notes_of s client context op answer ≡ []
    → ended_by s client context op ≡ watch ∷ [] → told ≡ posted_in (removal_for watch ∷ []) mid
    → Tells s client context op answer told
tells_ended {s} {mid} {told} {client} {context} {op} {answer} watch meant no_notes ended posted =
    let one : removal_for watch ∷ []
    ≡ posts (queues_of s) (notes_of s client context op answer) (ended_by s client context op) =
    rw (no_notes, ended) refl in
    record { mid = mid; meant = meant; posted = posted ∙ ap (λ (ps : List Post). posted_in ps mid) one }

-- what an accepted ask tells goes out by the queues and watches that it leaves: an ask that tells leaves them
notes_after :
    (s : State) (client context : ℕ) (op : Op) (mid : State) (answer : Answer)
    → Effect s client context op mid answer
    → flat_map (posts_of (queues_of mid)) (notes_of s client context op answer)
    ≡ flat_map (posts_of (queues_of s)) (notes_of s client context op answer)
notes_after s client context _ _ _ (OfKeys op new answer other comes none) =
    ap (λ (q : Queues). flat_map (posts_of q) (notes_of s client context op answer)) comes.queues
notes_after s client context _ _ _ (Opens capacity fits) = refl
notes_after s client context _ _ _ (Filters number entries queue there) = refl
notes_after s client context _ _ _ (Reads number room queue there) = refl
notes_after s client context _ _ _ (Closes number queue there) = refl
notes_after s client context _ _ _ (Watches id watch_id number key n queue here there asked small) = refl
notes_after s client context _ _ _ (Unwatches id watch_id number key n queue here names there asked is) = refl
notes_after s client context _ _ _ Leaves = refl

-- an ask whose notes are posted after it, and that ends no watch
pub tells_after :
    {s mid told : State} {client context : ℕ} {op : Op} {answer : Answer}
    → outcome_of s client context op ≡ Ok (mid, answer) → ended_by s client context op ≡ []
    → told ≡ posted_in (flat_map (posts_of (queues_of mid)) (notes_of s client context op answer)) mid
    → Tells s client context op answer told
tells_after {s} {mid} {told} {client} {context} {op} {answer} meant none_ended posted =
    let notes = notes_of s client context op answer in
    let same : flat_map (posts_of (queues_of mid)) notes ≡ posts (queues_of s) notes (ended_by s client context op) =
    rw none_ended (notes_after s client context op mid answer (effect_of s client context op mid answer meant)
    ∙ sym (append-nil (flat_map (posts_of (queues_of s)) notes))) in
    record { mid = mid; meant = meant; posted = posted ∙ ap (λ (ps : List Post). posted_in ps mid) same }

-- for a store whose clock was raised first
pub applied_sound :
    {old up new : State} {client context : ℕ} {op : Op} {answer : Answer} (moment : ℕ) → IsSound old
    → up ≡ raised old moment → Serves up client context op answer new → IsSound new
applied_sound {old} {up} {new} moment sound raise serves =
    served_sound (subst IsSound (sym raise) (raised_sound old moment sound)) serves

pub told_acyclic :
    {old up told : State} {client context : ℕ} {op : Op} {answer : Answer} (moment : ℕ) → IsSound old
    → up ≡ raised old moment → Tells up client context op answer told → IsAcyclic (links_of_key_at told.keys)
told_acyclic {old} {up} {told} {client} {context} {op} {answer} moment sound raise tells =
    subst (λ (keys : Table Key). IsAcyclic (links_of_key_at keys)) (sym (ap (λ (t : State). t.keys) tells.posted))
    (served_acyclic old up tells.mid moment client context op answer sound raise tells.meant)
