-- Each ask has a step from a sound store: what it comes to has a sweep, and is not ENOMEM.
use Rattle.std.proofs.Common.{◌≡◌, ◌≢◌, arith, Bool, Err, filter, inl, inr, length, List, Ok, refl, Result, suc, sym}
use Rattle.std.proofs.{Common.{true, true≢false, zero, ℕ}, lemmas.Bool.Decides.nat_tests}
use Rattle.std.specs.Map.{keys_of}
use Rattle.krs_types.specs.declared.{ask.{Answer.Answer, Ask.Ask, Op.Op}, errno.Errno.{Errno, TheVariants.ENOMEM}}
use Rattle.krs_model.specs.{History.event_of, Levels.{is_in, level, levels}, Notes.Posting.posted_in, Outcome.Outcome}
use Rattle.krs_model.specs.{Reach.links_of_key_at, Sound.IsSound, State.{Key, raised, State}, Step.{Ends, outcome_of}}
use Rattle.krs_model.specs.{Step.{posts_by, Step}, Sweep.{Attached, IsHeld, IsSweep, Linked, live_watches, PicksHeld}}
use Rattle.krs_model.specs.{Sweep.roots, Table.Table}
use Rattle.krs_model.proofs.{Asks.{Laws.law_of, Refusals.refusal_is_no_memory}, Reach.Acyclic.{From, IsClosed}}
use Rattle.krs_model.proofs.Reach.{Acyclic.{one_more, reached_in_levels}, Cycles.there_in, Levels.{in_flat, in_one}}
use Rattle.krs_model.proofs.Sound.{Changes.Stands, Steps.{raised_sound, sound_stands}}

-- what is in a level from the attachments is held
level_held :
    (keys : Table Key) (attached : List ℕ) (n k : ℕ) → is_in k (level (links_of_key_at keys) attached n) ≡ true
    → IsHeld keys attached k
unfolding level
level_held keys attached zero k h = Attached k h
level_held keys attached (suc n) k h =
    let r = in_flat (links_of_key_at keys) (level (links_of_key_at keys) attached n) k h in
    Linked r.0 k (level_held keys attached n r.0 r.1) r.2

levels_held :
    (keys : Table Key) (attached : List ℕ) (n k : ℕ) → is_in k (levels (links_of_key_at keys) attached n) ≡ true
    → IsHeld keys attached k
unfolding levels
levels_held keys attached zero k h = absurd (true≢false (sym h))
levels_held keys attached (suc n) k h = grind (arith, nat_tests, level_held, in_one, levels_held keys attached n k)

-- a held key is an attachment, or reached from one
held_from :
    (keys : Table Key) (attached : List ℕ) (k : ℕ) → IsHeld keys attached k
    → (a : ℕ) × (is_in a attached ≡ true) × From (links_of_key_at keys) a k
held_from keys attached _ (Attached k i) = (k, i, inl refl)
held_from keys attached _ (Linked j k held i) =
    let r = held_from keys attached j held in (r.0, r.1, inr (one_more (links_of_key_at keys) r.0 j k r.2 i))

-- the keys of as many levels from the attachments as there are keys
abbrev pub held_in : State → ℕ → Bool
held_in s k = is_in k (levels (links_of_key_at s.keys) (roots s) (length (keys_of s.keys)))

pub picks_held : (s : State) → Stands s → PicksHeld s.keys (roots s) (held_in s)
picks_held s stands =
    let ks = keys_of s.keys in
    let closed : IsClosed (links_of_key_at s.keys) ks = λ j k i h. there_in s.keys k (stands.linked j k h) in
    record {
      only = λ k there h. levels_held s.keys (roots s) (length ks) k h;
      each = λ k held there.
          let r = held_from s.keys (roots s) k held in
          reached_in_levels (length ks) (links_of_key_at s.keys) (roots s) ks r.0 k (omega arith)
          (there_in s.keys r.0 (stands.attached r.0 r.1)) closed r.1 r.2;
    }

-- a store that stands has a sweep
has_sweep : (s : State) → Stands s → (new : State) × IsSweep s new
has_sweep s stands =
    let keys : Table Key = filter (λ e. held_in s e.0) s.keys in
    let new : State = record s { keys = keys; watches = live_watches keys s.watches } in
    (new, record { kept = held_in s; picks = picks_held s stands; keys = refl; rest = refl })

-- what an ask may end with: a reply that is not ENOMEM, and a state
abbrev Ending : State → ℕ → ℕ → Op → Type 0
Ending s client context op =
    (reply : Result Answer Errno) × (new : State) × Ends s client context op reply new × (reply ≢ Err ENOMEM)

ending_of :
    (s : State) (client context : ℕ) (op : Op) (meant : Outcome) → outcome_of s client context op ≡ meant → IsSound s
    → Ending s client context op
ending_of s client context op (Err e) is sound =
    (Err e, s, (inl is, refl), λ h. refusal_is_no_memory s client context op e is h)
ending_of s client context op (Ok done) is sound =
    let stood = ((law_of s client context op).fares.meets done.0 done.1 is).stands (sound_stands s sound) in
    let swept = has_sweep done.0 stood in
    let new = posted_in (posts_by s client context op done.1 swept.0.keys) swept.0 in (
      Ok done.1,
      new,
      record { mid = done.0; swept = swept.0; meant = is; sweep = swept.1; posted = refl },
      λ h. cc,
    )

-- from a sound store each ask has a step, whose reply is not ENOMEM
pub has_step :
    (old : State) → IsSound old → (lane moment : ℕ) (ask : Ask)
    → (reply : Result Answer Errno) × (new : State) × Step old (event_of lane moment ask reply) new
    × (reply ≢ Err ENOMEM)
unfolding Step
has_step old sound lane moment ask =
    let up = raised old moment in
    ending_of up lane ask.context ask.op (outcome_of up lane ask.context ask.op) refl (raised_sound old moment sound)
