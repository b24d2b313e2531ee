-- Each step follows: serials rise, and what is gone stays gone.
use Rattle.std.proofs.Common.{[], ◌∷◌, Err, List, Ok, refl, Result, subst, sym, ℕ}
use Rattle.krs_types.specs.declared.{ask.{Answer.Answer, Op.Op}, errno.Errno.Errno, event.Event.Event}
use Rattle.krs_model.specs.{Asks.Leaving.left, History.IsLegal, Notes.Posting.posted_in, State.{raised, State}}
use Rattle.krs_model.specs.Step.{Ends, posts_by, Serves, Step}
use Rattle.krs_model.proofs.Asks.Effects.{Closes, Effect, effect_of, Filters, Leaves, OfKeys, Opens, Reads, Unwatches}
use Rattle.krs_model.proofs.Asks.{Effects.Watches, Later.{Follows, follows_trans, same_follows, sweep_follows}}

left_follows : (s : State) (client : ℕ) → Follows s (left s client)
unfolding left
left_follows s client = same_follows s _ refl refl

pub raised_follows : (s : State) (moment : ℕ) → Follows s (raised s moment)
raised_follows s moment = same_follows s (raised s moment) refl refl

-- what an accepted ask came to follows the state
pub effect_follows :
    (s : State) (client context : ℕ) (op : Op) (new : State) (answer : Answer) → Effect s client context op new answer
    → Follows s new
effect_follows s client context op _ _ (OfKeys _ new answer other comes none) = comes.follows
effect_follows s client context _ _ _ (Opens capacity fits) = same_follows s _ refl refl
effect_follows s client context _ _ _ (Filters number entries queue there) = same_follows s _ refl refl
effect_follows s client context _ _ _ (Reads number room queue there) = same_follows s _ refl refl
effect_follows s client context _ _ _ (Closes number queue there) = same_follows s _ refl refl
effect_follows s client context _ _ _ (Watches id watch_id number key n queue here there asked small) =
    same_follows s _ refl refl
effect_follows s client context _ _ _ (Unwatches id watch_id number key n queue here names there asked is) =
    same_follows s _ refl refl
effect_follows s client context _ _ _ Leaves = left_follows s client

-- and so do the sweep and the posts
pub swept_follows :
    {s new : State} {client context : ℕ} {op : Op} {answer : Answer} (serves : Serves s client context op answer new)
    → Follows serves.mid new
swept_follows {s} {new} {client} {context} {op} {answer} serves =
    let swept = serves.swept in
    let after : State = posted_in (posts_by s client context op answer swept.keys) swept in
    subst (Follows serves.mid) (sym serves.posted)
    (follows_trans serves.mid swept after (sweep_follows serves.mid swept serves.sweep)
    (same_follows swept after refl refl))

end_follows :
    (s new : State) (client context : ℕ) (op : Op) (reply : Result Answer Errno) → Ends s client context op reply new
    → Follows s new
end_follows s new client context op (Ok answer) serves =
    search (effect_of, follows_trans, effect_follows, swept_follows) depth 8
end_follows s new client context op (Err e) ends = subst (Follows s) (sym ends.1) (same_follows s s refl refl)

-- each step follows
pub step_follows : (old new : State) (event : Event) → Step old event new → Follows old new
unfolding Step
step_follows old new event step = search (follows_trans, raised_follows, end_follows) depth 8

-- and so does the end of each legal history
pub legal_follows : (start : State) (events : List Event) (end : State) → IsLegal start events end → Follows start end
unfolding IsLegal
legal_follows start [] end legal = subst (Follows start) legal (same_follows start start refl refl)
legal_follows start (event ∷ events) end legal =
    let next = legal.0 in
    follows_trans start next end (step_follows start next event legal.1) (legal_follows next events end legal.2)
