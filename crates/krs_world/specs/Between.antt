-- Real-time order between clients that never met: of two moments, what a call stands behind at the second that wasn't
-- asked yet at the first. Herlihy and Wing, "Linearizability" (1990).
use Rattle.std.specs.Prelude.{◌++◌, ◌∷◌, ◌≡◌, List, None, Option, Result, ℕ}
use lib.ListN.{get_elem?}
use mathlib.Core.Option.{some}
use Rattle.krs_types.specs.declared.{ask.{Answer.Answer, Ask.Ask}, errno.Errno.Errno, event.Event.Event}
use Rattle.krs_model.specs.{History.event_of, Lists.Begins, State.State}
use Rattle.krs_world.specs.{History.{events_of, HasSeen, OneHistory}, Knowing.one, World.IsUnanswered}
use Rattle.krs_world.specs.declared.view.{Cell.{Cell, TheVariants.Answered}, Part.Part, View.View}

-- The event stands in the list behind all of `before`, and is the operation of this lane that comes next after these:
-- so it is that one operation, and no other that looks like it.
abbrev pub StandsNext : ℕ → List Event → List Event → Event → List Event → Type 0
StandsNext lane before mine e log =
    (between : List Event) × (rest : List Event) × (log ≡ (before ++ between) ++ e ∷ rest)
    × (events_of lane (before ++ between) ≡ mine)

-- some seat has seen this list, and maybe more
abbrev pub IsSeenBy : List Event → List View → Type 0
IsSeenBy list views =
    (j : ℕ) × (v : View) × (seen : List Event) × (get_elem? views j ≡ some v) × HasSeen seen v.stands × Begins list seen

-- Two moments of one history. At the first some seat had seen a list, at the second one has still; at the first a lane
-- had no call in flight, at the second it has had a reply to another call. That call stands behind all of the list, in
-- the history and in what the lane's seat has seen: whoever had seen it, and whether or not the two ever met.
abbrev pub KeepsRealTimeBetween : Type 0
KeepsRealTimeBetween = (opening : State) (turn turn' : ℕ) (home home' : Option State) (cell cell' : ℕ → Cell)
    (views views' : List View) (front : List Event) (j j' : ℕ) (q q' : Part) (e : Event) (more : List Event)
    → OneHistory opening turn home cell views → (later : OneHistory opening turn' home' cell' views')
    → IsSeenBy front views → IsSeenBy front views'
    → get_elem? views j ≡ some (one opening q) → q.flight ≡ None
    → get_elem? views' j' ≡ some (one opening q') → q'.lane ≡ q.lane → q'.mine ≡ q.mine ++ e ∷ more
    → StandsNext q.lane front q.mine e later.log × StandsNext q.lane front q.mine e q'.seen

-- The same of a call that is posted: it stands behind all that any seat had seen at a moment where it wasn't answered
-- yet, from that moment on where it is answered, though its reply isn't collected. So it stands behind all that any
-- seat had seen as it was posted, what its own had seen among it.
abbrev pub KeepsPostedBetween : Type 0
KeepsPostedBetween = (opening : State) (turn turn' : ℕ) (home home' : Option State) (cell cell' : ℕ → Cell)
    (views views' : List View) (front : List Event) (j j' : ℕ) (q q' : Part) (moment : ℕ) (ask : Ask)
    (reply : Result Answer Errno)
    → OneHistory opening turn home cell views → (later : OneHistory opening turn' home' cell' views')
    → IsSeenBy front views → IsSeenBy front views'
    → get_elem? views j ≡ some (one opening q) → IsUnanswered (cell q.lane)
    → get_elem? views' j' ≡ some (one opening q') → q'.lane ≡ q.lane → q'.mine ≡ q.mine
    → cell' q.lane ≡ Answered moment ask reply
    → StandsNext q.lane front q.mine (event_of q.lane moment ask reply) later.log

-- and of a posted call whose reply is collected: it wasn't answered yet at the first moment
abbrev pub KeepsCollectedBetween : Type 0
KeepsCollectedBetween = (opening : State) (turn turn' : ℕ) (home home' : Option State) (cell cell' : ℕ → Cell)
    (views views' : List View) (front : List Event) (j j' : ℕ) (q q' : Part) (e : Event) (more : List Event)
    → OneHistory opening turn home cell views → (later : OneHistory opening turn' home' cell' views')
    → IsSeenBy front views → IsSeenBy front views'
    → get_elem? views j ≡ some (one opening q) → IsUnanswered (cell q.lane)
    → get_elem? views' j' ≡ some (one opening q') → q'.lane ≡ q.lane → q'.mine ≡ q.mine ++ e ∷ more
    → StandsNext q.lane front q.mine e later.log × StandsNext q.lane front q.mine e q'.seen
