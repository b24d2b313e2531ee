-- Running threads: what may happen to a table between two moments, and what stays so however much happens. The desk's
-- calls are linearizable: Herlihy and Wing, "Linearizability" (1990). The form is this project's own.
use Rattle.std.specs.Prelude.{[], ◌++◌, ◌<◌, ◌∷◌, ◌≡◌, ◌≢◌, ◌⊎◌, length, List, None, Option, slice_index, slice_set}
use Rattle.std.specs.Prelude.{Some, ℕ}
use lib.ListN.{get_elem?}
use mathlib.Core.Option.{some}
use Rattle.krs_types.specs.declared.{ask.Ask.Ask, event.Event.Event}
use Rattle.krs_model.specs.{History.IsLegal, Lists.Begins, Revocation.Reads, State.{starting_at, State}, Step.Step}
use Rattle.krs_world.specs.{Between.{IsSeenBy, StandsNext}, Knowing.events_of, World.{IsUnanswered, IsUnposted}}
use Rattle.krs_world.specs.declared.view.Cell.TheVariants.{Answered, Empty, Posted, Serving}
use Rattle.krs_world.specs.declared.view.{Part.Part, Standing.TheVariants.{One, Spent}}
use Rattle.krs_desk.specs.Between.{HasRevoked, IsSat}
use Rattle.krs_desk.specs.Moves.{after, answers, collects, finds, grabs, IsMadeAt, IsMoved, loads, looks, misses, Move}
use Rattle.krs_desk.specs.Moves.{posts, puts_none, puts_own, serves_own, stays, takes}
use Rattle.krs_desk.specs.Parts.{both_sights, cell_of, given_sight, kept_sight, settled_sight, spent, views_of}
use Rattle.krs_desk.specs.{Rule.InOneOrder, declared.slot.SlotValue.SlotValue}
use Rattle.krs_desk.specs.declared.{token.Sight.Sight, word.TheConstants.{ANSWERED, FREE, OUT, TURN}}
use Rattle.atomic_table.specs.Table as table

-- the words, the slots, and what each token knows
abbrev pub Board : Type 0
Board = table.State SlotValue Sight

-- what a word becomes: at a store the number that is stored; else the second of two where the first was found, as at a
-- load, which has 0 for both, and else what it was
abbrev pub IsLeft : table.Step SlotValue → Option ℕ → ℕ → Type 0
IsLeft made None n = n ≡ made.first
IsLeft made (Some found) n = (found ≡ made.first → n ≡ made.second) × (found ≢ made.first → n ≡ found)

-- A token makes one of the steps of `Moves`, on a word of the table. What the others know stays as it is.
pub record IsStepped (s new : Board) : Type 0 where
  pub id : ℕ
  pub made : table.Step SlotValue
  pub there : made.word < length s.words
  pub found : Option ℕ
  pub becomes : ℕ
  pub v : Sight
  pub w : Sight
  pub at : get_elem? s.views id ≡ some v
  pub truly : (n : ℕ) → found ≡ Some n → n ≡ slice_index s.words made.word
  pub left : IsLeft made found becomes
  pub words : new.words ≡ slice_set s.words made.word becomes
  pub moved : IsMoved made found v.view.stands w.view.stands
  pub views : new.views ≡ slice_set s.views id w

-- A token is cut in two: the new one comes last. The words stay as they are, as atomic_table has it of a split
-- (`Splits` in its specs/Table.antt).
pub record IsCut (s new : Board) : Type 0 where
  pub id : ℕ
  pub v : Sight
  pub at : get_elem? s.views id ≡ some v
  pub words : new.words ≡ s.words
  pub views : new.views ≡ slice_set s.views id (kept_sight v) ++ given_sight v ∷ []

-- Two tokens of one lane each become one of both, or one that stands for no lane takes over another's, which is then
-- spent (`src/board.rt` joins no others). The words stay as they are, as atomic_table has it of a join (`Joins`).
pub record IsJoined (s new : Board) : Type 0 where
  pub id : ℕ
  pub other : ℕ
  pub v : Sight
  pub w : Sight
  pub both : Sight
  pub q : Part
  pub at : get_elem? s.views id ≡ some v
  pub apart : other ≢ id
  pub there : get_elem? s.views other ≡ some w
  pub given : w.view.stands ≡ One q
  pub how :
      ((p : Part) × (v.view.stands ≡ One p) × (both ≡ both_sights v w))
      ⊎ ((v.view.stands ≡ Spent) × (both ≡ settled_sight v w))
  pub words : new.words ≡ s.words
  pub views : new.views ≡ slice_set (slice_set s.views id both) other (spent (starting_at 3))

-- what a step of this kind adds to the history
abbrev pub added : Move → List Event
added (puts_own log e) = e ∷ []
added (serves_own log e) = e ∷ []
added (answers log e) = e ∷ []
added move = []

-- the list that a step brings is the history as the step finds it; one that is only seen begins it
abbrev pub BringsOf : Move → List Event → Type 0
BringsOf (takes log) whole = log ≡ whole
BringsOf (puts_own log e) whole = log ≡ whole
BringsOf (puts_none log) whole = log ≡ whole
BringsOf (serves_own log e) whole = log ≡ whole
BringsOf (loads log) whole = Begins log whole
BringsOf (answers log e) whole = log ≡ whole
BringsOf (collects log e) whole = Begins log whole
BringsOf move whole = Unit {0}

-- the turn's word
abbrev pub turn_of : Board → ℕ
turn_of s = slice_index s.words TURN

-- the turn is out, at the token of this place
abbrev pub IsOutAt : (opening : State) (s : Board) → InOneOrder opening s → ℕ → Type 0
IsOutAt opening s r id = (turn_of s ≡ OUT) × (r.history.holder ≡ id)

-- Where the turn and the cells are before a step of this kind, and after it, as the machine's step of that name has it
-- (krs_world/specs/World.antt, `StepsAs`): `stays` is its `CollectFound`. The machine has no `finds`, which leaves all
-- as it is.
abbrev pub IsNamed :
    (opening : State) (s new : Board) → InOneOrder opening s → InOneOrder opening new → ℕ → Part → Move → Type 0
IsNamed opening s new now later id p stays = IsUnanswered (now.cell p.lane)
IsNamed opening s new now later id p (takes log) = (turn_of s ≡ FREE) × IsOutAt opening new later id
IsNamed opening s new now later id p misses = (turn_of s ≢ FREE) × ¬ IsOutAt opening s now id
IsNamed opening s new now later id p (puts_own log e) =
    IsOutAt opening s now id × (turn_of new ≡ FREE) × Step now.history.last e later.history.last
IsNamed opening s new now later id p (puts_none log) = IsOutAt opening s now id × (turn_of new ≡ FREE)
IsNamed opening s new now later id p (serves_own log e) =
    IsOutAt opening s now id × IsOutAt opening new later id × Step now.history.last e later.history.last
IsNamed opening s new now later id p (loads log) = Unit {0}
IsNamed opening s new now later id p (posts moment ask) =
    (now.cell p.lane ≡ Empty) × (later.cell p.lane ≡ Posted moment ask)
IsNamed opening s new now later id p (finds lane) =
    IsOutAt opening s now id × ((moment : ℕ) × (ask : Ask) × (now.cell lane ≡ Posted moment ask))
IsNamed opening s new now later id p (grabs lane moment ask) =
    IsOutAt opening s now id × ((m : ℕ) × (a : Ask) × (now.cell lane ≡ Posted m a))
    × (later.cell lane ≡ Serving moment ask)
IsNamed opening s new now later id p (answers log e) =
    IsOutAt opening s now id × (now.cell e.lane ≡ Serving e.moment e.ask)
    × (later.cell e.lane ≡ Answered e.moment e.ask e.reply) × Step now.history.last e later.history.last
IsNamed opening s new now later id p (collects log e) =
    (now.cell p.lane ≡ Answered e.moment e.ask e.reply) × (later.cell p.lane ≡ Empty)
IsNamed opening s new now later id p (looks lane finished) =
    IsOutAt opening s now id × IsUnposted (now.cell lane)

-- Each step of a lane's token is the machine's step of its name (krs_world): so it finds the turn and the cells, and so
-- it leaves them; and the history has a call more that is put, served or answered, and else is what it was. Who takes
-- the turn holds it whole.
abbrev pub StepsAsNamed : State → Type 0
StepsAsNamed opening =
    (s new : Board) (p : Part) (m : Move) → (now : InOneOrder opening s) → (later : InOneOrder opening new)
    → (h : IsStepped s new) → h.v.view.stands ≡ One p → IsMadeAt h.made h.found p m
    → h.w.view.stands ≡ One (after p m)
    → IsNamed opening s new now later h.id p m × BringsOf m now.history.log
    × (later.history.log ≡ now.history.log ++ added m)

-- what may happen to a table
abbrev pub Happens : Board → Board → Type 0
Happens s new = IsStepped s new ⊎ (IsCut s new ⊎ IsJoined s new)

-- An execution from s to `end`: these tables come one after the other, and the rule holds of each. So it is of any two
-- moments of a desk: the rule holds between any two steps, and what a token knows changes by its own steps alone.
-- Lynch, "Distributed Algorithms" (1996), chapter 8.
abbrev pub IsExecution : State → Board → List Board → Board → Type 0
IsExecution opening s [] end = s ≡ end
IsExecution opening s (new ∷ more) end = Happens s new × InOneOrder opening new × IsExecution opening new more end

-- Whatever happens, what some token has seen stays seen: over its steps, and as tokens are cut and joined,
abbrev pub KeepsSeenLists : State → Type 0
KeepsSeenLists opening =
    (s end : Board) (more : List Board) (front : List Event) → InOneOrder opening s → IsExecution opening s more end
    → IsSeenBy front (views_of s.views) → IsSeenBy front (views_of end.views)

-- the history only grows: no call is ever taken back, changed or moved,
abbrev pub OnlyGrows : State → Type 0
OnlyGrows opening =
    (s end : Board) (more : List Board) → (now : InOneOrder opening s) → IsExecution opening s more end
    → (later : InOneOrder opening end) → Begins now.history.log later.history.log

-- and of the lists that two tokens have seen, at one moment or at two, one begins the other.
abbrev pub SeesOneOrder : State → Type 0
SeesOneOrder opening =
    (s end : Board) (more : List Board) (front back : List Event) → InOneOrder opening s
    → IsExecution opening s more end → InOneOrder opening end → IsSeenBy front (views_of s.views)
    → IsSeenBy back (views_of end.views)
    → Begins front back ⊎ Begins back front

-- Real-time order. At a moment some token had seen a list, the reply to some call in it, and the call of a lane wasn't
-- answered, as where it wasn't asked yet: however much happened since, once the lane has its reply, its call stands
-- behind all of that list, in the history and in what its own token has seen, whether or not the two ever met.
-- Of two calls: once the first has its reply, its token has seen it, so it is in `front`. While the second isn't asked,
-- its lane has none in flight; it is `e`, the next of that lane's calls. So it stands behind the first.
abbrev pub KeepsRealTime : State → Type 0
KeepsRealTime opening =
    (s end : Board) (more : List Board) (front : List Event) (q q' : Part) (e : Event) (rest : List Event)
    → InOneOrder opening s → IsExecution opening s more end → (later : InOneOrder opening end)
    → IsSeenBy front (views_of s.views)
    → IsSat opening q s → (q.flight ≡ None) ⊎ (slice_index s.words (cell_of q.lane) ≢ ANSWERED)
    → IsSat opening q' end → q'.lane ≡ q.lane → q'.mine ≡ q.mine ++ e ∷ rest
    → StandsNext q.lane front q.mine e later.history.log × StandsNext q.lane front q.mine e q'.seen

-- Once some token has seen the reply to a REVOKE of a key, no READ of it is accepted that wasn't answered by then,
-- however much happened since.
abbrev pub StaysRefused : State → Type 0
StaysRefused opening =
    (s end : Board) (more : List Board) (front : List Event) (serial : ℕ) (q q' : Part) (e : Event) (rest : List Event)
    → InOneOrder opening s → IsExecution opening s more end → InOneOrder opening end
    → IsSeenBy front (views_of s.views) → HasRevoked opening front serial
    → IsSat opening q s → (q.flight ≡ None) ⊎ (slice_index s.words (cell_of q.lane) ≢ ANSWERED)
    → IsSat opening q' end → q'.lane ≡ q.lane → q'.mine ≡ q.mine ++ e ∷ rest
    → (before : List Event) × (behind : List Event) × (q'.seen ≡ before ++ e ∷ behind)
    × (events_of q.lane before ≡ q.mine) × ((late : State) → IsLegal opening before late → Reads late e serial → ⊥)
