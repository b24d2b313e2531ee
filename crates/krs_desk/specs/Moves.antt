-- Which steps a token may make on the table: those of the machine (krs_world), and one that the machine doesn't have,
-- at which a call is found posted and nothing else is known by it. So what a lane knows of its turns is what they say
-- of it: how often it took the turn, the history that it took it with, how often it found the turn taken, and which
-- cells it looked at. The form is this project's own.
-- The words of a step are those of atomic_table: `word` is the number of the word that it is made on. A store writes
-- `first`; any other step writes `second` where it finds `first`, and else changes nothing. `found` is what was there:
-- Some of that number, and None at a store, which doesn't look.
use Rattle.std.specs.Prelude.{[], ◌&&◌, ◌++◌, ◌==◌, ◌∷◌, ◌≡◌, ◌≢◌, Bool, List, None, Option, Some, ℕ}
use Rattle.atomic_table.specs.{Seated.TableId, Table.Step}
use Rattle.krs_types.specs.declared.{ask.Ask.Ask, event.Event.Event}
use Rattle.krs_model.specs.{Lists.Begins, State.State}
use Rattle.krs_world.specs.Knowing.{answered, collected, grabbed, kept, loaded, looked_at, missed, posted, put_none}
use Rattle.krs_world.specs.Knowing.{put_own, service, taken}
use Rattle.krs_world.specs.declared.view.{Part.Part, Standing.{Standing, TheVariants.{One, Opening, Spent, Two}}}
use Rattle.krs_desk.specs.{Parts.cell_of, Steps.Known, declared.slot.SlotValue.SlotValue}
use Rattle.krs_desk.specs.declared.word.TheConstants.{ANSWERED, EMPTY, FREE, OUT, POSTED, SERVING, TURN}

-- what contracts see of a table: which it is, and the state of the store as it was made
pub record Tabled : Type 0 where
  pub id : TableId
  pub key : State

-- The kinds of steps, each with what it brings: the history that was found or is held, the event that is added to it,
-- the call that is posted or taken up, the lane whose cell is looked at and whether that is the token's own, answered.
-- Two bring nothing: a collect that finds no reply (`stays`), and a look that finds a call posted (`finds`).
pub data Move : Type 0 where
  stays : Move
  takes : List Event → Move
  misses : Move
  puts_own : List Event → Event → Move
  puts_none : List Event → Move
  serves_own : List Event → Event → Move
  loads : List Event → Move
  posts : ℕ → Ask → Move
  finds : ℕ → Move
  grabs : ℕ → ℕ → Ask → Move
  answers : List Event → Event → Move
  collects : List Event → Event → Move
  looks : ℕ → Bool → Move

-- what a lane knows after a step
abbrev pub after : Part → Move → Part
after p stays = p
after p (takes log) = taken p log
after p misses = missed p
after p (puts_own log e) = put_own p log e
after p (puts_none log) = put_none p log
after p (serves_own log e) = kept p log e
after p (loads log) = loaded p log
after p (posts moment ask) = posted p moment ask
after p (finds lane) = p
after p (grabs lane moment ask) = grabbed p lane moment ask
after p (answers log e) = answered p log e
after p (collects log e) = collected p log e
after p (looks lane finished) = looked_at p lane finished

-- the step tries to have the turn
abbrev pub IsTry : Step SlotValue → Type 0
IsTry made = (made.word ≡ TURN) × (made.first ≡ FREE) × (made.second ≡ OUT)

-- it gives the turn back, where it is out
abbrev pub IsReturn : Step SlotValue → Type 0
IsReturn made = (made.word ≡ TURN) × (made.first ≡ OUT) × (made.second ≡ FREE)

-- it reads the turn's word, and leaves it as it is
abbrev pub IsReading : Step SlotValue → Option ℕ → Type 0
IsReading made found =
    (made.word ≡ TURN) × (made.first ≡ 0) × (made.second ≡ 0) × ((n : ℕ) × (found ≡ Some n))

-- the token has the turn
abbrev pub HasTurn : Part → Type 0
HasTurn p = (log : List Event) × (p.holding ≡ Some log)

-- By which step each is made. A step is on one word: it loads it, stores a number there whatever it was, or exchanges
-- one number for another where it finds that. A cell here is the word of a lane's cell.
--
-- | Move         | Word, and the step on it       | Found there  | Of the token                                      |
-- |--------------|--------------------------------|--------------|---------------------------------------------------|
-- | `takes`      | the turn, FREE to OUT          | FREE         | hadn't the turn                                   |
-- | `misses`     | the turn, FREE to OUT          | not FREE     | hadn't the turn                                   |
-- | `puts_own`   | the turn, OUT to FREE          | OUT          | held `log`, served nobody, had no call in flight  |
-- | `puts_none`  | the turn, OUT to FREE          | OUT          | held `log`, served nobody                         |
-- | `serves_own` | the turn, a load               | anything     | held `log`, served nobody, had no call in flight  |
-- | `loads`      | the turn, a load               | anything     | had seen a beginning of `log`                     |
-- | `posts`      | its own cell, a store          | isn't told   | had no call in flight                             |
-- | `finds`      | a cell                         | POSTED       | had the turn                                      |
-- | `grabs`      | a cell, POSTED to SERVING      | POSTED       | had the turn, served nobody                       |
-- | `answers`    | the cell of the call, a store  | isn't told   | held `log`, served this call                      |
-- | `looks`      | a cell                         | not POSTED   | had the turn                                      |
-- | `collects`   | its own cell, ANSWERED to EMPTY| ANSWERED     | hadn't the turn, had seen a beginning of `log`    |
-- | `stays`      | its own cell                   | not ANSWERED | hadn't the turn; alone it finds and tells nothing |
abbrev pub IsMadeAt : Step SlotValue → Option ℕ → Part → Move → Type 0
IsMadeAt made found p stays =
    (made.word ≡ cell_of p.lane) × ((n : ℕ) × (found ≡ Some n) × (n ≢ ANSWERED)) × (p.holding ≡ None)
IsMadeAt made found p (takes log) = IsTry made × (found ≡ Some FREE) × (p.holding ≡ None)
IsMadeAt made found p misses = IsTry made × ((n : ℕ) × (found ≡ Some n) × (n ≢ FREE)) × (p.holding ≡ None)
IsMadeAt made found p (puts_own log e) =
    IsReturn made × (found ≡ Some OUT) × (p.holding ≡ Some log) × (p.serving ≡ None) × (p.flight ≡ None)
IsMadeAt made found p (puts_none log) =
    IsReturn made × (found ≡ Some OUT) × (p.holding ≡ Some log) × (p.serving ≡ None)
IsMadeAt made found p (serves_own log e) =
    IsReading made found × (p.holding ≡ Some log) × (p.serving ≡ None) × (p.flight ≡ None)
IsMadeAt made found p (loads log) = IsReading made found × Begins p.seen log
IsMadeAt made found p (posts moment ask) =
    (made.word ≡ cell_of p.lane) × (found ≡ None) × (made.first ≡ POSTED) × (p.flight ≡ None)
IsMadeAt made found p (finds lane) = (made.word ≡ cell_of lane) × (found ≡ Some POSTED) × HasTurn p
IsMadeAt made found p (grabs lane moment ask) =
    (made.word ≡ cell_of lane) × (found ≡ Some POSTED) × HasTurn p × (made.first ≡ POSTED)
    × (made.second ≡ SERVING) × (p.serving ≡ None)
IsMadeAt made found p (answers log e) =
    (made.word ≡ cell_of e.lane) × (found ≡ None) × (p.holding ≡ Some log)
    × (p.serving ≡ Some (service e.lane e.moment e.ask)) × (made.first ≡ ANSWERED)
IsMadeAt made found p (collects log e) =
    (made.word ≡ cell_of p.lane) × (found ≡ Some ANSWERED) × (p.holding ≡ None) × Begins p.seen log
    × (made.first ≡ ANSWERED) × (made.second ≡ EMPTY)
IsMadeAt made found p (looks lane finished) =
    (made.word ≡ cell_of lane)
    × ((n : ℕ) × (found ≡ Some n) × (n ≢ POSTED) × (finished ≡ ((n == ANSWERED) && (lane == p.lane))))
    × HasTurn p

-- One lane's token makes one of these steps. A token of two lanes looks at the history for both. One that deals the
-- others may end, and one that stands for no lane stays.
abbrev pub IsMoved : Step SlotValue → Option ℕ → Standing → Standing → Type 0
IsMoved made found Spent t = t ≡ Spent
IsMoved made found (One p) t = (move : Move) × IsMadeAt made found p move × (t ≡ One (after p move))
IsMoved made found (Two p q) t =
    IsReading made found
    × ((log : List Event) × Begins p.seen log × Begins q.seen log × (t ≡ Two (loaded p log) (loaded q log)))
IsMoved made found (Opening n) t = t ≡ Spent

-- Whatever a step tells: where it adds a lane to those whose cells were looked at, its token has the turn
abbrev pub LooksInTurn : Type 0
LooksInTurn =
    (made : Step SlotValue) (found : Option ℕ) (p q : Part) (lane : ℕ) → IsMoved made found (One p) (One q)
    → q.checked ≡ p.checked ++ lane ∷ [] → HasTurn p

-- and where a token that has the turn finds anything but a posted call in a lane's cell, that lane is added to those,
-- and its own cell is known to be answered where it is: no look is forgotten.
abbrev pub CountsLooks : Type 0
CountsLooks =
    (made : Step SlotValue) (n : ℕ) (p q : Part) (lane : ℕ) → IsMoved made (Some n) (One p) (One q)
    → made.word ≡ cell_of lane → n ≢ POSTED → HasTurn p
    → q ≡ looked_at p lane ((n == ANSWERED) && (lane == p.lane))

-- Whatever a step tells: a try that finds the turn taken is counted as that, and tells nothing else.
abbrev pub CountsMisses : Type 0
CountsMisses =
    (made : Step SlotValue) (n : ℕ) (p q : Part) → IsMoved made (Some n) (One p) (One q) → IsTry made → n ≢ FREE
    → q ≡ missed p

-- and one that finds it free is counted as a turn that was had, with the history of that moment
abbrev pub CountsTurns : Type 0
CountsTurns =
    (made : Step SlotValue) (p q : Part) → IsMoved made (Some FREE) (One p) (One q) → IsTry made
    → (log : List Event) × (q ≡ taken p log)

-- it has the same state of the store at the opening after the step
abbrev pub Moves : Step SlotValue → Option ℕ → Known → Known → Type 0
Moves made found m n =
    (n.0.view.opening ≡ m.0.view.opening) × IsMoved made found m.0.view.stands n.0.view.stands

-- what a step tells that found a number, and one that only stored one: it is one of these steps, and this is so
abbrev pub moved_told :
    (Step SlotValue → Known → ℕ → Known → Type 0) → Step SlotValue → Known → ℕ → Known → Type 0
moved_told told step m found n = told step m found n × Moves step (Some found) m n

abbrev pub stored_told :
    (Step SlotValue → Known → ℕ → Known → Type 0) → Step SlotValue → Known → ℕ → Known → Type 0
stored_told told step m found n = told step m found n × Moves step None m n
