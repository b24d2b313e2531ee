-- What commands do over a connection: keyretain(1), "DESCRIPTION", "Commands" and "Single calls".
use Rattle.std.specs.Prelude.{◌+◌, ◌||◌, ◌≡◌, ◌⊎◌, Bool, Err, false, is_err, List, Ok, Option, Result, ℕ, ℤ}
use Rattle.krs_types.specs.declared.ask.Answer.{Answer, TheVariants.{Bytes, Nothing, Number}}
use Rattle.krs_types.specs.declared.{ask.{Ask.Ask as AskIs, Op.Op}, caller.Caller.Caller, errno.Errno.Errno}
use Rattle.krs_words.specs.declared.{output.Output.{Output, TheVariants.Reply}, stop.Stop.{Stop, TheVariants.Usage}}
use Rattle.krs_commands.specs.declared.command.Command.{Command, TheVariants.{Ask, Context, Moment, Readq, Rlist}}
use Rattle.krs_script.specs.{Ending.context_after, Listing.{listing, records_of}, Running.Ends}
use Rattle.krs_remote.specs.{Talking.{Exchanges, GivesUp}, declared.remote.Remote.Remote}
use Rattle.krs_types.specs.declared.ask.Op.TheVariants as op

-- a client over a connection between two commands: the current context, whether an ask was refused, how many asks were
-- made, what was sent, and what is still to be read; of an end that does not tell its bytes nothing is known
pub record Talk : Type 0 where
  pub context : ℕ
  pub refused : Bool
  pub asked : ℕ
  pub sent : Option (List ℕ)
  pub left : Option (List ℕ)

abbrev pub talk_of : {F : Type 0} → (F → Option (List ℕ)) → Remote F → Option (List ℕ) → Talk
talk_of remaining remote sent = record {
  context = remote.context;
  refused = remote.refused;
  asked = remote.asked;
  sent = sent;
  left = remaining remote.from;
}

-- a client before its first ask
abbrev pub unasked : {F : Type 0} → F → Remote F
unasked from = record { from = from; context = 0; refused = false; asked = 0 }

-- the tag of the next ask: 1, 2, 3 and so on over a connection
abbrev pub next_tag : Talk → ℕ
next_tag talk = talk.asked + 1

-- the ask for this, in the current context
abbrev pub ask_of : Talk → Op → AskIs
ask_of talk asked = record { context = talk.context; op = asked }

-- an ask in the current context, with the next tag, and its reply, which is not shown: nothing else changes
pub record AsksUnseen (old : Talk) (asked : Op) (reply : Result Answer Errno) (new : Talk) : Type 0 where
  pub exchanged : Exchanges old.sent old.left (next_tag old) (ask_of old asked) new.sent new.left reply
  pub counted : new.asked ≡ next_tag old
  pub context : new.context ≡ old.context
  pub refused : new.refused ≡ old.refused

-- an ask whose reply is shown: an accepted `hello` names the current context; a refusal is remembered
pub record AsksOver (old : Talk) (asked : Op) (reply : Result Answer Errno) (new : Talk) : Type 0 where
  pub exchanged : Exchanges old.sent old.left (next_tag old) (ask_of old asked) new.sent new.left reply
  pub counted : new.asked ≡ next_tag old
  pub context : new.context ≡ context_after old.context asked reply
  pub refused : new.refused ≡ (old.refused || is_err reply)

-- an ask that has no reply
pub record GivesUpAsk (old : Talk) (asked : Op) (stop : Stop) (new : Talk) : Type 0 where
  pub gave_up : GivesUp old.sent old.left (next_tag old) (ask_of old asked) new.sent new.left stop
  pub counted : new.asked ≡ next_tag old
  pub context : new.context ≡ old.context
  pub refused : new.refused ≡ old.refused

-- what follows a READ: where it was accepted, DESCRIBE, unseen, which tells how the bytes are shown
abbrev pub ListsBy : Talk → ℤ → Result Answer Errno → Output → Talk → Type 0
ListsBy old id (Ok (Bytes bytes)) output new =
    (described : Result Answer Errno) × AsksUnseen old (op.Describe id) described new
    × (output ≡ listing bytes described)
ListsBy old id (Ok Nothing) output new = (output ≡ Reply (Ok Nothing)) × (new ≡ old)
ListsBy old id (Ok (Number n)) output new = (output ≡ Reply (Ok (Number n))) × (new ≡ old)
ListsBy old id (Err e) output new = (output ≡ Reply (Err e)) × (new ≡ old)

-- what follows a READ that was accepted, where DESCRIBE has no reply
abbrev pub StopsList : Talk → ℤ → Result Answer Errno → Stop → Talk → Type 0
StopsList old id (Ok (Bytes bytes)) stop new = GivesUpAsk old (op.Describe id) stop new
StopsList old id (Ok Nothing) stop new = ⊥
StopsList old id (Ok (Number n)) stop new = ⊥
StopsList old id (Err e) stop new = ⊥

-- what `rlist` does and comes to: READ, and what follows it
abbrev pub Lists : Talk → ℤ → Output → Talk → Type 0
Lists old id output new =
    (reply : Result Answer Errno) × (mid : Talk) × AsksOver old (op.Read id) reply mid
    × ListsBy mid id reply output new

-- how `rlist` breaks off: READ has no reply, or DESCRIBE has none
abbrev pub BreaksList : Talk → ℤ → Stop → Talk → Type 0
BreaksList old id stop new =
    GivesUpAsk old (op.Read id) stop new
    ⊎ ((reply : Result Answer Errno) × (mid : Talk) × AsksOver old (op.Read id) reply mid
    × StopsList mid id reply stop new)

-- what a command does and comes to; `context` asks nothing, and `moment` is no command
abbrev pub Acts : Talk → Command → Output → Talk → Type 0
Acts old (Context n) output new = (output ≡ Reply (Ok Nothing)) × (new ≡ record old { context = n })
Acts old (Moment n) output new = ⊥
Acts old (Ask asked) output new =
    (reply : Result Answer Errno) × (output ≡ Reply reply) × AsksOver old asked reply new
Acts old (Rlist id) output new = Lists old id output new
Acts old (Readq queue room) output new =
    (reply : Result Answer Errno) × (output ≡ records_of reply) × AsksOver old (op.ReadQueue queue room) reply new

-- how a command breaks off: `moment` is usage; an ask has no reply
abbrev pub Breaks : Talk → Command → Stop → Talk → Type 0
Breaks old (Context n) stop new = ⊥
Breaks old (Moment n) stop new = (stop ≡ Usage) × (new ≡ old)
Breaks old (Ask asked) stop new = GivesUpAsk old asked stop new
Breaks old (Rlist id) stop new = BreaksList old id stop new
Breaks old (Readq queue room) stop new = GivesUpAsk old (op.ReadQueue queue room) stop new

-- what follows the reply to HELLO: the one command, or nothing where it was refused
abbrev pub CallsOn : Talk → Result Answer Errno → Command → Output → Talk → Type 0
CallsOn old (Ok answer) command output new = Acts old command output new
CallsOn old (Err e) command output new = (output ≡ Reply (Err e)) × (new ≡ old)

-- a single call: HELLO, whose answer is not shown unless it is a refusal, and then the one command
abbrev pub CallsFor : Talk → Caller → Command → Output → Talk → Type 0
CallsFor old caller command output new =
    (reply : Result Answer Errno) × (mid : Talk) × AsksOver old (op.Hello caller) reply mid
    × CallsOn mid reply command output new

-- how the one command breaks off, which is asked only where HELLO was accepted
abbrev pub BreaksOn : Talk → Result Answer Errno → Command → Stop → Talk → Type 0
BreaksOn old (Ok answer) command stop new = Breaks old command stop new
BreaksOn old (Err e) command stop new = ⊥

-- a single call that broke off, at HELLO or at its command
abbrev pub BreaksCall : Talk → Caller → Command → Stop → Talk → Type 0
BreaksCall old caller command stop new =
    GivesUpAsk old (op.Hello caller) stop new
    ⊎ ((reply : Result Answer Errno) × (mid : Talk) × AsksOver old (op.Hello caller) reply mid
    × BreaksOn mid reply command stop new)

-- a connection before the first ask
abbrev pub talk_on : Option (List ℕ) → Option (List ℕ) → Talk
talk_on sent left = record { context = 0; refused = false; asked = 0; sent = sent; left = left }

-- A script over a connection: what was sent are the frames of its lines' asks, with the tags 1, 2, 3 and so on, one
-- after the other, each behind the reply to the one before; what was read are the frames of those replies, with the
-- same tags; what was printed are its lines for them.
abbrev pub EndsRemote : Option (List ℕ) → Option (List ℕ) → Option (List ℕ) → Option (List ℕ) → Option (List ℕ)
    → Option (List ℕ) → ℕ → Type 0
EndsRemote input old new sent0 sent1 left status =
    (last : Talk) × Ends Acts Breaks input old new (talk_on sent0 left) last last.refused status × (last.sent ≡ sent1)
