-- What a script does to its store and what it prints: keyretain(1), "Lines", "Commands" and "EXIT STATUS".
use Rattle.std.specs.Prelude.{◌||◌, ◌≡◌, Err, false, is_err, List, Ok, Option, Result, ℕ, ℤ}
use Rattle.krs_types.specs.declared.ask.Answer.{Answer, TheVariants.{Bytes, Nothing, Number}}
use Rattle.krs_types.specs.declared.{ask.Op.Op, errno.Errno.Errno}
use Rattle.krs_model.specs.{History.event_of, State.State, Step.Step}
use Rattle.krs_words.specs.declared.{output.Output.{Output, TheVariants.Reply}, stop.Stop.Stop}
use Rattle.krs_commands.specs.declared.command.Command.{Command, TheVariants.{Ask, Context, Moment, Readq, Rlist}}
use Rattle.krs_script.specs.{Ending.context_after, Listing.{listing, records_of}, Running.Ends}
use Rattle.krs_ctl.specs.declared.script.{Script.Script, ScriptEnd.ScriptEnd}
use Rattle.krs_types.specs.declared.ask.Op.TheVariants as op

-- the store served the ask, in the current context, at the current moment, as client 0
abbrev pub StoreServes : Script → Op → Result Answer Errno → State → Type 0
StoreServes old asked reply store =
    Step old.store (event_of 0 old.moment (record { context = old.context; op = asked }) reply) store

-- an ask whose reply is shown: an accepted `hello` names the current context; a refusal is remembered
pub record Asks (old : Script) (asked : Op) (reply : Result Answer Errno) (new : Script) : Type 0 where
  pub served : StoreServes old asked reply new.store
  pub context : new.context ≡ context_after old.context asked reply
  pub moment : new.moment ≡ old.moment
  pub refused : new.refused ≡ (old.refused || is_err reply)

-- an ask whose reply is not shown: the store is all that it changes
abbrev pub AsksUnseen : Script → Op → Result Answer Errno → Script → Type 0
AsksUnseen old asked reply new = StoreServes old asked reply new.store × (new ≡ record old { store = new.store })

-- what follows a READ: where it was accepted, DESCRIBE, unseen, which tells how the bytes are shown
abbrev pub ListsBy : Script → ℤ → Result Answer Errno → Output → Script → Type 0
ListsBy old id (Ok (Bytes bytes)) output new =
    (described : Result Answer Errno) × AsksUnseen old (op.Describe id) described new
    × (output ≡ listing bytes described)
ListsBy old id (Ok Nothing) output new = (output ≡ Reply (Ok Nothing)) × (new ≡ old)
ListsBy old id (Ok (Number n)) output new = (output ≡ Reply (Ok (Number n))) × (new ≡ old)
ListsBy old id (Err e) output new = (output ≡ Reply (Err e)) × (new ≡ old)

-- what a command does and comes to; `context` and `moment` ask nothing, and come to an answer without a value
abbrev pub Acts : Script → Command → Output → Script → Type 0
Acts old (Context n) output new = (output ≡ Reply (Ok Nothing)) × (new ≡ record old { context = n })
Acts old (Moment n) output new = (output ≡ Reply (Ok Nothing)) × (new ≡ record old { moment = n })
Acts old (Ask asked) output new = (reply : Result Answer Errno) × (output ≡ Reply reply) × Asks old asked reply new
Acts old (Rlist id) output new =
    (reply : Result Answer Errno) × (mid : Script) × Asks old (op.Read id) reply mid × ListsBy mid id reply output new
Acts old (Readq queue room) output new =
    (reply : Result Answer Errno) × (output ≡ records_of reply) × Asks old (op.ReadQueue queue room) reply new

-- no command breaks off: the store answers each ask
abbrev pub NeverBreaks : Script → Command → Stop → Script → Type 0
NeverBreaks old command stop new = ⊥

-- the script of a store before its first line
abbrev pub script_on : State → Script
script_on store = record { store = store; context = 0; moment = 0; refused = false }

-- a whole script; the store that it hands back is the one that its lines lead to
pub record EndsScript (input : Option (List ℕ)) (old new : Option (List ℕ)) (store : State) (end : ScriptEnd)
    : Type 0 where
  pub last : Script
  pub ends : Ends Acts NeverBreaks input old new (script_on store) last last.refused end.status
  pub left : end.store ≡ last.store
