-- Why commands break off over a connection.
use Rattle.std.proofs.Common.{Err, IfErr, IfOk, inl, inr, List, Ok, Option, refl, Result, ℕ, ℤ}
use Rattle.krs_types.specs.declared.ask.Answer.{Answer, TheVariants.{Bytes, Nothing, Number}}
use Rattle.krs_types.specs.declared.{ask.{Ask.Ask as AskIs, Op.Op}, errno.Errno.Errno}
use Rattle.krs_words.specs.declared.stop.Stop.{Stop}
use Rattle.krs_words.specs.declared.stop.Stop.TheVariants.{Connection, Memory, Printing, Reading, TooLong, Usage}
use Rattle.krs_commands.specs.declared.command.Command.{Command, TheVariants.{Ask, Context, Moment, Readq, Rlist}}
use Rattle.krs_script.specs.Running.{IsCause}
use Rattle.krs_remote.specs.{Remote.{ask_of, Breaks, GivesUpAsk, next_tag, StopsList, Talk}, Talking.GivesUp}
use Rattle.krs_types.specs.declared.ask.Op.TheVariants as op

gives_up_by : (sent0 left0 : Option (List ℕ)) (tag : ℕ) (ask : AskIs) (sent1 left1 : Option (List ℕ)) (stop : Stop)
    → GivesUp sent0 left0 tag ask sent1 left1 stop → IsCause stop
gives_up_by a b tag ask c d Usage g = inl refl
gives_up_by a b tag ask c d Memory g = inr (inl refl)
gives_up_by a b tag ask c d Connection g = inr (inr refl)
gives_up_by a b tag ask c d Reading g = absurd g
gives_up_by a b tag ask c d TooLong g = absurd g
gives_up_by a b tag ask c d Printing g = absurd g

ask_gives_up_by : (old new : Talk) (asked : Op) (stop : Stop) → GivesUpAsk old asked stop new → IsCause stop
ask_gives_up_by old new asked stop g =
    gives_up_by old.sent old.left (next_tag old) (ask_of old asked) new.sent new.left stop g.gave_up

list_stops_by : (old new : Talk) (id : ℤ) (reply : Result Answer Errno) (stop : Stop)
    → StopsList old id reply stop new → IsCause stop
list_stops_by old new id (Ok (Bytes bytes)) stop g = ask_gives_up_by old new (op.Describe id) stop g
list_stops_by old new id (Ok Nothing) stop g = absurd g
list_stops_by old new id (Ok (Number n)) stop g = absurd g
list_stops_by old new id (Err e) stop g = absurd g

pub breaks_by : (old new : Talk) (command : Command) (stop : Stop) → Breaks old command stop new → IsCause stop
breaks_by old new (Context n) stop g = absurd g
breaks_by old new (Moment n) stop (is, same) = inl is
breaks_by old new (Ask asked) stop g = ask_gives_up_by old new asked stop g
breaks_by old new (Rlist id) stop (inl g) = ask_gives_up_by old new (op.Read id) stop g
breaks_by old new (Rlist id) stop (inr (reply, mid, asks, g)) = list_stops_by mid new id reply stop g
breaks_by old new (Readq queue room) stop g = ask_gives_up_by old new (op.ReadQueue queue room) stop g

pub if_ok : {A E : Type 0} (r : Result A E) (P Q : A → Type 0) → IfOk r P → ((x : A) → P x → Q x) → IfOk r Q
if_ok (Ok x) P Q holds f = f x holds
if_ok (Err e) P Q holds f = tt

pub if_err : {A E : Type 0} (r : Result A E) (P Q : E → Type 0) → IfErr r P → ((e : E) → P e → Q e) → IfErr r Q
if_err (Ok x) P Q holds f = tt
if_err (Err e) P Q holds f = f e holds
