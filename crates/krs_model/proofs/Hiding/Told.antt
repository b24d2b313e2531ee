-- What a client is told hangs on what its READs answer alone.
use Rattle.std.proofs.Common.{[], ⊎_elim, ◌&&◌, ◌∷◌, ◌≡◌, ◌⊎◌, arith, Bool, cond, Err, false, is_ok, List, Ok, refl}
use Rattle.std.proofs.{Common.{Result, sym, true, true≢false, ℕ}, lemmas.Bool.Decides.nat_tests}
use Rattle.krs_types.specs.declared.{ask.Answer.Answer, errno.Errno.Errno, event.Event.Event}
use Rattle.krs_model.specs.{Hiding.{blind_event, FurtherEvents, Hiding, IsBlinded, NoEvents, over}, Secrecy.reads_to}
use Rattle.krs_model.specs.{Secrecy.{replies_to, tells, TellsByReadsAlone}, State.State}
use Rattle.krs_model.proofs.Hiding.Clients.{blinded_alike, read_alike, replied, reply_or_read}
use Rattle.std.proofs.lemmas.Grind.{common_steps}

-- event by event the clients are the same, both or neither are accepted READs, and the replies are the same but for
-- these
abbrev pub DifferByTold : List Event → List Event → Type 0
DifferByTold [] [] = Unit {0}
DifferByTold (event ∷ events) (other ∷ others) =
    (event.lane ≡ other.lane) × (tells event ≡ tells other) × ((event.reply ≡ other.reply) ⊎ (tells event ≡ true))
    × DifferByTold events others
DifferByTold [] (other ∷ others) = ⊥
DifferByTold (event ∷ events) [] = ⊥

same_ok : (f g : Answer → Answer) (reply other : Result Answer Errno) → over f reply ≡ over g other
    → is_ok reply ≡ is_ok other
same_ok f g (Ok x) (Ok y) same = refl
same_ok f g (Ok x) (Err e) same = absurd (cc)
same_ok f g (Err e) (Ok y) same = absurd (cc)
same_ok f g (Err e) (Err d) same = refl

both_hold : (b c : Bool) → b ≡ true → c ≡ true → (b && c) ≡ true
both_hold true c b_is c_is = c_is
both_hold false c b_is c_is = absurd (true≢false (sym b_is))

same_tells : (hide : Hiding) (s t : State) (event other : Event) → blind_event hide s event ≡ blind_event hide t other
    → tells event ≡ tells other
same_tells hide s t event other same = grind (arith, nat_tests, same_ok, read_alike)

differ_by_told :
    (hide : Hiding) (a b x y : State) (events others blinded alike : List Event)
    → IsBlinded hide a events x blinded → IsBlinded hide b others y alike → blinded ≡ alike
    → DifferByTold events others
differ_by_told hide _ _ _ _ _ _ _ _ (NoEvents s) (NoEvents t) same = tt
differ_by_told hide _ _ _ _ _ _ _ _ (NoEvents s) (FurtherEvents t next end event events blinded step rest) same = cc
differ_by_told hide _ _ _ _ _ _ _ _ (FurtherEvents s next end event events blinded step rest) (NoEvents t) same = cc
differ_by_told hide _ _ _ _ _ _ _ _ (FurtherEvents s next end event events blinded step rest)
    (FurtherEvents t top last other others alike further behind) same =
    grind (
      arith,
      nat_tests,
      same_tells,
      both_hold,
      reply_or_read,
      read_alike,
      differ_by_told hide next top end
          last events others blinded alike rest behind,
    )

-- one event further, of the client or not, and an accepted READ or not
one_told :
    (b t : Bool) (e f : Event) (es fs reads others : List Event) → (e.reply ≡ f.reply) ⊎ (t ≡ true)
    → (replied reads ≡ replied others → replied es ≡ replied fs)
    → replied (cond (b && t) (e ∷ reads) reads) ≡ replied (cond (b && t) (f ∷ others) others)
    → replied (cond b (e ∷ es) es) ≡ replied (cond b (f ∷ fs) fs)
one_told true true e f es fs reads others either rest same = grind (arith, nat_tests)
one_told true false e f es fs reads others either rest same = grind (arith, common_steps, ⊎_elim, true≢false)
one_told false true e f es fs reads others either rest same = rest same
one_told false false e f es fs reads others either rest same = rest same

told :
    (client : ℕ) (events others : List Event) → DifferByTold events others
    → reads_to client events ≡ reads_to client others → replies_to client events ≡ replies_to client others
told client [] [] differ same = refl
told client [] (f ∷ fs) differ same = absurd differ
told client (e ∷ es) [] differ same = absurd differ
told client (e ∷ es) (f ∷ fs) differ same = grind (arith, nat_tests, one_told, told client es fs differ.3)

pub tells_by_reads_alone : (start : State) (events : List Event) → TellsByReadsAlone start events
tells_by_reads_alone start events hide client other others hides alike same =
    search (told, differ_by_told, blinded_alike) depth 8
