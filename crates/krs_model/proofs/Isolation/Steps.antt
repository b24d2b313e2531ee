-- Each step leaves a uid its keys to itself, but where a context of it gives one away.
use Rattle.std.proofs.Common.{[], ⊎_elim, ◌==◌, ◌∙◌, ◌≡◌, ◌≢◌, ◌⊎◌, ap, arith, Bool, Err, false, inl, inr, List, Ok}
use Rattle.std.proofs.{Common.{refl, Result, Some, sym, true, true≢false, ℕ}, lemmas.Bool.Decides.nat_tests}
use Rattle.krs_types.specs.declared.{ask.{Answer.Answer, Op.Op}, context.Context.Context, errno.Errno.Errno}
use Rattle.krs_types.specs.declared.event.Event.{Event}
use Rattle.krs_model.specs.{Access.rights_on, Confidentiality.{ActsAs, AreEnclosed, GivesAway, HasToItself}}
use Rattle.krs_model.specs.{Confidentiality.{IsGivenAway, may_give}, History.IsLegal, Lookup.context_of}
use Rattle.krs_model.specs.{Notes.Posting.{Post, posted_in}, Possession.possessed, Revocation.Reads}
use Rattle.krs_model.specs.{Secrecy.MayBeRead, Sound.IsSound, State.{Key, raised, State}, Step.{Ends, Serves, Step}}
use Rattle.krs_model.specs.{Sweep.IsSweep, Table.{at, Table}}
use Rattle.krs_model.proofs.{Asks.{Later.same_ok, Laws.law_of}, Hiding.Readers.reads_by_right}
use Rattle.krs_model.proofs.Isolation.{Attachments.{attaches_none, same_unattached}, Guarded.{alone_guarded, Guarded}}
use Rattle.krs_model.proofs.Isolation.{Guarded.{Holds, NotBy}, Keys.{kept_enclosed, no_rights}}
use Rattle.krs_model.proofs.{Lookups.Serials.own_there, Sound.Steps.{raised_sound, sound_stands}}
use Rattle.std.proofs.lemmas.Grind.{common_steps}

sweep_guarded :
    (uid : ℕ) (private : ℕ → Bool) (P : Type 0) (old new : State) → IsSweep old new → Guarded uid private P old
    → Guarded uid private P new
sweep_guarded uid private P old new s g = grind (arith, nat_tests, kept_enclosed, same_unattached)

posted_guarded :
    (uid : ℕ) (private : ℕ → Bool) (P : Type 0) (ps : List Post) (s : State) → Guarded uid private P s
    → Guarded uid private P (posted_in ps s)
posted_guarded uid private P ps s g = search same_unattached depth 8

-- the clock alone
pub raised_alone :
    (uid : ℕ) (private : ℕ → Bool) (s : State) (moment : ℕ) → HasToItself uid private s
    → HasToItself uid private (raised s moment)
raised_alone uid private s moment alone = search same_unattached depth 8

served_guarded :
    (uid : ℕ) (private : ℕ → Bool) (s new : State) (client context : ℕ) (op : Op) (answer : Answer) → IsSound s
    → HasToItself uid private s → Serves s client context op answer new
    → Guarded uid private (Holds uid s client context op) new
served_guarded uid private s new client context op answer sound alone serves =
    let P = Holds uid s client context op in
    let mid = ((law_of s client context op).fares.meets serves.mid answer serves.meant).guards uid private
    (sound_stands s sound) alone in
    let swept = sweep_guarded uid private P serves.mid serves.swept serves.sweep mid in
    grind (arith, nat_tests, posted_guarded)

ended_guarded :
    (uid : ℕ) (private : ℕ → Bool) (s new : State) (client context : ℕ) (op : Op)
    (reply : Result Answer Errno) → IsSound s
    → HasToItself uid private s → Ends s client context op reply new
    → Guarded uid private (Holds uid s client context op) new
ended_guarded uid private s new client context op (Ok answer) sound alone serves =
    served_guarded uid private s new client context op answer sound alone serves
ended_guarded uid private s new client context op (Err e) sound alone ends = grind (arith, nat_tests, alone_guarded)

pub same_context :
    (s : State) (moment client number : ℕ) → context_of (raised s moment) client number ≡ context_of s client number
unfolding context_of
same_context s moment client number = refl

pub step_guarded :
    (uid : ℕ) (private : ℕ → Bool) (old new : State) (event : Event) → IsSound old → HasToItself uid private old
    → Step old event new → Guarded uid private (Holds uid old event.lane event.ask.context event.ask.op) new
unfolding Step
step_guarded uid private old new event sound alone step =
    let up = raised old event.moment in
    let g = ended_guarded uid private up new event.lane event.ask.context event.ask.op event.reply
    (raised_sound old event.moment sound) (raised_alone uid private old event.moment alone) step in
    grind (arith, nat_tests, same_context)

-- where none of these keys is given away, they are the uid's own, and linked among themselves
pub not_given :
    (uid : ℕ) (private : ℕ → Bool) (keys : Table Key) → (IsGivenAway uid private keys → ⊥)
    → AreEnclosed uid private keys
not_given uid private keys none = grind (arith, common_steps, nat_tests)

-- and keys that are so are not given away
pub alone_not_given :
    (uid : ℕ) (private : ℕ → Bool) (s : State) → HasToItself uid private s → IsGivenAway uid private s.keys → ⊥
alone_not_given uid private s alone given = grind (arith, nat_tests, true≢false)

-- a context of the client is of the uid, or none is under this number
acts_or_not :
    (uid : ℕ) (s : State) (client number : ℕ) → (ActsAs uid s client number) ⊎ (NotBy uid s client number)
acts_or_not uid s client number =
    let whose = context_of s client number in
    elim whose as (λ r. whose ≡ r → (ActsAs uid s client number) ⊎ (NotBy uid s client number)) [
      | Err e ↦ λ is. inr (λ c own. cc)
      | Ok d ↦ λ is. elim (d.caller.uid == uid) as
          (λ b. (d.caller.uid == uid) ≡ b → (ActsAs uid s client number) ⊎ (NotBy uid s client number)) [
            | true ↦ λ t. inl (record { context = d; there = is; own = grind (arith, nat_tests) })
            | false ↦ λ t. inr (λ c own e.
                let same : d ≡ c = same_ok whose d c is own in
                let its : d.caller.uid ≡ uid = ap (λ (z : Context). z.caller.uid) same ∙ e in
                grind (arith, nat_tests))
          ] refl
    ] refl

enclosed_or_given :
    (uid : ℕ) (private : ℕ → Bool) (old new : State) (event : Event)
    → Guarded uid private (Holds uid old event.lane event.ask.context event.ask.op) new
    → (GivesAway uid private old event new → ⊥) → AreEnclosed uid private new.keys
enclosed_or_given uid private old new event g none =
    ⊎_elim
    (λ (acts : ActsAs uid old event.lane event.ask.context). elim (may_give event.ask.op) as
    (λ b. may_give event.ask.op ≡ b → AreEnclosed uid private new.keys) [
      | true ↦ λ t. not_given uid private new.keys (λ given. none (record {
        asked = record { number = event.ask.context; acts = acts; asks = inl refl };
        may = t;
        given = given;
      }))
      | false ↦ λ t. g.enclosed (λ may. absurd (true≢false (sym may ∙ t)))
    ] refl)
    (λ (other : NotBy uid old event.lane event.ask.context). g.enclosed (λ may. other))
    (acts_or_not uid old event.lane event.ask.context)

-- each step leaves a uid its keys to itself, but where a context of it gives one away
pub step_alone :
    (uid : ℕ) (private : ℕ → Bool) (old new : State) (event : Event) → IsSound old → HasToItself uid private old
    → Step old event new → (GivesAway uid private old event new → ⊥) → HasToItself uid private new
step_alone uid private old new event sound alone step none =
    let g = step_guarded uid private old new event sound alone step in
    record { made = g.made; enclosed = enclosed_or_given uid private old new event g none; unattached = g.unattached }

-- none of these keys may be read by a context of another uid
others_read_none :
    (uid : ℕ) (private : ℕ → Bool) (s : State) (number : ℕ) (c : Context) (k : ℕ) → HasToItself uid private s
    → at s.contexts number ≡ Some c → private k ≡ true → MayBeRead s c k → c.caller.uid ≢ uid → ⊥
others_read_none uid private s number c k alone there m may other =
    grind (arith, nat_tests, attaches_none, no_rights, true≢false)

-- an accepted READ of one of these keys is in a context of their uid
pub reads_own :
    (uid : ℕ) (private : ℕ → Bool) (old end : State) (reading : Event) (serial : ℕ) → HasToItself uid private old
    → private serial ≡ true → Step old reading end → (reads : Reads old reading serial)
    → reads.names.whose.caller.uid ≡ uid
unfolding IsLegal
reads_own uid private old end reading serial alone m step reads =
    let up = raised old reading.moment in
    let c = reads.names.whose in
    let may : MayBeRead up c serial = reads_by_right old [] old refl reading end serial step reads in
    let there = own_there up reading.lane reading.ask.context c reads.names.own in
    let apart = others_read_none uid private up reading.ask.context c serial
    (raised_alone uid private old reading.moment alone)
    there m may in
    grind (arith, nat_tests)

-- none of the keys
pub none_alone : (uid : ℕ) (s : State) → HasToItself uid (λ k. false) s
none_alone uid s = grind (arith, nat_tests, true≢false)

-- a context of another uid has no right on a key that the uid has to itself
pub others_rights :
    (uid : ℕ) (private : ℕ → Bool) (s : State) (number k : ℕ) (c : Context) (key : Key) → HasToItself uid private s
    → at s.contexts number ≡ Some c → c.caller.uid ≢ uid → private k ≡ true → at s.keys k ≡ Some key
    → (possessed s c k ≡ false) × (rights_on key c.caller (possessed s c k) ≡ 0)
others_rights uid private s number k c key alone there other m is =
    no_rights uid private s c k key alone.enclosed
    (attaches_none uid private s number c alone.unattached there other) other m is
