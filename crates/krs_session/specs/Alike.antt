-- Two sessions that are asked alike, but for payloads that are hidden: krs_model/specs/Secrecy.antt.
use Rattle.std.specs.Prelude.{[], ◌++◌, ◌∷◌, ◌≡◌, ◌⊎◌, length, List, ℕ}
use Rattle.krs_types.specs.declared.event.Event.{Event}
use Rattle.krs_model.specs.{Hiding.{Hides, Hiding}, Lists.Begins, Secrecy.{AreAskedAlike, DifferInReads, IsRead}}
use Rattle.krs_desk.specs.Sitting.{Sitting}
use Rattle.krs_wire.specs.declared.framed.Framed.{Framed}
use Rattle.krs_session.specs.Events.{replies_of, session_text, tags_in}
use Rattle.krs_session.specs.{Calls.GainsSession, Session.ServesBytes, declared.ended.Ended.Ended}

-- Two sessions of one lane: from the seat s to t, which asked these frames by these events and then LEAVE, and from u
-- to v. The seats had made as many calls before, and what they have then seen, with all others' calls, are histories
-- that are asked alike, but for payloads that are hidden.
pub record AreAlike (hide : Hiding) (s t u v : Sitting) (frames others : List Framed) (events further : List Event)
    : Type 0 where
  pub last : Event
  pub final : Event
  pub one : GainsSession s frames (events ++ last ∷ []) t
  pub other : GainsSession u others (further ++ final ∷ []) v
  pub lane : t.part.lane ≡ v.part.lane
  pub before : length s.part.mine ≡ length u.part.mine
  pub asked : AreAskedAlike hide t.opening v.opening t.part.seen v.part.seen

-- reply by reply the two are answered with the same, but for accepted READs
abbrev pub AnswersDifferInReads : Type 0
AnswersDifferInReads =
    (hide : Hiding) (s t u v : Sitting) (frames others : List Framed) (events further : List Event) → Hides hide
    → AreAlike hide s t u v frames others events further → DifferInReads events further

-- event by event, where both are accepted READs, they are answered the same
abbrev pub ReadAlike : List Event → List Event → Type 0
ReadAlike [] others = Unit {0}
ReadAlike (event ∷ events) [] = Unit {0}
ReadAlike (event ∷ events) (other ∷ others) =
    (IsRead event → IsRead other → event.reply ≡ other.reply) × ReadAlike events others

-- Whatever payloads are hidden, of keys that the lane reads too, and whatever earlier connections of the lane had read:
-- where the READs of the two are answered the same, and their frames have the same versions and tags, the texts of all
-- replies are the same
abbrev pub AnswersByReadsAlone : Type 0
AnswersByReadsAlone =
    (hide : Hiding) (s t u v : Sitting) (frames others : List Framed) (events further : List Event) → Hides hide
    → AreAlike hide s t u v frames others events further → ReadAlike events further
    → tags_in frames ≡ tags_in others
    → session_text frames (replies_of events) ≡ session_text others (replies_of further)

-- A writer took in between what a session writes that was asked these frames by these events, however it ended
pub record Writes {W : Type 0} (took : W → List ℕ → W → Type 0) (frames : List Framed) (events : List Event)
    (old new : W) : Type 0 where
  pub bytes : List ℕ
  pub ended : Ended
  pub served : ServesBytes (λ text. took old text new) bytes frames (session_text frames (replies_of events)) ended

-- what one writer took begins what the other took, or the other way round
pub record TookAlike {W : Type 0} (took : W → List ℕ → W → Type 0) (old new other_old other_new : W) : Type 0 where
  pub text : List ℕ
  pub other : List ℕ
  pub taken : took old text new
  pub other_taken : took other_old other other_new
  pub either : Begins text other ⊎ Begins other text

-- so of what is written in the two, whichever way each ends, the one begins the other
abbrev pub WritesByReadsAlone : {W : Type 0} → (W → List ℕ → W → Type 0) → Type 0
WritesByReadsAlone {W} took =
    (hide : Hiding) (s t u v : Sitting) (frames others : List Framed) (events further : List Event)
    (old new other_old other_new : W) → Hides hide
    → AreAlike hide s t u v frames others events further → ReadAlike events further
    → tags_in frames ≡ tags_in others
    → Writes took frames events old new → Writes took others further other_old other_new
    → TookAlike took old new other_old other_new
