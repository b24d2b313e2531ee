-- The laws of a store, told of the list that a seat has seen.
use Rattle.std.proofs.Common.{[], ⊎_elim, ◌++◌, ◌∷◌, ◌≡◌, List, refl, subst}
use Rattle.krs_types.specs.declared.{ask.Op.TheVariants.Invalidate, event.Event.Event}
use Rattle.krs_model.specs.{History.IsLegal, Revocation.{IsServed, Revokes, StaysUnread}, Secrecy.ReadsByRight}
use Rattle.krs_model.specs.{Sound.IsSound, State.State, Step.Step, Table.IsBelow}
use Rattle.krs_model.proofs.Asks.LaterByStep.{legal_follows}
use Rattle.krs_model.proofs.Hiding.{Gone.{revoked_gone, stays_gone, tells_nobody}, Invalidated.invalidated_gone}
use Rattle.krs_model.proofs.History.{Determined.{legal_moves, one_history}, Streams.gives_streams}
use Rattle.krs_desk.specs.Seen.{AreReadByRight, GivesItsStreams, IsNotReadRevoked, TellsNobodyAfter}

-- a legal history, cut in two
pub legal_cut : (a c : State) (xs ys : List Event) → IsLegal a (xs ++ ys) c
    → (b : State) × IsLegal a xs b × IsLegal b ys c
unfolding IsLegal
legal_cut a c [] ys legal = (a, refl, legal)
legal_cut a c (x ∷ xs) ys legal =
    let t = legal_cut legal.0 c xs ys legal.2 in
    (t.0, (legal.0, legal.1, t.1), t.2)

-- its first event, and the rest
legal_first :
    (a c : State) (x : Event) (xs : List Event) → IsLegal a (x ∷ xs) c → (b : State) × Step a x b × IsLegal b xs c
unfolding IsLegal
legal_first a c x xs legal = legal

-- the event behind a history that led to this state
pub next_step :
    (a b c : State) (xs : List Event) (x : Event) (rest : List Event) → IsLegal a xs b → IsLegal a (xs ++ x ∷ rest) c
    → (d : State) × Step b x d × IsLegal d rest c
next_step a b c xs x rest front whole =
    let t = legal_cut a c xs (x ∷ rest) whole in
    let same : t.0 ≡ b = one_history a t.0 b xs t.1 front in
    legal_first b c x rest (subst (λ (s : State). IsLegal s (x ∷ rest) c) same t.2)

-- the last step of a history
pub last_step : (a last end : State) (log : List Event) (e : Event) → IsLegal a log last → IsLegal a (log ++ e ∷ []) end
    → Step last e end
unfolding IsLegal
last_step a last end log e front whole =
    let t = next_step a last end log e [] front whole in subst (Step last e) t.2 t.1

pub not_read_revoked :
    (a end : State) (seen : List Event) → StaysUnread a → IsLegal a seen end → IsNotReadRevoked a seen
not_read_revoked
    a end seen unread legal before later rest revoking reading old late serial is to_old revokes to_late reads =
    let revoked = next_step a old late before revoking later to_old to_late in
    let read = next_step a late end (before ++ revoking ∷ later) reading rest to_late
    (subst (λ (l : List Event). IsLegal a l end) is legal) in
    unread before old to_old revoking revoked.0 serial revoked.1 revokes later late revoked.2 reading read.0 read.1
    reads

pub read_by_right : (a end : State) (seen : List Event) → ReadsByRight a → IsLegal a seen end → AreReadByRight a seen
read_by_right a end seen right legal before rest reading old serial is front reads =
    let step = next_step a old end before reading rest front (subst (λ (l : List Event). IsLegal a l end) is legal) in
    right before old front reading step.0 serial step.1 reads

pub gives_its_streams : (a end : State) (seen : List Event) → IsSound a → IsLegal a seen end → GivesItsStreams a seen
gives_its_streams a end seen sound legal q capacity =
    let some = legal_moves q a seen end sound legal in
    let gives = gives_streams a sound in record {
      end = end;
      moves = some.0;
      from = some.1;
      still_open = λ queue opened stays. gives.still_open end seen some.0 q capacity queue some.1 opened stays;
      begun = λ opened. gives.begun end seen some.0 q capacity some.1 opened;
    }

pub told_to_nobody : (a : State) → IsBelow a.keys a.next_serial → TellsNobodyAfter a
told_to_nobody a below before later events ending old mid serial front ends legal =
    let next = next_step a old mid before ending later front legal in
    let unused : IsBelow old.keys old.next_serial = (legal_follows a before old front).unused below in
    let gone = ⊎_elim (λ (r : Revokes old ending serial). revoked_gone old next.0 ending serial unused next.1 r)
    (λ (i : IsServed old ending Invalidate serial). invalidated_gone old next.0 ending serial unused next.1 i) ends in
    tells_nobody mid serial events (stays_gone next.0 mid later serial next.2 gone)
