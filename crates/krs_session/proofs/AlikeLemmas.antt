-- What answers two sessions that are asked alike.
use Rattle.std.proofs.Common.{[], ⊎_elim, ◌++◌, ◌==◌, ◌∙◌, ◌∷◌, ◌≡◌, ◌≢◌, ◌⊎◌, ap, Bool, cond, false, length, List}
use Rattle.std.proofs.Common.{refl, Result, subst, true, ℕ}
use Rattle.krs_types.specs.declared.{ask.Answer.Answer, errno.Errno.Errno, event.Event.Event}
use Rattle.krs_model.specs.{Lists.Begins, Secrecy.{DifferInReads, IsRead}}
use Rattle.krs_model.proofs.Hiding.Clients.{differ_in_reads}
use Rattle.krs_world.specs.Knowing.{events_of}
use Rattle.krs_world.proofs.{Keeping.prefix_self, Orders.either_begins}
use Rattle.krs_desk.specs.Sitting.{Sitting}
use Rattle.krs_wire.specs.{Reply.reply_frame, declared.framed.Framed.Framed}
use Rattle.krs_session.specs.Alike.{AnswersByReadsAlone, AnswersDifferInReads, ReadAlike, WritesByReadsAlone}
use Rattle.krs_session.specs.Events.{replies_of, session_text, tags_in}
use Rattle.krs_session.specs.{Calls.GainsSession, Session.{AreAll, AreFirst, ServesBytes, TookFront}}
use Rattle.krs_session.specs.declared.ended.Ended.{Ended, TheVariants.{Closed, Memory, Read, Turns, Wire, Write}}

not_none : (xs : List Event) (x : Event) → xs ++ x ∷ [] ≢ []
not_none [] x = λ e. absurd (cc)
not_none (y ∷ ys) x = λ e. absurd (cc)

-- frames with the same versions and tags are answered alike
same_texts : (frames others : List Framed) (replies : List (Result Answer Errno)) → tags_in frames ≡ tags_in others
    → session_text frames replies ≡ session_text others replies
same_texts [] [] replies e = refl
same_texts [] (g ∷ gs) replies e = absurd (cc)
same_texts (f ∷ fs) [] replies e = absurd (cc)
same_texts (f ∷ fs) (g ∷ gs) [] e = refl
same_texts (f ∷ fs) (g ∷ gs) (r ∷ rs) e =
    let tag : f.tag ≡ g.tag = cc in
    let tags : tags_in fs ≡ tags_in gs = cc in
    let more = same_texts fs gs rs tags in
    λ i. reply_frame (tag i) r ++ more i

differ_rest : (xs ys a b : List Event) → length xs ≡ length ys → DifferInReads (xs ++ a) (ys ++ b) → DifferInReads a b
differ_rest [] [] a b n d = d
differ_rest [] (y ∷ ys) a b n d = absurd (cc)
differ_rest (x ∷ xs) [] a b n d = absurd (cc)
differ_rest (x ∷ xs) (y ∷ ys) a b n d =
    let many : length xs ≡ length ys = cc in differ_rest xs ys a b many d.2

differ_front : (xs ys : List Event) (x y : Event) → DifferInReads (xs ++ x ∷ []) (ys ++ y ∷ []) → DifferInReads xs ys
differ_front [] [] x y d = tt
differ_front [] (z ∷ []) x y d = absurd (d.2)
differ_front [] (z ∷ w ∷ ys) x y d = absurd (d.2)
differ_front (z ∷ []) [] x y d = absurd (d.2)
differ_front (z ∷ w ∷ xs) [] x y d = absurd (d.2)
differ_front (z ∷ xs) (w ∷ ys) x y d = (d.0, d.1, differ_front xs ys x y d.2)

differ_further :
    (b : Bool) (e f : Event) (es fs : List Event) → e.lane ≡ f.lane
    → (e.reply ≡ f.reply) ⊎ (IsRead e × IsRead f) → DifferInReads es fs
    → DifferInReads (cond b (e ∷ es) es) (cond b (f ∷ fs) fs)
differ_further true e f es fs lane reply rest = (lane, reply, rest)
differ_further false e f es fs lane reply rest = rest

-- so do the events of one lane
differ_own : (lane : ℕ) (es fs : List Event) → DifferInReads es fs
    → DifferInReads (events_of lane es) (events_of lane fs)
differ_own lane [] [] d = tt
differ_own lane [] (f ∷ fs) d = absurd (d)
differ_own lane (e ∷ es) [] d = absurd (d)
differ_own lane (e ∷ es) (f ∷ fs) d =
    subst (λ (n : ℕ). DifferInReads (events_of lane (e ∷ es))
    (cond (n == lane) (f ∷ events_of lane fs) (events_of lane fs))) d.0
    (differ_further (e.lane == lane) e f (events_of lane es) (events_of lane fs) d.0 d.1 (differ_own lane es fs d.2))

own_events : (s t : Sitting) (frames : List Framed) (events : List Event) (last : Event)
    → GainsSession s frames (events ++ last ∷ []) t
    → events_of t.part.lane t.part.seen ≡ s.part.mine ++ (events ++ last ∷ [])
own_events s t frames events last gains = gains.gains.own (not_none events last) ∙ gains.mine

pub alike_answers : AnswersDifferInReads
alike_answers hide s t u v frames others events further hides alike =
    let all = differ_in_reads hide t.opening v.opening t.part.seen v.part.seen hides alike.asked in
    let own : DifferInReads (events_of t.part.lane t.part.seen) (events_of v.part.lane v.part.seen) =
    subst (λ (n : ℕ). DifferInReads (events_of t.part.lane t.part.seen) (events_of n v.part.seen)) alike.lane
    (differ_own t.part.lane t.part.seen v.part.seen all) in
    let first = s.part.mine ++ (events ++ alike.last ∷ []) in
    let second = u.part.mine ++ (further ++ alike.final ∷ []) in
    let mine : DifferInReads first second =
    subst (λ (l : List Event). DifferInReads l second) (own_events s t frames events alike.last alike.one)
    (subst (λ (l : List Event). DifferInReads (events_of t.part.lane t.part.seen) l)
    (own_events u v others further alike.final alike.other) own) in
    differ_front events further alike.last alike.final
    (differ_rest s.part.mine u.part.mine (events ++ alike.last ∷ []) (further ++ alike.final ∷ []) alike.before mine)

-- where their READs are answered the same, all of them are
same_replies : (events others : List Event) → DifferInReads events others → ReadAlike events others
    → replies_of events ≡ replies_of others
same_replies [] [] differ alike = refl
same_replies [] (f ∷ fs) differ alike = absurd differ
same_replies (e ∷ es) [] differ alike = absurd differ
same_replies (e ∷ es) (f ∷ fs) differ alike =
    let head : e.reply ≡ f.reply =
    ⊎_elim (λ (one : e.reply ≡ f.reply). one) (λ (both : IsRead e × IsRead f). alike.0 both.0 both.1) differ.1 in
    let rest : replies_of es ≡ replies_of fs = same_replies es fs differ.2 alike.1 in
    λ i. head i ∷ rest i

pub alike_texts : AnswersByReadsAlone
alike_texts hide s t u v frames others events further hides alike reads tags =
    let replies : replies_of events ≡ replies_of further =
    same_replies events further (alike_answers hide s t u v frames others events further hides alike) reads in
    ap (session_text frames) replies ∙ same_texts frames others (replies_of further) tags

-- however a session ended, a front of the text was written
front_written : (took : List ℕ → Type 0) (bytes : List ℕ) (frames : List Framed) (text : List ℕ) (ended : Ended)
    → ServesBytes took bytes frames text ended → TookFront took text
front_written took bytes frames text Closed h = (text, prefix_self text, h.1)
front_written took bytes frames text Read h = (text, prefix_self text, h.1)
front_written took bytes frames text Turns h = (text, prefix_self text, h.1)
front_written took bytes frames text (Wire fault) h = (text, prefix_self text, h.1)
front_written took bytes frames text Write h = h.1
front_written took bytes frames text Memory h =
    ⊎_elim (λ (cut : AreAll bytes frames × TookFront took text). cut.1)
    (λ (whole : AreFirst bytes frames × took text). (text, prefix_self text, whole.1)) h

pub alike_written : {W : Type 0} (took : W → List ℕ → W → Type 0) → WritesByReadsAlone took
alike_written took hide s t u v frames others events further old new other_old other_new hides alike reads tags one
    two =
    let same = alike_texts hide s t u v frames others events further hides alike reads tags in
    let text = session_text others (replies_of further) in
    let front = front_written (λ x. took old x new) one.bytes frames (session_text frames (replies_of events)) one.ended
    one.served in
    let other = front_written (λ x. took other_old x other_new) two.bytes others text two.ended two.served in
    record {
      text = front.0;
      other = other.0;
      taken = front.2;
      other_taken = other.2;
      either = either_begins front.0 other.0 text (subst (λ (l : List ℕ). Begins front.0 l) same front.1) other.1;
    }
