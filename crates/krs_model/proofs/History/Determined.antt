-- A reply leads to one state, and a history to one: what is called for of a queue and taken from it is determined.
-- So is the reply, ENOMEM aside.
use Rattle.std.proofs.Common.{[], ◌++◌, ◌∙◌, ◌∷◌, ◌≡◌, ◌≢◌, ap, arith, Err, List, map, Ok, refl, Result, subst, sym}
use Rattle.std.proofs.{Common.ℕ, lemmas.Bool.Decides.nat_tests}
use Rattle.krs_types.specs.declared.{ask.{Answer.Answer, Op.Op}, errno.Errno.{Errno, TheVariants.ENOMEM}}
use Rattle.krs_types.specs.declared.{event.Event.Event, note.Record.Record}
use Rattle.krs_model.specs.{History.IsLegal, Notes.{Posting.posted_in, Stream.{Move, Posted, Took}}, Outcome.Outcome}
use Rattle.krs_model.specs.{Receiving.{called_for, FurtherMoves, HasMoves, NoMoves, Takes}, Sound.IsSound}
use Rattle.krs_model.specs.{State.{State}, Step.{Ends, outcome_of, posts_by, Serves, Step}, Sweep.IsSweep}
use Rattle.krs_model.proofs.{Asks.Later.same_state, Notes.Reads.{step_read, takes_one, takes_some}}
use Rattle.krs_model.proofs.{Sound.Steps.step_sound, Sweep.Laws.one_sweep}
use Rattle.std.proofs.lemmas.Grind.{common_steps}

-- an accepted ask leaves one state
pub one_served :
    {s a b : State} {client context : ℕ} {op : Op} {answer : Answer} → Serves s client context op answer a
    → Serves s client context op answer b → a ≡ b
one_served {s} {a} {b} {client} {context} {op} {answer} f g =
    let mid : f.mid ≡ g.mid = same_state _ f.mid g.mid answer answer f.meant g.meant in
    let sweep : IsSweep g.mid f.swept = subst (λ (t : State). IsSweep t f.swept) mid f.sweep in
    let swept : f.swept ≡ g.swept = one_sweep g.mid f.swept g.swept sweep g.sweep in
    f.posted ∙ (ap (λ (t : State). posted_in (posts_by s client context op answer t.keys) t) swept ∙ sym g.posted)

one_end :
    (s a b : State) (client context : ℕ) (op : Op) (reply : Result Answer Errno) → Ends s client context op reply a
    → Ends s client context op reply b → a ≡ b
one_end s a b client context op (Ok answer) f g = one_served f g
one_end s a b client context op (Err e) f g = f.1 ∙ sym g.1

-- a step leads to one state
pub one_step : (old a b : State) (event : Event) → Step old event a → Step old event b → a ≡ b
unfolding Step
one_step old a b event f g = grind (arith, common_steps, one_end)

-- the reply of what an ask comes to
abbrev replied : Outcome → Result Answer Errno
replied (Ok done) = Ok done.1
replied (Err e) = Err e

reply_is :
    (s new : State) (client context : ℕ) (op : Op) (reply : Result Answer Errno) → Ends s client context op reply new
    → reply ≢ Err ENOMEM → reply ≡ replied (outcome_of s client context op)
reply_is s new client context op (Ok answer) ends memory = sym (ap replied ends.meant)
reply_is s new client context op (Err e) ends memory = grind (arith, nat_tests)

-- what is asked of a state is answered with one reply, but for ENOMEM
pub one_reply :
    (old a b : State) (e f : Event) → e.lane ≡ f.lane → e.moment ≡ f.moment → e.ask ≡ f.ask → Step old e a
    → Step old f b → e.reply ≢ Err ENOMEM → f.reply ≢ Err ENOMEM → e.reply ≡ f.reply
unfolding Step
one_reply old a b e f lane moment ask first second memory other = grind (arith, nat_tests, reply_is)

-- and so does a history
pub one_history :
    (start a b : State) (events : List Event) → IsLegal start events a → IsLegal start events b → a ≡ b
unfolding IsLegal
one_history start a b [] f g = sym f ∙ g
one_history start a b (event ∷ events) f g = grind (arith, nat_tests, one_step, one_history g.0 a b events)

-- a legal history has moves of each queue
pub legal_moves :
    (q : ℕ) (start : State) (events : List Event) (end : State) → IsSound start → IsLegal start events end
    → (moves : List Move) × HasMoves q start events moves end
unfolding IsLegal
legal_moves q start [] end sound legal = ([], subst (λ (t : State). HasMoves q start [] [] t) legal (NoMoves start))
legal_moves q start (event ∷ events) end sound legal =
    let next = legal.0 in
    let took = takes_some q event (step_read start next event q sound legal.1) in
    let rest = legal_moves q next events end (step_sound start next event sound legal.1) legal.2 in (
      map Posted (called_for q start event next) ++ (map Took took.0 ++ rest.0),
      FurtherMoves start next end event events took.0 rest.0 legal.1 took.1 rest.1,
    )

-- and what has moves is legal
pub moves_legal :
    (q : ℕ) (start : State) (events : List Event) (moves : List Move) (end : State) → HasMoves q start events moves end
    → IsLegal start events end
unfolding IsLegal
moves_legal q _ _ _ _ (NoMoves s) = refl
moves_legal q _ _ _ _ (FurtherMoves s next end event events took moves step takes rest) =
    (next, step, moves_legal q next events moves end rest)

-- what happened to a history begins as this step
record Further (q : ℕ) (s : State) (event : Event) (events : List Event) (all : List Move) (end : State) : Type 0 where
  next : State
  took : List Record
  moves : List Move
  step : Step s event next
  takes : Takes q event took
  rest : HasMoves q next events moves end
  is : all ≡ map Posted (called_for q s event next) ++ (map Took took ++ moves)

further : (q : ℕ) (s : State) (event : Event) (events : List Event) (all : List Move) (end : State)
    → HasMoves q s (event ∷ events) all end → Further q s event events all end
further q _ _ _ _ _ (FurtherMoves s next end event events took moves step takes rest) = grind (arith, common_steps)

nothing_more : (q : ℕ) (s : State) (all : List Move) (end : State) → HasMoves q s [] all end → all ≡ []
nothing_more q _ _ _ (NoMoves s) = refl

-- and they are one
pub one_moves :
    (q : ℕ) (start : State) (events : List Event) (a b : List Move) (end other : State) → IsSound start
    → HasMoves q start events a end → HasMoves q start events b other → a ≡ b
one_moves q start [] a b end other sound f g =
    nothing_more q start a end f ∙ sym (nothing_more q start b other g)
one_moves q start (event ∷ events) a b end other sound f g =
    let x = further q start event events a end f in
    let y = further q start event events b other g in
    let same : x.next ≡ y.next = one_step start x.next y.next event x.step y.step in
    let took : x.took ≡ y.took =
    takes_one q event x.took y.took (step_read start x.next event q sound x.step) x.takes y.takes in
    let rest : HasMoves q y.next events x.moves end =
    subst (λ (t : State). HasMoves q t events x.moves end) same x.rest in
    let moves : x.moves ≡ y.moves =
    one_moves q y.next events x.moves y.moves end other (step_sound start y.next event sound y.step) rest y.rest in
    x.is ∙ (ap (λ (t : State). map Posted (called_for q start event t) ++ (map Took x.took ++ x.moves)) same
    ∙ (ap (λ (rs : List Record). map Posted (called_for q start event y.next) ++ (map Took rs ++ x.moves)) took
    ∙ (ap (λ (ms : List Move). map Posted (called_for q start event y.next) ++ (map Took y.took ++ ms)) moves
    ∙ sym y.is)))
