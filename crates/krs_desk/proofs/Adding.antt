-- Each step is the machine's of its name.
use Rattle.std.proofs.Common.{[], ⊎_elim, ◌++◌, ◌+◌, ◌<◌, ◌∙◌, ◌∷◌, ◌≡◌, ◌≢◌, ◌≤◌, ◌⊎◌, ap, append-nil, append_assoc}
use Rattle.std.proofs.Common.{arith, get_or, get_or-set_other, get_or-set_same, inl, inr, length, length-append, List}
use Rattle.std.proofs.Common.{lt_of_not-le, None, Option, refl, Result, set, Some, subst, suc, sym, zero, ℕ}
use lib.ListN.{get_elem?}
use mathlib.Core.{Logic.dite, Option.{some, some-injective}}
use native.Mathlib.Decide.{dec_le, ℕ_discrete}
use Rattle.krs_types.specs.declared.{ask.{Answer.Answer, Ask.Ask}, errno.Errno.Errno, event.Event.Event}
use Rattle.krs_model.specs.{History.{event_of, IsLegal}, Lists.Begins, State.State, Step.Step}
use Rattle.krs_world.specs.{History.{Fits, HasSeen, Known}, Knowing.{events_of, flight, service}}
use Rattle.krs_world.specs.{World.IsUnposted, declared.view.{Cell.Cell, Flight.Flight, Part.Part, Service.Service}}
use Rattle.krs_world.specs.declared.view.{Standing.TheVariants.One, View.View}
use Rattle.krs_desk.specs.{Machine.{IsSeatedIn, Sits}, Moves.{after, IsMadeAt, Move}, Parts.views_of}
use Rattle.krs_desk.specs.Rule.{CellIs, InOneOrder, Slot}
use Rattle.krs_desk.specs.Running.{added, Board, BringsOf, IsLeft, IsNamed, IsOutAt, IsStepped, StepsAsNamed}
use Rattle.krs_desk.proofs.{Between.unanswered, Looking.not_both, Posts.answered_of}
use Rattle.krs_desk.proofs.Running.{begins_log, now_views, seen_sits, step_grows, turn_sits, was_there, Within}
use Rattle.krs_desk.proofs.Running.{within}
use Rattle.krs_desk.proofs.{Seen.last_step, Serves.posted_of, TurnSteps.{turn, view_at}}
use Rattle.krs_desk.specs.Moves as move
use Rattle.krs_world.proofs.Keeping as law
use Rattle.krs_world.specs.History as history
use Rattle.krs_world.specs.declared.view.Cell.TheVariants as cells

-- The history after a step is no longer than what the token brings.

module _ {a : State} {s new : Board} (r : InOneOrder a s) (r' : InOneOrder a new) (h : IsStepped s new) where
  -- what is held and what is seen then begins a list that the history began
  no_longer : (whole : List Event) → Begins r.history.log whole
      → ((l : List Event) → HasSeen l h.w.view.stands → Begins l whole)
      → ((l : List Event) → history.HasTurn l h.w.view.stands → Begins l whole) → Begins r'.history.log whole
  no_longer whole old seen held =
      let log : List Event = r'.history.log in
      let before : (l : List Event) → Begins l r.history.log → Begins l whole =
      λ l b. law.prefix_trans l r.history.log whole b old in
      dite (ℕ_discrete (turn new) 1) (λ out.
      let k = r'.history.held out in
      ⊎_elim (λ (t : (r'.history.holder ≡ h.id) × (h.w.view ≡ k.0)).
      held log (subst (λ (v : View). history.HasTurn log v.stands) (sym t.1) k.2))
      (λ (t : (r'.history.holder ≢ h.id) × (get_elem? (views_of s.views) r'.history.holder ≡ some k.0)).
      let q = turn_sits log k.0.stands k.2 in
      let had : IsSeatedIn (views_of s.views) q.0 = (r'.history.holder, k.0, t.1, q.1) in
      before log (begins_log log r.history.log ((within r had).held log q.2))) (was_there h r'.history.holder k.0 k.1))
      (λ not. ⊎_elim (λ (e : log ≡ []). subst (λ (l : List Event). Begins l whole) (sym e) (whole, refl))
      (λ (t : (j : ℕ) × (v : View) × (get_elem? (views_of new.views) j ≡ some v) × HasSeen log v.stands).
      ⊎_elim
      (λ (i : (t.0 ≡ h.id) × (h.w.view ≡ t.1)). seen log (subst (λ (v : View). HasSeen log v.stands) (sym i.1) t.3))
      (λ (i : (t.0 ≢ h.id) × (get_elem? (views_of s.views) t.0 ≡ some t.1)).
      let q = seen_sits log t.1.stands t.3 in
      let had : IsSeatedIn (views_of s.views) q.0 = (t.0, t.1, i.1, q.1) in
      before log (subst (λ (l : List Event). Begins l r.history.log) q.2 (within r had).seen))
      (was_there h t.0 t.1 t.2)) (r'.history.longest not))

-- How many calls of a lane the history has.

-- those that it knows of, and one more where its cell is answered
count_more : (x : ℕ) (slot : Slot) (c : Cell) (log : List Event) (p : Part) → CellIs x slot c → Fits log p c → x ≡ 3
    → length (events_of p.lane log) ≡ length p.mine + 1
count_more x slot c log p is fits three =
    let t = answered_of x slot c is three in
    let fit : Fits log p (cells.Answered t.0 t.1 t.2) = subst (Fits log p) t.3 fits in
    ap length fit.2 ∙ length-append p.mine (event_of p.lane t.0 t.1 t.2 ∷ [])

count_same : (x : ℕ) (slot : Slot) (c : Cell) (log : List Event) (p : Part) → CellIs x slot c → Fits log p c → x ≢ 3
    → events_of p.lane log ≡ p.mine
count_same x slot cells.Empty log p is fits not = fits.1
count_same x slot (cells.Posted m ask) log p is fits not = fits.2
count_same x slot (cells.Serving m ask) log p is fits not = fits.2
count_same x slot (cells.Answered m ask reply) log p is fits not = absurd (not is.0)

pub counts :
    (x : ℕ) (slot slot' : Slot) (c c' : Cell) (log log' : List Event) (p q : Part) → q.lane ≡ p.lane → q.mine ≡ p.mine
    → CellIs x slot c → CellIs x slot' c' → Fits log p c → Fits log' q c'
    → length (events_of p.lane log) ≡ length (events_of p.lane log')
counts x slot slot' c c' log log' p q lane mine is is' fits fits' =
    let same : events_of q.lane log' ≡ events_of p.lane log' = ap (λ l. events_of l log') lane in
    dite (ℕ_discrete x 3) (λ three.
    count_more x slot c log p is fits three ∙ (ap (λ (l : List Event). length l + 1) (sym mine)
    ∙ (sym (count_more x slot' c' log' q is' fits' three) ∙ ap length same))) (λ not.
    ap length
    (count_same x slot c log p is fits not ∙ (sym mine ∙ (sym (count_same x slot' c' log' q is' fits' not) ∙ same))))

-- a list that another one begins is no shorter
pub no_shorter : (xs ys : List Event) → Begins xs ys → length xs ≤ length ys
no_shorter xs ys b = let sum : length xs + length b.0 ≡ length ys = sym (length-append xs b.0) ∙ ap length b.1 in
    omega arith

-- A list that begins another one is that, where both have as many calls of each lane: of those from a number on the
-- other has none.
none_longer : (log whole rest : List Event) → log ++ rest ≡ whole
    → ((l : ℕ) → length (events_of l log) ≡ length (events_of l whole)) → whole ≡ log
none_longer log whole [] e same = sym e ∙ append-nil log
none_longer log whole (x ∷ more) e same =
    let l : ℕ = x.lane in
    let old : List Event = events_of l log in
    let has : Begins (old ++ x ∷ []) (events_of l whole) =
    subst (λ (z : List Event). Begins z (events_of l whole)) (law.own_event l log x refl)
    (law.events_prefix l (log ++ x ∷ []) whole (more, append_assoc log (x ∷ []) more ∙ e)) in
    let long : length (old ++ x ∷ []) ≤ length (events_of l whole) =
    no_shorter (old ++ x ∷ []) (events_of l whole) has in
    let sum : length (old ++ x ∷ []) ≡ length old + 1 = length-append old (x ∷ []) in
    let no : length old ≡ length (events_of l whole) = same l in
    absurd (omega arith)

pub none_more : (log whole : List Event) → Begins log whole → (n : ℕ) → ((l : ℕ) → n ≤ l → events_of l whole ≡ [])
    → ((l : ℕ) → l < n → length (events_of l log) ≡ length (events_of l whole)) → whole ≡ log
none_more log whole b n none some_calls = none_longer log whole b.0 b.1 (λ l.
    dite (dec_le n l) (λ le.
    let short : length (events_of l log) ≤ length (events_of l whole) =
    no_shorter (events_of l log) (events_of l whole) (law.events_prefix l log whole b) in
    let zero_is : length (events_of l whole) ≡ 0 = ap length (none l le) in
    omega arith) (λ nle. some_calls l (lt_of_not-le nle)))

-- Words and cells.

-- a word that isn't 0 is there
set_in : (ws : List ℕ) (i n : ℕ) → get_or ws i 0 ≢ 0 → get_or (set ws i n) i 0 ≡ n
set_in [] i n not = absurd (not refl)
set_in (x ∷ xs) zero n not = refl
set_in (x ∷ xs) (suc i) n not = set_in xs i n not

set_or : (ws : List ℕ) (i n : ℕ) → (get_or (set ws i n) i 0 ≡ n) ⊎ (get_or (set ws i n) i 0 ≡ 0)
set_or [] i n = inr refl
set_or (x ∷ xs) zero n = inl refl
set_or (x ∷ xs) (suc i) n = set_or xs i n

pub empty_of : (x : ℕ) (slot : Slot) (c : Cell) → CellIs x slot c → x ≡ 0 → c ≡ cells.Empty
empty_of x slot cells.Empty is e = refl
empty_of x slot (cells.Posted m ask) is e = absurd (let one_is : x ≡ 1 = is.0 in omega arith)
empty_of x slot (cells.Serving m ask) is e = absurd (let two_is : x ≡ 2 = is in omega arith)
empty_of x slot (cells.Answered m ask reply) is e = absurd (let three_is : x ≡ 3 = is.0 in omega arith)

pub serving_of : (x : ℕ) (slot : Slot) (c : Cell) → CellIs x slot c → x ≡ 2
    → (m : ℕ) × (ask : Ask) × (c ≡ cells.Serving m ask)
serving_of x slot cells.Empty is e = absurd (let zero_is : x ≡ 0 = is in omega arith)
serving_of x slot (cells.Posted m ask) is e = absurd (let one_is : x ≡ 1 = is.0 in omega arith)
serving_of x slot (cells.Serving m ask) is e = (m, ask, refl)
serving_of x slot (cells.Answered m ask reply) is e = absurd (let three_is : x ≡ 3 = is.0 in omega arith)

pub unposted : (x : ℕ) (slot : Slot) (c : Cell) → x ≢ 1 → CellIs x slot c → IsUnposted c
unposted x slot cells.Empty not is = tt
unposted x slot (cells.Posted m ask) not is = absurd (not is.0)
unposted x slot (cells.Serving m ask) not is = tt
unposted x slot (cells.Answered m ask reply) not is = tt

pub last_same : (xs : List Event) (e f : Event) → xs ++ e ∷ [] ≡ xs ++ f ∷ [] → e ≡ f
last_same [] e f is = cc
last_same (x ∷ xs) e f is = let tail : xs ++ e ∷ [] ≡ xs ++ f ∷ [] = cc in last_same xs e f tail

-- a call in flight is the one that is posted
posted_flight :
    (log : List Event) (q : Part) (m n : ℕ) (ask other : Ask) (had : List Event) → q.flight ≡ Some (flight m ask had)
    → Fits log q (cells.Posted n other) → cells.Posted n other ≡ cells.Posted m ask
posted_flight log q m n ask other had is fits =
    let both : ◌≡◌ {A = Option Flight} (Some (flight m ask had)) (Some (flight n other fits.0)) = sym is ∙ fits.1 in
    let one_call : flight m ask had ≡ flight n other fits.0 = cc in
    sym (ap (λ (f : Flight). cells.Posted f.moment f.ask) one_call)

one_service :
    (l m n : ℕ) (ask other : Ask) → ◌≡◌ {A = Option Service} (Some (service l m ask)) (Some (service l n other))
    → cells.Serving n other ≡ cells.Serving m ask
one_service l m n ask other is =
    let one_call : service l m ask ≡ service l n other = cc in
    sym (ap (λ (t : Service). cells.Serving t.moment t.ask) one_call)

-- the cell of an event's call
event_cell : (l m : ℕ) (ask : Ask) (reply : Result Answer Errno) (e : Event) → event_of l m ask reply ≡ e
    → cells.Answered m ask reply ≡ cells.Answered e.moment e.ask e.reply
event_cell l m ask reply e is = ap (λ (x : Event). cells.Answered x.moment x.ask x.reply) is

abbrev cell_word : Board → ℕ → ℕ
cell_word t l = get_or t.words (l + 1) 0

-- A step of one lane's token, which knew p before it, and knows q after it. The rule holds before and after.
pub record OneStep (a : State) (s new : Board) (p q : Part) : Type 0 where
  pub r : InOneOrder a s
  pub r' : InOneOrder a new
  pub h : IsStepped s new
  pub was : h.v.view.stands ≡ One p
  pub is : h.w.view.stands ≡ One q
  pub lane : q.lane ≡ p.lane

module _ {a : State} {s new : Board} {p q : Part} (one : OneStep a s new p q) where
  open one use {r, r', h, was, is, lane}

  abbrev pub before : IsSeatedIn (views_of s.views) p
  before = (h.id, h.v.view, view_at s.views h.id h.at, subst (Sits p) (sym was) refl)

  abbrev pub afterwards : IsSeatedIn (views_of new.views) q
  afterwards = (
    h.id,
    h.w.view,
    subst (λ (l : List View). get_elem? l h.id ≡ some h.w.view) (sym (now_views h))
        (law.set_at (views_of s.views) h.id h.w.view h.v.view (view_at s.views h.id h.at)),
    subst (Sits q) (sym is) refl,
  )

  pub known : (t : Part) → (had : IsSeatedIn (views_of s.views) t) → Known (law.shares r.history) had.0 t
  known t had = law.known_of (law.shares r.history) had.0 had.1.stands t had.3 (r.history.each had.0 had.1 had.2)

  pub known_after : (t : Part) → (had : IsSeatedIn (views_of new.views) t) → Known (law.shares r'.history) had.0 t
  known_after t had = law.known_of (law.shares r'.history) had.0
      had.1.stands t had.3 (r'.history.each had.0 had.1 had.2)

  -- where each other lane's word stays, and the history has as many calls of the token's own, it stays as it is
  stays_whole : length (events_of p.lane r.history.log) ≡ length (events_of p.lane r'.history.log)
      → ((l : ℕ) → l ≢ p.lane → cell_word new l ≡ cell_word s l) → r.history.log ≡ r'.history.log
  stays_whole own words = sym (none_more r.history.log r'.history.log (step_grows r r' (inl h)) r'.history.dealt
      (λ l le. (r'.history.undealt l le).1) (λ l lt.
      let t = r'.history.seated l lt in
      let place : ℕ = r'.history.seat l in
      let found = law.sits_of l t.0.stands t.2 in
      let u : Part = found.0 in
      ⊎_elim (λ (i : (place ≡ h.id) × (h.w.view ≡ t.0)).
      let same : q ≡ u = subst (Sits u) (ap (λ (v : View). v.stands) (sym i.1) ∙ is) found.1 in
      let own_lane : p.lane ≡ l = sym lane ∙ (ap (λ (z : Part). z.lane) same ∙ found.2) in
      subst (λ (n : ℕ). length (events_of n r.history.log) ≡ length (events_of n r'.history.log)) own_lane own)
      (λ (i : (place ≢ h.id) × (get_elem? (views_of s.views) place ≡ some t.0)).
      let k = known u (place, t.0, i.1, found.1) in
      let k' = known_after u (place, t.0, t.1, found.1) in
      let apart : u.lane ≢ p.lane = λ same. i.0 (sym k.at ∙ (ap r.history.seat same ∙ (known p before).at)) in
      let counted = counts (cell_word s u.lane) (get_elem? s.homes (u.lane + 1)) (get_elem? new.homes (u.lane + 1))
      (r.cell u.lane) (r'.cell u.lane) r.history.log r'.history.log u u refl refl (r.cells u.lane)
      (subst (λ (n : ℕ). CellIs n (get_elem? new.homes (u.lane + 1)) (r'.cell u.lane)) (words u.lane apart)
      (r'.cells u.lane)) k.fits k'.fits in
      subst (λ (n : ℕ). length (events_of n r.history.log) ≡ length (events_of n r'.history.log)) found.2 counted)
      (was_there h place t.0 t.1)))

  -- a step on the turn leaves all cells' words
  turn_words : h.made.word ≡ 0 → (l : ℕ) → cell_word new l ≡ cell_word s l
  turn_words at l = ap (λ (ws : List ℕ). get_or ws (l + 1) 0) h.words
      ∙ (ap (λ (i : ℕ). get_or (set s.words i h.becomes) (l + 1) 0) at
      ∙ get_or-set_other s.words 0 (l + 1) h.becomes 0 (λ e. omega arith))

  -- one on the token's own cell leaves the others'
  own_words : h.made.word ≡ p.lane + 1 → (l : ℕ) → l ≢ p.lane → cell_word new l ≡ cell_word s l
  own_words at l apart = ap (λ (ws : List ℕ). get_or ws (l + 1) 0) h.words
      ∙ (ap (λ (i : ℕ). get_or (set s.words i h.becomes) (l + 1) 0) at
      ∙ get_or-set_other s.words (p.lane + 1) (l + 1) h.becomes 0 (λ e. apart (omega arith)))

  -- a step on the turn by which the lane gains no call
  turn_stays : h.made.word ≡ 0 → q.mine ≡ p.mine → r.history.log ≡ r'.history.log
  turn_stays at mine =
      let k = known p before in
      let k' = known_after q afterwards in
      let slot : Slot = get_elem? new.homes (p.lane + 1) in
      stays_whole
      (counts (cell_word s p.lane) (get_elem? s.homes (p.lane + 1)) slot (r.cell p.lane) (r'.cell p.lane) r.history.log
      r'.history.log p q lane mine (r.cells p.lane)
      (subst (λ (n : ℕ). CellIs n slot (r'.cell p.lane)) (turn_words at p.lane) (r'.cells p.lane)) k.fits
      (subst (λ (l : ℕ). Fits r'.history.log q (r'.cell l)) lane k'.fits)) (λ l apart. turn_words at l)

  -- a reply is collected
  collect_stays :
      (e : Event) → h.made.word ≡ p.lane + 1 → h.found ≡ Some 3 → q.mine ≡ p.mine ++ e ∷ [] → q.flight ≡ None
      → r.history.log ≡ r'.history.log
  collect_stays e at three mine idle =
      let k = known p before in
      let k' = known_after q afterwards in
      let word : cell_word s p.lane ≡ 3 = ap (λ (i : ℕ). get_or s.words i 0) (sym at) ∙ sym (h.truly 3 three) in
      let had : length (events_of p.lane r.history.log) ≡ length p.mine + 1 =
      count_more (cell_word s p.lane) (get_elem? s.homes (p.lane + 1)) (r.cell p.lane) r.history.log p (r.cells p.lane)
      k.fits word in
      let has : events_of q.lane r'.history.log ≡ q.mine =
      law.idle_mine q r'.history.log (r'.cell q.lane) idle k'.fits in
      let has_own : length (events_of p.lane r'.history.log) ≡ length p.mine + 1 =
      ap (λ (l : ℕ). length (events_of l r'.history.log)) (sym lane)
      ∙ (ap length (has ∙ mine) ∙ length-append p.mine (e ∷ [])) in
      stays_whole (had ∙ sym has_own) (own_words at)

  -- Each kind of step.

  abbrev log : List Event
  log = r.history.log

  abbrev log' : List Event
  log' = r'.history.log

  pub had : Within a s r p
  had = within r before

  pub has : Within a new r' q
  has = within r' afterwards

  its_seen : (l : List Event) → HasSeen l h.w.view.stands → q.seen ≡ l
  its_seen l seen = subst (HasSeen l) is seen

  its_turn : (l : List Event) → history.HasTurn l h.w.view.stands → q.holding ≡ Some l
  its_turn l turn = subst (history.HasTurn l) is turn

  grows : Begins log log'
  grows = step_grows r r' (inl h)

  -- a step by which the token sees nothing more, and holds what it held
  pub keeps_log : q.seen ≡ p.seen → q.holding ≡ p.holding → log' ≡ log ++ []
  keeps_log seen held =
      let back : Begins log' log = no_longer r r' h log (law.prefix_self log)
      (λ l shows. subst (λ (x : List Event). Begins x log) (sym seen ∙ its_seen l shows) had.seen)
      (λ l turn. begins_log l log (had.held l (sym held ∙ its_turn l turn))) in
      law.prefix_both log' log back grows ∙ sym (append-nil log)

  -- one by which it gives the turn back, and has seen this list
  puts_log : (whole : List Event) → Begins log whole → q.seen ≡ whole → q.holding ≡ None → log' ≡ whole
  puts_log whole old seen empty =
      let back : Begins log' whole =
      no_longer r r' h whole old (λ l shows. begins_log l whole (sym (its_seen l shows) ∙ seen))
      (λ l turn. absurd (not_both q empty (l, its_turn l turn))) in
      law.prefix_both log' whole back (subst (λ (x : List Event). Begins x log') seen has.seen)

  -- The turn and the cells.

  word_now : (i : ℕ) → h.made.word ≡ i → get_or new.words i 0 ≡ get_or (set s.words i h.becomes) i 0
  word_now i at = ap (λ (ws : List ℕ). get_or ws i 0) h.words ∙ ap (λ (k : ℕ). get_or (set s.words k h.becomes) i 0) at

  pub word_found : (i n : ℕ) → h.made.word ≡ i → h.found ≡ Some n → get_or s.words i 0 ≡ n
  word_found i n at found = sym (h.truly n found ∙ ap (λ (k : ℕ). get_or s.words k 0) at)

  pub left_by : (n : ℕ) → h.found ≡ Some n → n ≡ h.made.first → h.becomes ≡ h.made.second
  left_by n found first = (subst (λ (f : Option ℕ). IsLeft h.made f h.becomes) found h.left).0 first

  pub left_at_store : h.found ≡ None → h.becomes ≡ h.made.first
  left_at_store found = subst (λ (f : Option ℕ). IsLeft h.made f h.becomes) found h.left

  out_at : (l : List Event) → p.holding ≡ Some l → IsOutAt a s r h.id
  out_at l held = let k = (known p before).holding l held in (k.out, sym k.here)

  out_after : (l : List Event) → q.holding ≡ Some l → IsOutAt a new r' h.id
  out_after l held = let k = (known_after q afterwards).holding l held in (k.out, sym k.here)

  -- who doesn't hold the history hasn't the turn
  not_out : p.holding ≡ None → IsOutAt a s r h.id → ⊥
  not_out empty out =
      let t = r.history.held out.0 in
      let here : get_elem? (views_of s.views) r.history.holder ≡ some h.v.view =
      subst (λ (j : ℕ). get_elem? (views_of s.views) j ≡ some h.v.view) (sym out.1) before.2 in
      let same : t.0 ≡ h.v.view = some-injective t.0 h.v.view (sym t.1 ∙ here) in
      not_both p empty (
        r.history.log,
        subst (history.HasTurn r.history.log) was
            (subst (λ (v : View). history.HasTurn r.history.log v.stands) same t.2),
      )

  pub turn_becomes : (n : ℕ) → h.made.word ≡ 0 → h.becomes ≡ n → turn new ≡ n
  turn_becomes n at is_n = word_now 0 at ∙ (get_or-set_same s.words 0 h.becomes 0 r.any ∙ is_n)

  returns : h.made.word ≡ 0 → h.made.first ≡ 1 → h.made.second ≡ 0 → h.found ≡ Some 1 → turn new ≡ 0
  returns at first second found = turn_becomes 0 at (left_by 1 found (sym first) ∙ second)

  step_of : (e : Event) → log' ≡ log ++ e ∷ [] → Step r.history.last e r'.history.last
  step_of e is_log = last_step a r.history.last r'.history.last log e r.history.legal
      (subst (λ (l : List Event). IsLegal a l r'.history.last) is_log r'.history.legal)

  posted_now : (m : ℕ) (ask : Ask) → h.made.word ≡ p.lane + 1 → h.becomes ≡ 1
      → q.flight ≡ Some (flight m ask p.seen) → r'.cell p.lane ≡ cells.Posted m ask
  posted_now m ask at one_is flies =
      let i : ℕ = p.lane + 1 in
      let slot : Slot = get_elem? new.homes i in
      let k' = known_after q afterwards in
      let fits : Fits log' q (r'.cell p.lane) = subst (λ (l : ℕ). Fits log' q (r'.cell l)) lane k'.fits in
      ⊎_elim (λ (set_is : get_or (set s.words i h.becomes) i 0 ≡ h.becomes).
      let t = posted_of (get_or new.words i 0) slot (r'.cell p.lane) (r'.cells p.lane)
      (word_now i at ∙ (set_is ∙ one_is)) in
      t.2 ∙ posted_flight log' q m t.0 ask t.1 p.seen flies (subst (Fits log' q) t.2 fits))
      (λ (zero_is : get_or (set s.words i h.becomes) i 0 ≡ 0).
      let empty : r'.cell p.lane ≡ cells.Empty =
      empty_of (get_or new.words i 0) slot (r'.cell p.lane) (r'.cells p.lane) (word_now i at ∙ zero_is) in
      let none : q.flight ≡ None = (subst (Fits log' q) empty fits).0 in
      let no : ◌≡◌ {A = Option Flight} None (Some (flight m ask p.seen)) = sym none ∙ flies in
      absurd cc) (set_or s.words i h.becomes)

  posted_found : (l : ℕ) → h.made.word ≡ l + 1 → h.found ≡ Some 1
      → (m : ℕ) × (ask : Ask) × (r.cell l ≡ cells.Posted m ask)
  posted_found l at found =
      let t = posted_of (get_or s.words (l + 1) 0) (get_elem? s.homes (l + 1)) (r.cell l) (r.cells l)
      (word_found (l + 1) 1 at found) in
      (t.0, t.1, t.2)

  served_now : (l m : ℕ) (ask : Ask) (list : List Event) → h.made.word ≡ l + 1 → h.found ≡ Some 1 → h.becomes ≡ 2
      → q.holding ≡ Some list → q.serving ≡ Some (service l m ask) → r'.cell l ≡ cells.Serving m ask
  served_now l m ask list at found two_is held serves =
      let i : ℕ = l + 1 in
      let there : get_or s.words i 0 ≢ 0 =
      λ e. let one_is : get_or s.words i 0 ≡ 1 = word_found i 1 at found in omega arith in
      let t = serving_of (get_or new.words i 0) (get_elem? new.homes i) (r'.cell l) (r'.cells l)
      (word_now i at ∙ (set_in s.words i h.becomes there ∙ two_is)) in
      let k' = (known_after q afterwards).holding list held in
      let is_served = r'.history.serves l t.0 t.1 t.2 in
      t.2 ∙ one_service l m t.0 ask t.1 (sym serves ∙ (k'.same_service ∙ is_served))

  serves_now : (list : List Event) (e : Event) → p.holding ≡ Some list
      → p.serving ≡ Some (service e.lane e.moment e.ask) → r.cell e.lane ≡ cells.Serving e.moment e.ask
  serves_now list e held serves =
      let k = (known p before).holding list held in
      r.history.served (service e.lane e.moment e.ask) (sym k.same_service ∙ serves)

  -- the lane of a call that is served has its seat, which knew of the same calls
  answered_now : (e : Event) → h.made.word ≡ e.lane + 1 → h.becomes ≡ 3 → q.mine ≡ p.mine
      → r.cell e.lane ≡ cells.Serving e.moment e.ask → log' ≡ log ++ e ∷ []
      → r'.cell e.lane ≡ cells.Answered e.moment e.ask e.reply
  answered_now e at three_is mine was_served is_log =
      let l : ℕ = e.lane in
      let i : ℕ = l + 1 in
      let old : CellIs (get_or s.words i 0) (get_elem? s.homes i) (cells.Serving e.moment e.ask) =
      subst (CellIs (get_or s.words i 0) (get_elem? s.homes i)) was_served (r.cells l) in
      let there : get_or s.words i 0 ≢ 0 = λ z. let two_is : get_or s.words i 0 ≡ 2 = old in omega arith in
      let t = answered_of (get_or new.words i 0) (get_elem? new.homes i) (r'.cell l) (r'.cells l)
      (word_now i at ∙ (set_in s.words i h.becomes there ∙ three_is)) in
      let longer : events_of l log' ≡ events_of l log ++ e ∷ [] =
      ap (events_of l) is_log ∙ law.own_event l log e refl in
      let by_seat : (u : Part) → u.lane ≡ l → Fits log' u (r'.cell u.lane) → events_of l log ≡ u.mine
      → r'.cell l ≡ cells.Answered e.moment e.ask e.reply = λ u same fits had_mine.
      let fit : Fits log' u (cells.Answered t.0 t.1 t.2) = subst (Fits log' u) (ap r'.cell same ∙ t.3) fits in
      let events : events_of l log' ≡ u.mine ++ event_of u.lane t.0 t.1 t.2 ∷ [] =
      ap (λ (z : ℕ). events_of z log') (sym same) ∙ fit.2 in
      let one_event : event_of u.lane t.0 t.1 t.2 ≡ e = last_same u.mine (event_of u.lane t.0 t.1 t.2) e
      (sym events ∙ (longer ∙ ap (λ (z : List Event). z ++ e ∷ []) had_mine)) in
      t.3 ∙ event_cell u.lane t.0 t.1 t.2 e one_event in
      dite (dec_le r'.history.dealt l) (λ le. let none : r'.cell l ≡ cells.Empty = (r'.history.undealt l le).0 in
      let no : cells.Empty ≡ cells.Answered t.0 t.1 t.2 = sym none ∙ t.3 in
      absurd cc) (λ nle.
      let v = r'.history.seated l (lt_of_not-le nle) in
      let place : ℕ = r'.history.seat l in
      let found = law.sits_of l v.0.stands v.2 in
      let u : Part = found.0 in
      let k' = known_after u (place, v.0, v.1, found.1) in
      ⊎_elim (λ (i : (place ≡ h.id) × (h.w.view ≡ v.0)).
      let same : q ≡ u = subst (Sits u) (ap (λ (x : View). x.stands) (sym i.1) ∙ is) found.1 in
      let own_lane : p.lane ≡ l = sym lane ∙ (ap (λ (z : Part). z.lane) same ∙ found.2) in
      let fits : Fits log p (cells.Serving e.moment e.ask) =
      subst (Fits log p) (ap r.cell own_lane ∙ was_served) (known p before).fits in
      by_seat u found.2 k'.fits
      (ap (λ (z : ℕ). events_of z log) (sym own_lane) ∙ (fits.2 ∙ (sym mine ∙ ap (λ (z : Part). z.mine) same))))
      (λ (i : (place ≢ h.id) × (get_elem? (views_of s.views) place ≡ some v.0)).
      let k = known u (place, v.0, i.1, found.1) in
      let fits : Fits log u (cells.Serving e.moment e.ask) =
      subst (Fits log u) (ap r.cell found.2 ∙ was_served) k.fits in
      by_seat u found.2 k'.fits (ap (λ (z : ℕ). events_of z log) (sym found.2) ∙ fits.2)) (was_there h place v.0 v.1))

  collected_cell : (e : Event) → h.made.word ≡ p.lane + 1 → h.found ≡ Some 3 → q.mine ≡ p.mine ++ e ∷ []
      → q.flight ≡ None → log ≡ log'
      → (r.cell p.lane ≡ cells.Answered e.moment e.ask e.reply) × (r'.cell p.lane ≡ cells.Empty)
  collected_cell e at found mine idle same_log =
      let i : ℕ = p.lane + 1 in
      let k = known p before in
      let k' = known_after q afterwards in
      let t = answered_of (get_or s.words i 0) (get_elem? s.homes i) (r.cell p.lane) (r.cells p.lane)
      (word_found i 3 at found) in
      let fit : Fits log p (cells.Answered t.0 t.1 t.2) = subst (Fits log p) t.3 k.fits in
      let afterwards_are : events_of p.lane log ≡ p.mine ++ e ∷ [] = ap (λ (z : ℕ). events_of z log) (sym lane)
      ∙ (ap (events_of q.lane) same_log ∙ (law.idle_mine q log' (r'.cell q.lane) idle k'.fits ∙ mine)) in
      let one_event : event_of p.lane t.0 t.1 t.2 ≡ e =
      last_same p.mine (event_of p.lane t.0 t.1 t.2) e (sym fit.2 ∙ afterwards_are) in (
        t.3 ∙ event_cell p.lane t.0 t.1 t.2 e one_event,
        ap r'.cell (sym lane) ∙ law.empty_if_idle q log' (r'.cell q.lane) idle k'.fits,
      )

-- each step leaves its lane
pub lane_after : (p : Part) (m : Move) → (after p m).lane ≡ p.lane
lane_after p move.stays = refl
lane_after p (move.takes _) = refl
lane_after p move.misses = refl
lane_after p (move.puts_own _ _) = refl
lane_after p (move.puts_none _) = refl
lane_after p (move.serves_own _ _) = refl
lane_after p (move.loads _) = refl
lane_after p (move.posts moment ask) = refl
lane_after p (move.finds other) = refl
lane_after p (move.grabs other moment ask) = refl
lane_after p (move.answers _ _) = refl
lane_after p (move.collects _ _) = refl
lane_after p (move.looks other finished) = refl

-- such a step, of this kind
abbrev pub one_step :
    {a : State} {s new : Board} {p : Part} (m : Move) (r : InOneOrder a s) (r' : InOneOrder a new) (h : IsStepped s new)
    → h.v.view.stands ≡ One p → h.w.view.stands ≡ One (after p m) → OneStep a s new p (after p m)
one_step {p = p} m r r' h was is = record {
  r = r;
  r' = r';
  h = h;
  was = was;
  is = is;
  lane = lane_after p m;
}

pub named : {a : State} {s new : Board} {p : Part} (m : Move) (x : OneStep a s new p (after p m))
    → IsMadeAt x.h.made x.h.found p m → IsNamed a s new x.r x.r' x.h.id p m × BringsOf m x.r.history.log
    × (x.r'.history.log ≡ x.r.history.log ++ added m)
named {s = s} {p = p} move.stays x made = (
  unanswered (get_or s.words (p.lane + 1) 0) (get_elem? s.homes (p.lane + 1)) (x.r.cell p.lane)
      (λ three. made.1.2 (sym (word_found x (p.lane + 1) made.1.0 made.0 made.1.1) ∙ three)) (x.r.cells p.lane),
  tt,
  keeps_log x refl refl,
)
named (move.takes l) x made =
    let same = turn_stays x made.0.0 refl in (
      (word_found x 0 0 made.0.0 made.1, out_after x l refl),
      (has x).held l refl ∙ sym same,
      sym same ∙ sym (append-nil x.r.history.log),
    )
named move.misses x made = (
  ((λ free. made.1.2 (sym (word_found x 0 made.1.0 made.0.0 made.1.1) ∙ free)), λ out. not_out x made.2 out),
  tt,
  keeps_log x refl refl,
)
named (move.puts_own l e) x made =
    let whole = (had x).held l made.2 in
    let longer =
    puts_log x (x.r.history.log ++ e ∷ []) (e ∷ [], refl) (ap (λ (z : List Event). z ++ e ∷ []) whole) refl in (
      (out_at x l made.2, returns x made.0.0 made.0.1 made.0.2 made.1, step_of x e longer),
      whole,
      longer,
    )
named (move.puts_none l) x made =
    let whole = (had x).held l made.2 in (
      (out_at x l made.2, returns x made.0.0 made.0.1 made.0.2 made.1),
      whole,
      puts_log x x.r.history.log (law.prefix_self x.r.history.log) whole refl ∙ sym (append-nil x.r.history.log),
    )
named (move.serves_own l e) x made =
    let whole = (had x).held l made.1 in
    let longer = sym ((has x).held (l ++ e ∷ []) refl) ∙ ap (λ (z : List Event). z ++ e ∷ []) whole in
    ((out_at x l made.1, out_after x (l ++ e ∷ []) refl, step_of x e longer), whole, longer)
named (move.loads l) x made =
    let same = turn_stays x made.0.0 refl in
    (tt, subst (Begins l) (sym same) (has x).seen, sym same ∙ sym (append-nil x.r.history.log))
named {p = p} (move.posts moment ask) x made = (
  (
    law.empty_if_idle p x.r.history.log (x.r.cell p.lane) made.3 (known x p (before x)).fits,
    posted_now x moment ask made.0 (left_at_store x made.1 ∙ made.2) refl,
  ),
  tt,
  keeps_log x refl refl,
)
named (move.finds other) x made = (
  (out_at x made.2.0 made.2.1, posted_found x other made.0 made.1),
  tt,
  keeps_log x refl refl,
)
named (move.grabs other moment ask) x made = (
  (
    out_at x made.2.0 made.2.1,
    posted_found x other made.0 made.1,
    served_now x other moment ask made.2.0 made.0 made.1 (left_by x 1 made.1 (sym made.3) ∙ made.4) made.2.1 refl,
  ),
  tt,
  keeps_log x refl refl,
)
named (move.answers l e) x made =
    let whole = (had x).held l made.2 in
    let longer = sym ((has x).held (l ++ e ∷ []) refl) ∙ ap (λ (z : List Event). z ++ e ∷ []) whole in
    let served = serves_now x l e made.2 made.3 in (
      (
        out_at x l made.2,
        served,
        answered_now x e made.0 (left_at_store x made.1 ∙ made.4) refl served longer,
        step_of x e longer,
      ),
      whole,
      longer,
    )
named (move.collects l e) x made =
    let same = collect_stays x e made.0 made.1 refl refl in (
      collected_cell x e made.0 made.1 refl refl same,
      subst (Begins l) (sym same) (has x).seen,
      sym same ∙ sym (append-nil x.r.history.log),
    )
named {s = s} (move.looks other finished) x made = (
  (
    out_at x made.2.0 made.2.1,
    unposted (get_or s.words (other + 1) 0) (get_elem? s.homes (other + 1)) (x.r.cell other)
        (λ one_is. made.1.2 (sym (word_found x (other + 1) made.1.0 made.0 made.1.1) ∙ one_is)) (x.r.cells other),
  ),
  tt,
  keeps_log x refl refl,
)

pub steps_as_named : (a : State) → StepsAsNamed a
steps_as_named a s new p m r r' h was made is = named m (one_step m r r' h was is) made
