-- Each step with the daemon's replies keeps what is said of a run, and so a whole run does.
use Rattle.std.proofs.Common.{[], ◌%◌, ◌++◌, ◌+◌, ◌-◌, ◌<◌, ◌∙◌, ◌∷◌, ◌≡◌, ◌≤◌, ap, arith, Bool, drop, false, get_or}
use Rattle.std.proofs.Common.{inl, inr, length, length-append, length-take-le, List, map, min, nat_lt, refl, sym, take}
use Rattle.std.proofs.{Common.{true, ℕ}, lemmas.Bool.{cond_both, Decides.nat_tests, false_from_ne_true}}
use Rattle.std.proofs.lemmas.List.{drop_more, length-map, map-append, take_more}
use Rattle.krs_screen.specs.Counting.{answered_more, is_refused, most, next, one_forgotten, waiting}
use Rattle.krs_screen.specs.{declared.{claim.Peer.Peer, counting.Screen.Screen}, Front.le32, Run.AreFrames}
use Rattle.krs_screen.specs.Run.{asks_are_judged, client_sends, daemon_sends, EachRunIsFaithful, Event, gets_eperm}
use Rattle.krs_screen.specs.Run.{gone, happens, Heard, Line, more, replies_are_judged, replies_gone, run, start, Told}
use Rattle.krs_screen.specs.{Run.told_as, Step.{Done, head_step, is_bad_reply, reply_step, with_eperm}}
use Rattle.krs_screen.proofs.{Faithful.{asks_kept, le32_taken}, Growing.{drop_with, take_with, with_more}}
use Rattle.krs_screen.proofs.{Numbering.{first_is, next_is}, Queueing.taken, Running.{all_before, all_last, all_push}}
use Rattle.krs_screen.proofs.Running.{ask_bytes, ask_passed, ends, first_behind, IsReached, IsSo, length_push, marks_of}
use Rattle.krs_screen.proofs.Running.{numbers, reply_bytes, reply_passed, so_still, way_grown, way_idle, way_more}
use Rattle.krs_screen.proofs.Running.{way_pushed}
use Rattle.std.proofs.lemmas.Grind.{common_steps}

-- ---- the rest of the reply at hand
longer : Told → List ℕ → Told
longer reply ys = record { bytes = reply.bytes ++ ys; is_rewritten = reply.is_rewritten }

told_more : (b : Bool) (bytes ys : List ℕ) → 8 ≤ length bytes → told_as b (bytes ++ ys) ≡ told_as b bytes ++ ys
unfolding with_eperm
told_more true bytes ys h = with_more bytes ys 4 1 h
told_more false bytes ys h = refl

last_goes_on : (peer : Peer) (groups : List ℕ) (line : Line) (asks : List Heard) (before : List Told) (reply : Told)
    (n later : ℕ)
    → line.screen.reply_left ≡ n + later → n ≤ length line.replies.waits
    → IsSo peer groups line asks (before ++ reply ∷ [])
    → IsSo peer groups (replies_gone line (n, (line.replies.waits, record line.screen { reply_left = later })))
    asks (before ++ longer reply (take n line.replies.waits) ∷ [])
unfolding longer
last_goes_on peer groups line asks before reply n later parts there i =
    let ys : List ℕ = take n line.replies.waits in
    let reply' : Told = longer reply ys in
    let head : 8 ≤ length reply.bytes = all_last (λ (r : Told). 8 ≤ length r.bytes) before reply i.long in
    let count : length (before ++ reply' ∷ []) ≡ length (before ++ reply ∷ []) = length_push before reply'
    ∙ sym (length_push before reply) in
    let same : map (λ r. r.is_rewritten) (before ++ reply' ∷ []) ≡ map (λ r. r.is_rewritten) (before ++ reply ∷ []) =
    map-append (λ (r : Told). r.is_rewritten) before (reply' ∷ [])
    ∙ sym (map-append (λ (r : Told). r.is_rewritten) before (reply ∷ [])) in record {
      asked-way = i.asked-way;
      told-way = way_grown reply_bytes reply_passed line.replies n line.screen.reply_left later before reply reply'
          i.told-way refl (told_more reply.is_rewritten reply.bytes ys head) parts there (omega (arith, head));
      right = i.right;
      marked = rw (same, count) i.marked;
      asked = i.asked;
      answered = i.answered ∙ sym count;
      fewer = omega (arith, i.fewer, count);
      queue = rw count i.queue;
      room = i.room;
      long = all_push (λ (r : Told). 8 ≤ length r.bytes) before reply'
          (all_before (λ (r : Told). 8 ≤ length r.bytes) before reply i.long)
          (omega (arith, head, length-append reply.bytes ys));
    }

-- ---- whose turn it is
-- a reply was rewritten if its ask is the next that gets EPERM
record IsTurn (marks : List Bool) (k : ℕ) (b : Bool) (s : Screen) : Type 0 where
  mark : take (k + 1) marks ≡ take k marks ++ b ∷ []
  queue : waiting s ≡ numbers (k + 1) (drop (k + 1) marks)

-- the mark of the next ask says whether its reply gets EPERM
mark_is : (s : Screen) (k : ℕ) (m : Bool) (marks : List Bool) → next s.answered ≡ k + 1
    → waiting s ≡ numbers k (m ∷ marks)
    → is_refused s ≡ m
mark_is s k true marks one q = first_is s.refused s.first s.count (next s.answered) (numbers (k + 1) marks) (rw one q)
mark_is s k false marks one q = grind (arith, common_steps, false_from_ne_true, first_behind, taken)

module _ (s : Screen) (k : ℕ) (marks : List Bool) (one : next s.answered ≡ k + 1) (less : k < length marks)
    (q : waiting s ≡ numbers k (drop k marks)) where
  cut : (b : Bool) → is_refused s ≡ b → (get_or marks k false ≡ b) × (waiting s ≡ numbers k (b ∷ drop (k + 1) marks))
  cut b e =
      let all : waiting s ≡ numbers k (get_or marks k false ∷ drop (k + 1) marks) =
      q ∙ ap (λ (ms : List Bool). numbers k ms) (drop_more marks k false less) in
      let m : get_or marks k false ≡ b = sym (mark_is s k (get_or marks k false) (drop (k + 1) marks) one all) ∙ e in
      (m, rw m at all)

  refused_turn : is_refused s ≡ true → IsTurn marks k true (one_forgotten s)
  refused_turn e =
      let c = cut true e in
      let both : next s.answered ∷ waiting (one_forgotten s) ≡ (k + 1) ∷ numbers (k + 1) (drop (k + 1) marks) =
      sym (taken s e) ∙ c.1 in
      record { mark = take_more marks k false less ∙ rw c.0; queue = cc both }

  other_turn : is_refused s ≡ false → IsTurn marks k false s
  other_turn e = let c = cut false e in record { mark = take_more marks k false less ∙ rw c.0; queue = c.1 }

-- ---- a step with the replies keeps what is said
abbrev Keeps : Peer → (groups : List ℕ) → Line → List Heard → Done → Type 0
Keeps peer groups line asks done = IsReached peer groups (length asks) (replies_gone line done)

record IsGood (s : Screen) (n : ℕ) : Type 0 where
  least : 4 ≤ n
  awaited : s.answered ≡ s.asked → ⊥

good : (s : Screen) (n status : ℕ) → is_bad_reply s n status ≡ false → IsGood s n
unfolding is_bad_reply
good s n status e = record { least = grind (arith, nat_tests); awaited = λ same. grind (arith, nat_tests) }

take_eperm : (bytes : List ℕ) → 8 ≤ length bytes → with_eperm (take 8 bytes) ≡ take 8 (with_eperm bytes)
unfolding with_eperm
take_eperm bytes there = sym (take_with bytes 4 1 8 (omega arith) there)

drop_eperm : (bytes : List ℕ) → 8 ≤ length bytes → drop 8 (with_eperm bytes) ≡ drop 8 bytes
unfolding with_eperm
drop_eperm bytes there = drop_with bytes 4 1 8 (omega arith) there

module _ (peer : Peer) (groups : List ℕ) (line : Line) (asks : List Heard) (replies : List Told)
    (below : line.screen.asked < most) (i : IsSo peer groups line asks replies) where
  nothing : (g a r : Bool) → Keeps peer groups line asks
      (0, (line.replies.waits, record line.screen { greeted = g; ask_fault = a; reply_fault = r }))
  nothing g a r = record {
    asks = asks;
    replies = replies;
    so = so_still peer groups line asks replies g a r line.asks (gone line.replies 0 line.replies.waits) i i.asked-way
        (way_idle reply_bytes reply_passed line.replies line.screen.reply_left replies i.told-way);
    few = omega arith;
  }

  -- a reply is passed on, or its beginning
  head_on : (b : Bool) (first count : ℕ) (bytes : List ℕ) → line.screen.reply_left ≡ 0 → 8 ≤ length line.replies.waits
      → IsGood line.screen (le32 line.replies.waits 0) → told_as b (take 8 line.replies.waits) ≡ take 8 bytes
      → drop 8 bytes ≡ drop 8 line.replies.waits
      → IsTurn (marks_of asks) (length replies) b (record line.screen { first = first; count = count })
      → Keeps peer groups line asks (
        8,
        (
          bytes,
          answered_more (record line.screen { first = first; count = count }) (le32 line.replies.waits 0 - 4),
        ),
      )
  head_on b first count bytes none there g goes rest turn =
      let waits : List ℕ = line.replies.waits in
      let reply : Told = record { bytes = take 8 waits; is_rewritten = b } in
      let size : length (take 8 waits) ≡ 8 = length-take-le 8 waits there in
      let says : le32 (take 8 waits) 0 ≡ le32 waits 0 = le32_taken waits 8 (omega arith) there in
      let one : length (replies ++ reply ∷ []) ≡ length replies + 1 = length_push replies reply in
      let next-one : next line.screen.answered ≡ line.screen.answered + 1 =
      next_is line.screen.answered (omega (arith, i.asked, i.answered, i.fewer, below)) in
      record {
        asks = asks;
        replies = replies ++ reply ∷ [];
        so = record {
          asked-way = i.asked-way;
          told-way = way_pushed reply_bytes reply_passed line.replies 8 (le32 waits 0 - 4) bytes replies reply
              (rw none at i.told-way) refl goes rest (omega (arith, size, says, g.least));
          right = i.right;
          marked = rw (map-append (λ (r : Told). r.is_rewritten) replies (reply ∷ []), i.marked, one, turn.mark);
          asked = i.asked;
          answered = omega (arith, next-one, i.answered, one);
          fewer = omega (arith, one, g.awaited, i.asked, i.answered, i.fewer);
          queue = rw one turn.queue;
          room = i.room;
          long = all_push (λ (r : Told). 8 ≤ length r.bytes) replies reply i.long (omega (arith, size));
        };
        few = omega arith;
      }

  head_kept : line.screen.reply_left ≡ 0 → 8 ≤ length line.replies.waits
      → Keeps peer groups line asks (head_step line.screen line.replies.waits)
  unfolding head_step
  head_kept none there =
      let s : Screen = line.screen in
      let waits : List ℕ = line.replies.waits in
      let keeps : Done → Type 0 = Keeps peer groups line asks in
      cond_both (is_bad_reply s (le32 waits 0) (le32 waits 4)) _ _ keeps (λ e. nothing s.greeted s.ask_fault true) (λ e.
      let g = good s (le32 waits 0) (le32 waits 4) e in
      let less : length replies < length (marks_of asks) = omega
      (arith, g.awaited, i.asked, i.answered, i.fewer, length-map asks (λ (a : Heard). gets_eperm a.verdict)) in
      let small : s.answered < most = omega (arith, i.asked, i.answered, i.fewer, below) in
      let one : next s.answered ≡ length replies + 1 = omega (arith, next_is s.answered small, i.answered) in
      cond_both (is_refused s) _ _ keeps
      (λ e1. head_on true ((s.first % 64 + 1) % 64) (s.count - 1) (with_eperm waits) none there g
      (take_eperm waits there) (drop_eperm waits there)
      (refused_turn s (length replies) (marks_of asks) one less i.queue e1))
      (λ e1. head_on false s.first s.count waits none there g refl refl
      (other_turn s (length replies) (marks_of asks) one less i.queue e1)))

  go_on : (n later : ℕ) → line.screen.reply_left ≡ n + later → n ≤ length line.replies.waits
      → 0 < line.screen.reply_left
      → Keeps peer groups line asks (n, (line.replies.waits, record line.screen { reply_left = later }))
  go_on n later parts less some =
      elim (ends replies) [
        | inl none ↦
            let e : AreFrames [] line.screen.reply_left = rw none at i.told-way.frames in
            absurd (omega (arith, e, some))
        | inr last ↦
            let i' : IsSo peer groups line asks (last.0 ++ last.1 ∷ []) = rw last.2 at i in
            record {
              asks = asks;
              replies = last.0 ++ longer last.1 (take n line.replies.waits) ∷ [];
              so = last_goes_on peer groups line asks last.0 last.1 n later parts less i';
              few = omega arith;
            }
      ]

  replies_kept : Keeps peer groups line asks (reply_step line.screen line.replies.waits)
  unfolding reply_step
  replies_kept =
      let keeps : Done → Type 0 = Keeps peer groups line asks in
      let idle : Keeps peer groups line asks (0, (line.replies.waits, line.screen)) =
      nothing line.screen.greeted line.screen.ask_fault line.screen.reply_fault in
      cond_both line.screen.reply_fault _ _ keeps (λ e. idle) (λ e.
      cond_both (nat_lt 0 line.screen.reply_left) _ _ keeps (λ e1.
      let n : ℕ = min line.screen.reply_left (length line.replies.waits) in
      let some : 0 < line.screen.reply_left = grind arith in
      go_on n (line.screen.reply_left - n) (omega arith) (omega arith) some) (λ e1.
      cond_both (nat_lt (length line.replies.waits) 8) _ _ keeps (λ e2. idle) (λ e2.
      let none : line.screen.reply_left ≡ 0 = grind arith in
      let there : 8 ≤ length line.replies.waits = grind arith in
      head_kept none there)))

-- ---- a whole run
reached : (peer : Peer) (groups : List ℕ) (events : List Event) (line : Line) (asks : List Heard) (replies : List Told)
    → line.screen.asked + length events < most → IsSo peer groups line asks replies
    → IsReached peer groups most (run peer groups events line)
reached peer groups [] line asks replies h i = grind (arith, common_steps)
reached peer groups (client_sends piece ∷ events) line asks replies h i =
    let s = line.screen in
    reached peer groups events (happens peer groups line (client_sends piece)) asks replies (omega (arith, h))
    (so_still peer groups line asks replies s.greeted s.ask_fault s.reply_fault (more line.asks piece) line.replies i
    (way_more ask_bytes ask_passed line.asks s.ask_left asks piece i.asked-way) i.told-way)
reached peer groups (daemon_sends piece ∷ events) line asks replies h i =
    let s = line.screen in
    reached peer groups events (happens peer groups line (daemon_sends piece)) asks replies (omega (arith, h))
    (so_still peer groups line asks replies s.greeted s.ask_fault s.reply_fault line.asks (more line.replies piece) i
    i.asked-way (way_more reply_bytes reply_passed line.replies s.reply_left replies piece i.told-way))
reached peer groups (asks_are_judged is_named ∷ events) line asks replies h i =
    let below : line.screen.asked < most = omega (arith, h) in
    let k = asks_kept peer groups is_named line asks replies below i in
    reached peer groups events (happens peer groups line (asks_are_judged is_named)) k.asks k.replies
    (omega (arith, h, k.so.asked, i.asked, k.few)) k.so
reached peer groups (replies_are_judged ∷ events) line asks replies h i =
    let below : line.screen.asked < most = omega (arith, h) in
    let k = replies_kept peer groups line asks replies below i in
    reached peer groups events (happens peer groups line replies_are_judged) k.asks k.replies
    (omega (arith, h, k.so.asked, i.asked, k.few)) k.so

started : (peer : Peer) (groups : List ℕ) → IsSo peer groups start [] []
started peer groups = grind (arith, common_steps)

pub faithful : EachRunIsFaithful
faithful peer groups events h =
    let h' : start.screen.asked + length events < most = omega (arith, h) in
    let r = reached peer groups events start [] [] h' (started peer groups) in
    grind (arith, common_steps)
