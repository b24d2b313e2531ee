-- Each step keeps what is said of a run, and so a whole run does.
use Rattle.std.proofs.Common.{[], ◌*◌, ◌++◌, ◌+◌, ◌-◌, ◌<◌, ◌∙◌, ◌∷◌, ◌≡◌, ◌≤◌, ap, append-nil, arith, Bool, drop}
use Rattle.std.proofs.Common.{false, length, length-drop, length-set, length-take-le, List, min, nat_lt, refl, sym}
use Rattle.std.proofs.{Common.{take, take-append-drop, true, ℕ}, lemmas.Bool.{cond_both, or_from, or_left, or_right}}
use Rattle.std.proofs.lemmas.List.{drop-append-le, length-map, map-append, take-append-le}
use Rattle.krs_screen.specs.{Claim.{is_void, may_name, voided}, Counting.{asked_more, most, next, refused_next}}
use Rattle.krs_screen.specs.{Counting.waiting, declared.{claim.Peer.Peer, counting.Screen.Screen, front.Front.Front}}
use Rattle.krs_screen.specs.{declared.front.Front.TheVariants.{Crowd, Fault, Hello, Other, Part}, Front.front_of}
use Rattle.krs_screen.specs.{Front.le32, Reading.passed_of, Run.{asks_gone, crowded, gets_eperm, gone, Heard, IsRight}}
use Rattle.krs_screen.specs.Run.{IsRightOf, kept, Line, may_pass, named, passed_as, refused, Told, Verdict}
use Rattle.krs_screen.specs.Step.{ask_step, Done, front_step, hello_step}
use Rattle.krs_screen.proofs.{Following.twelve, Growing.{drop_with, fits, front_taken, IsSeated, le32_more}}
use Rattle.krs_screen.proofs.{Growing.{may_pass_more, seated, take_with}, Numbering.next_is, Queueing.appended}
use Rattle.krs_screen.proofs.Running.{all_push, ask_bytes, ask_passed, asks_go_on, if_marked, IsReached, IsSo}
use Rattle.krs_screen.proofs.Running.{length_push, marks_of, numbers_pushed, so_still, way_idle, way_pushed}

pub le32_taken : (bytes : List ℕ) (m : ℕ) → 4 ≤ m → m ≤ length bytes → le32 (take m bytes) 0 ≡ le32 bytes 0
le32_taken bytes m h there =
    let l : length (take m bytes) ≡ m = length-take-le m bytes there in
    sym (le32_more (take m bytes) (drop m bytes) 0 (omega (arith, h, l)))
    ∙ ap (λ (zs : List ℕ). le32 zs 0) (take-append-drop m bytes)

may_pass_taken : (peer : Peer) (groups bytes : List ℕ) (at count m : ℕ) → m ≡ at + 12 + 4 * count → m ≤ length bytes
    → may_pass peer groups (take m bytes) at count ≡ may_pass peer groups bytes at count
may_pass_taken peer groups bytes at count m is there =
    let l : length (take m bytes) ≡ m = length-take-le m bytes there in
    sym (may_pass_more peer groups (take m bytes) (drop m bytes) at count (omega (arith, is, l)))
    ∙ ap (λ (zs : List ℕ). may_pass peer groups zs at count) (take-append-drop m bytes)

take_voided : (bytes : List ℕ) (at m : ℕ) → at + 4 ≤ m → m ≤ length bytes
    → voided (take m bytes) at ≡ take m (voided bytes at)
unfolding voided
take_voided bytes at m h there = sym (take_with bytes at 4294967295 m h there)

drop_voided : (bytes : List ℕ) (at m : ℕ) → at + 4 ≤ m → m ≤ length bytes → drop m (voided bytes at) ≡ drop m bytes
unfolding voided
drop_voided bytes at m h there = drop_with bytes at 4294967295 m h there

-- ---- a step with the asks keeps what is said
abbrev Keeps : Peer → (groups : List ℕ) → Line → List Heard → Done → Type 0
Keeps peer groups line asks done = IsReached peer groups (length asks + 1) (asks_gone line done)

-- an ask more is counted, and remembered if it gets EPERM
record IsNext (old new : Screen) (gets : Bool) : Type 0 where
  asked : new.asked ≡ old.asked + 1
  answered : new.answered ≡ old.answered
  reply_left : new.reply_left ≡ old.reply_left
  room : length new.refused ≡ 64
  queue : waiting new ≡ waiting old ++ if_marked gets (old.asked + 1)

module _ (peer : Peer) (groups : List ℕ) (is_named : Bool) (line : Line) (asks : List Heard) (replies : List Told)
    (below : line.screen.asked < most) (i : IsSo peer groups line asks replies) where
  nothing : (g a r : Bool) → Keeps peer groups line asks
      (0, (line.asks.waits, record line.screen { greeted = g; ask_fault = a; reply_fault = r }))
  nothing g a r = record {
    asks = asks;
    replies = replies;
    so = so_still peer groups line asks replies g a r (gone line.asks 0 line.asks.waits) line.replies i
        (way_idle ask_bytes ask_passed line.asks line.screen.ask_left asks i.asked-way) i.told-way;
    few = omega arith;
  }

  plain : (g : Bool) (left : ℕ) → IsNext line.screen (asked_more (record line.screen { greeted = g }) left) false
  plain g left = record {
    asked = next_is line.screen.asked below;
    answered = refl;
    reply_left = refl;
    room = i.room;
    queue = sym (append-nil (waiting line.screen));
  }

  -- an ask is passed on, or its beginning, by the verdict that it calls for
  passed_on : (front : Front) (verdict : Verdict) (bytes : List ℕ) (s : Screen) → front_of line.asks.waits ≡ front
      → 0 < passed_of front → line.screen.ask_left ≡ 0
      → passed_as verdict (take (passed_of front) line.asks.waits) ≡ take (passed_of front) bytes
      → drop (passed_of front) bytes ≡ drop (passed_of front) line.asks.waits
      → IsRight peer (named is_named groups) (take (passed_of front) line.asks.waits) front verdict
      → passed_of front + s.ask_left ≡ 4 + le32 line.asks.waits 0 → IsNext line.screen s (gets_eperm verdict)
      → Keeps peer groups line asks (passed_of front, (bytes, s))
  passed_on front verdict bytes s is some none goes rest right whole next =
      let m : ℕ = passed_of front in
      let waits : List ℕ = line.asks.waits in
      let there : m ≤ length waits = fits waits front (rw is at (seated waits)) in
      let least : 12 ≤ m = twelve m front (record { some = some; within = omega arith }) in
      let size : length (take m waits) ≡ m = length-take-le m waits there in
      let says : le32 (take m waits) 0 ≡ le32 waits 0 = le32_taken waits m (omega (arith, least)) there in
      let same : front_of (take m waits) ≡ front = front_taken waits m (ap passed_of is) some there ∙ is in
      let ask : Heard = record { bytes = take m waits; is_named = is_named; verdict = verdict } in
      let right-of : IsRightOf peer groups ask = rw same right in
      let k : ℕ = length replies in
      let marks : List Bool = marks_of asks in
      let gets : Bool = gets_eperm verdict in
      let pushed : marks_of (asks ++ ask ∷ []) ≡ marks ++ gets ∷ [] =
      map-append (λ (a : Heard). gets_eperm a.verdict) asks (ask ∷ []) in
      let count : length marks ≡ length asks = length-map asks (λ (a : Heard). gets_eperm a.verdict) in
      let few : k ≤ length marks = omega (arith, count, i.fewer) in
      let last : line.screen.asked + 1 ≡ k + length (drop k marks) + 1 =
      omega (arith, i.asked, count, few, length-drop k marks) in
      let one : length (asks ++ ask ∷ []) ≡ length asks + 1 = length_push asks ask in
      record {
        asks = asks ++ ask ∷ [];
        replies = replies;
        so = record {
          asked-way = way_pushed ask_bytes ask_passed line.asks m s.ask_left bytes asks ask (rw none at i.asked-way)
              refl goes rest (omega (arith, size, says, whole));
          told-way = rw next.reply_left i.told-way;
          right = all_push (IsRightOf peer groups) asks ask i.right right-of;
          marked = i.marked ∙ rw (pushed, take-append-le k marks (gets ∷ []) few);
          asked = omega (arith, next.asked, i.asked, one);
          answered = next.answered ∙ i.answered;
          fewer = omega (arith, i.fewer, one);
          queue = next.queue ∙ rw (i.queue, pushed, drop-append-le k marks (gets ∷ []) few)
              (sym (numbers_pushed k (drop k marks) gets (line.screen.asked + 1) last));
          room = next.room;
          long = i.long;
        };
        few = omega (arith, one);
      }

  as_hello : (at count : ℕ) → front_of line.asks.waits ≡ Hello at count → line.screen.ask_left ≡ 0
      → Keeps peer groups line asks (hello_step peer (named is_named groups) line.screen line.asks.waits at count)
  unfolding hello_step
  as_hello at count is none =
      let m : ℕ = at + 12 + 4 * count in
      let own : List ℕ = named is_named groups in
      let waits : List ℕ = line.asks.waits in
      let s : IsSeated waits (Hello at count) = rw is at (seated waits) in
      let there : m ≤ length waits = s.sits.1 in
      let whole : m + 0 ≡ 4 + le32 waits 0 = omega (arith, s.sits.2) in
      let may : may_pass peer own (take m waits) at count ≡ may_pass peer own waits at count =
      may_pass_taken peer own waits at count m refl there in
      let keeps : Done → Type 0 = Keeps peer groups line asks in
      let its : (g : Bool) → may_pass peer own waits at count ≡ true
      → Keeps peer groups line asks (m, (waits, asked_more (record line.screen { greeted = g }) 0)) =
      λ g e. passed_on (Hello at count) kept waits _ is (omega arith) none refl refl (may ∙ e) whole (plain g 0) in
      cond_both (is_void waits at count) _ _ keeps (λ e. its line.screen.greeted (or_left _ _ e)) (λ e.
      cond_both (may_name peer own waits at count) _ _ keeps
      (λ e1. its true (or_right (is_void waits at count) (may_name peer own waits at count) e1)) (λ e1.
      cond_both (nat_lt line.screen.count 64) _ _ keeps (λ e2.
      let one : next line.screen.asked ≡ line.screen.asked + 1 = next_is line.screen.asked below in
      let few : line.screen.count < 64 = grind arith in
      passed_on (Hello at count) (refused at) (voided waits at) (asked_more (refused_next line.screen) 0) is (omega
      arith) none (take_voided waits at m (omega arith) there) (drop_voided waits at m (omega arith) there)
      (refl, may ∙ or_from (is_void waits at count) (may_name peer own waits at count) e e1) whole
      (record {
        asked = one;
        answered = refl;
        reply_left = refl;
        room = length-set line.screen.refused _ _ ∙ i.room;
        queue = appended line.screen i.room few ∙ ap (λ (k : ℕ). waiting line.screen ++ k ∷ []) one;
      }))
      (λ e2. nothing line.screen.greeted true line.screen.reply_fault)))

  by_front : (front : Front) → front_of line.asks.waits ≡ front → line.screen.ask_left ≡ 0
      → Keeps peer groups line asks (front_step peer (named is_named groups) line.screen line.asks.waits front)
  by_front Part is none = nothing line.screen.greeted line.screen.ask_fault line.screen.reply_fault
  by_front Fault is none = nothing line.screen.greeted true line.screen.reply_fault
  by_front (Other frame) is none =
      let s : IsSeated line.asks.waits (Other frame) = rw is at (seated line.asks.waits) in
      passed_on (Other frame) kept line.asks.waits _ is (omega arith) none refl refl tt (omega
      (arith, s.sits.1, s.sits.2)) (plain line.screen.greeted (frame - 12))
  by_front (Crowd frame at) is none =
      let waits : List ℕ = line.asks.waits in
      let s : IsSeated waits (Crowd frame at) = rw is at (seated waits) in
      passed_on (Crowd frame at) (crowded at) (voided waits at) _ is (omega arith) none
      (take_voided waits at (at + 12) (omega arith) s.sits.1) (drop_voided waits at (at + 12) (omega arith) s.sits.1)
      refl (omega (arith, s.sits.2, s.sits.3)) (plain line.screen.greeted (frame - (at + 12)))
  by_front (Hello at count) is none = as_hello at count is none

  pub asks_kept : Keeps peer groups line asks (ask_step peer (named is_named groups) line.screen line.asks.waits)
  unfolding ask_step
  asks_kept =
      let keeps : Done → Type 0 = Keeps peer groups line asks in
      let n : ℕ = min line.screen.ask_left (length line.asks.waits) in
      cond_both line.screen.ask_fault _ _ keeps
      (λ e. nothing line.screen.greeted line.screen.ask_fault line.screen.reply_fault) (λ e.
      cond_both (nat_lt 0 line.screen.ask_left) _ _ keeps (λ e1.
      let some : 0 < line.screen.ask_left = grind arith in
      asks_go_on peer groups line asks replies n (line.screen.ask_left - n) (omega arith) (omega arith) some i)
      (λ e1. by_front (front_of line.asks.waits) refl (grind arith)))
