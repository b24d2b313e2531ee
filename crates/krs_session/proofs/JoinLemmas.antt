-- How what was read, asked and written joins.
use Rattle.std.proofs.Common.{[], ◌+◌, ◌++◌, ◌∙◌, ◌∷◌, ◌≡◌, ◌≢◌, ap, append-nil, append_assoc, arith, Bool, drop}
use Rattle.std.proofs.Common.{false, length, List, None, Ok, Option, refl, Some, subst, sym, take, take-append-drop}
use Rattle.std.proofs.Common.{true, ℕ}
use Rattle.std.proofs.lemmas.List.{map-append}
use Rattle.krs_types.specs.declared.{ask.{Answer.TheVariants.Bytes, Ask.Ask}, event.Event.Event}
use Rattle.krs_model.specs.{History.event_of, Lists.Begins}
use Rattle.krs_store.specs.{Told.{bytes_of, reply_of}, declared.told.Told.Told}
use Rattle.krs_wire.specs.{Reply.reply_frame, declared.framed.Framed.Framed}
use Rattle.krs_session.specs.Events.{AllOfLane, asks_in, asks_of, moments_of, replies_of, reply_text, session_text}
use Rattle.krs_session.specs.Serving.{Asked, AsksAndHolds, AsksAndWrites, IsAskedAnew, Pending, PendingNext}
use Rattle.krs_session.specs.Serving.{Stand, Stays, TellsNext, Wrote}
use Rattle.krs_session.specs.{Replies.HoldsFrame, Session.TookFront, declared.connection.Connection.Connection}
use Rattle.krs_session.specs.declared.ended.Ended.{Ended, TheVariants.{Closed, Memory, Read, Turns, Wire, Write}}
use Rattle.krs_session.specs.declared.replies.Replies.{Replies}
use Rattle.krs_session.specs.declared.clock.Clock as clocks
use Rattle.krs_session.specs.declared.keeper.Keeper as keepers
use Rattle.krs_session.specs.declared.source_and_sink.Sink as sinks
use Rattle.krs_store.specs.declared.told.Told.TheVariants as tolds

-- a part of the bytes was taken, and these are left
pub record Taken {W : Type 0} (took : W → List ℕ → W → Type 0) (old new : W) (bytes left : List ℕ) : Type 0 where
  pub front : List ℕ
  pub whole : front ++ left ≡ bytes
  pub taken : took old front new

abbrev pub Joins : {W A : Type 0} → (W → List A → W → Type 0) → Type 0
Joins {W} {A} took = (a b c : W) (xs ys : List A) → took a xs b → took b ys c → took a (xs ++ ys) c

module _ {W : Type 0} (took : W → List ℕ → W → Type 0) (joins : Joins took) where
  pub taken_more : (a b c : W) (bytes left : List ℕ) (n : ℕ) → Taken took a b bytes left → took b (take n left) c
      → Taken took a c bytes (drop n left)
  taken_more a b c bytes left n t more =
      record {
        front = t.front ++ take n left;
        whole = append_assoc t.front (take n left) (drop n left)
            ∙ ap (λ (x : List ℕ). t.front ++ x) (take-append-drop n left) ∙ t.whole;
        taken = joins a b c t.front (take n left) t.taken more;
      }

  pub taken_part : (a b c : W) (bytes left more : List ℕ) → Taken took a b bytes left → Begins more left
      → took b more c → TookFront (λ front. took a front c) bytes
  taken_part a b c bytes left more t begins new = (
    t.front ++ more,
    (
      begins.0,
      append_assoc t.front more begins.0 ∙ ap (λ (x : List ℕ). t.front ++ x) begins.1
          ∙ t.whole,
    ),
    joins a b c t.front more t.taken new,
  )

pub stays_on : {H W S D C G : Type 0} (keeper : keepers.Ghosts D S H) (a b c : Connection H W S D C G)
    → Stays keeper a b → Stays keeper b c → Stays keeper a c
stays_on keeper a b c p q = record {
  setting = q.setting ∙ p.setting;
  writer = q.writer ∙ p.writer;
  seat = q.seat ∙ p.seat;
  clock = q.clock ∙ p.clock;
  held = q.held ∙ p.held;
  ready = q.ready;
  lane = q.lane ∙ p.lane;
}

-- ---- events

lanes_join : (lane : ℕ) (xs ys : List Event) → AllOfLane lane xs → AllOfLane lane ys → AllOfLane lane (xs ++ ys)
lanes_join lane [] ys a b = b
lanes_join lane (x ∷ xs) ys a b = (a.0, lanes_join lane xs ys a.1 b)

pub asked_joins : {S D H C : Type 0} (keeper : keepers.Ghosts D S H) (timer : clocks.Ghosts C) (s0 s1 s2 : S)
    (c0 c1 c2 : C) (xs ys : List Event) → Joins keeper.leads → Joins timer.ticked
    → keeper.lane_of s1 ≡ keeper.lane_of s0 → Asked keeper timer s0 s1 c0 c1 xs → Asked keeper timer s1 s2 c1 c2 ys
    → Asked keeper timer s0 s2 c0 c2 (xs ++ ys)
asked_joins keeper timer s0 s1 s2 c0 c1 c2 xs ys led ticks lane a b =
    record {
      led = led s0 s1 s2 xs ys a.led b.led;
      moments = subst (λ (m : List ℕ). timer.ticked c0 m c2) (sym (map-append (λ (e : Event). e.moment) xs ys))
          (ticks c0 c1 c2 (moments_of xs) (moments_of ys) a.moments b.moments);
      lanes = lanes_join (keeper.lane_of s0) xs ys a.lanes (subst (λ (n : ℕ). AllOfLane n ys) lane b.lanes);
    }

-- ---- what was written

module _ {W : Type 0} (took : W → List ℕ → W → Type 0) (joins : Joins took) where
  pub front_joins : (w0 w1 w2 : W) (xs ys : List ℕ) → took w0 xs w1 → TookFront (λ f. took w1 f w2) ys
      → TookFront (λ f. took w0 f w2) (xs ++ ys)
  front_joins w0 w1 w2 xs ys a b = (
    xs ++ b.0,
    (b.1.0, append_assoc xs b.0 b.1.0 ∙ ap (λ (x : List ℕ). xs ++ x) b.1.1),
    joins w0 w1 w2 xs b.0 a b.2,
  )

  front_longer : (w0 w1 : W) (xs ys : List ℕ) → TookFront (λ f. took w0 f w1) xs
      → TookFront (λ f. took w0 f w1) (xs ++ ys)
  front_longer w0 w1 xs ys a =
      (a.0, (a.1.0 ++ ys, sym (append_assoc a.0 a.1.0 ys) ∙ ap (λ (x : List ℕ). x ++ ys) a.1.1), a.2)

held_text : (front held xs ys : List ℕ) → front ++ held ≡ xs → front ++ (held ++ ys) ≡ xs ++ ys
held_text front held xs ys is = sym (append_assoc front held ys) ∙ ap (λ (x : List ℕ). x ++ ys) is

module _ {W : Type 0} (sink : sinks.Ghosts W) (joins : Joins sink.took) where
  wrote_joins : (w0 w1 w2 : W) (xs ys : List ℕ) (result : Option Ended) → Wrote sink w0 w1 xs None
      → Wrote sink w1 w2 ys result → Wrote sink w0 w2 (xs ++ ys) result
  wrote_joins w0 w1 w2 xs ys None a b = (joins w0 w1 w2 xs ys a.0 b.0, b.1 ∙ a.1)
  wrote_joins w0 w1 w2 xs ys (Some Write) a b =
      (front_joins sink.took joins w0 w1 w2 xs ys a.0 b.0, b.1 ∙ ap (λ (n : ℕ). n + 1) a.1)
  wrote_joins w0 w1 w2 xs ys (Some Memory) a b = (front_joins sink.took joins w0 w1 w2 xs ys a.0 b.0, b.1 ∙ a.1)
  wrote_joins w0 w1 w2 xs ys (Some Closed) a b = absurd b
  wrote_joins w0 w1 w2 xs ys (Some (Wire fault)) a b = absurd b
  wrote_joins w0 w1 w2 xs ys (Some Read) a b = absurd b
  wrote_joins w0 w1 w2 xs ys (Some Turns) a b = absurd b

  wrote_stopped : (w0 w1 : W) (xs ys : List ℕ) (stop : Ended) → Wrote sink w0 w1 xs (Some stop)
      → Wrote sink w0 w1 (xs ++ ys) (Some stop)
  wrote_stopped w0 w1 xs ys Write a = (front_longer sink.took joins w0 w1 xs ys a.0, a.1)
  wrote_stopped w0 w1 xs ys Memory a = (front_longer sink.took joins w0 w1 xs ys a.0, a.1)
  wrote_stopped w0 w1 xs ys Closed a = absurd a
  wrote_stopped w0 w1 xs ys (Wire fault) a = absurd a
  wrote_stopped w0 w1 xs ys Read a = absurd a
  wrote_stopped w0 w1 xs ys Turns a = absurd a

  held_joins : (w0 w1 w2 : W) (held1 held2 xs ys : List ℕ) (result : Option Ended) → Pending sink w0 w1 held1 xs None
      → Pending sink w1 w2 held2 (held1 ++ ys) result → Pending sink w0 w2 held2 (xs ++ ys) result
  held_joins w0 w1 w2 held1 held2 xs ys None a b = (
    a.0 ++ b.0,
    append_assoc a.0 b.0 held2 ∙ ap (λ (x : List ℕ). a.0 ++ x) b.1 ∙ held_text a.0 held1 xs ys a.1,
    wrote_joins w0 w1 w2 a.0 b.0 None a.2 b.2,
  )
  held_joins w0 w1 w2 held1 held2 xs ys (Some stop) a b =
      subst (λ (x : List ℕ). Wrote sink w0 w2 x (Some stop)) (held_text a.0 held1 xs ys a.1)
      (wrote_joins w0 w1 w2 a.0 (held1 ++ ys) (Some stop) a.2 b)

  pending_next : (w0 w1 w2 : W) (held1 held2 xs ys : List ℕ) (stop result : Option Ended)
      → Pending sink w0 w1 held1 xs stop → PendingNext sink w1 w2 held1 held2 ys stop result
      → Pending sink w0 w2 held2 (xs ++ ys) result
  pending_next w0 w1 w2 held1 held2 xs ys None result a b = held_joins w0 w1 w2 held1 held2 xs ys result a b
  pending_next w0 w1 w2 held1 held2 xs ys (Some stop) result a b =
      subst (λ (r : Option Ended). Pending sink w0 w2 held2 (xs ++ ys) r) (sym b.2)
      (subst (λ (w : W). Wrote sink w0 w (xs ++ ys) (Some stop)) (sym b.0) (wrote_stopped w0 w1 xs ys stop a))

  -- one more text is held at once, where nothing stopped the writing before
  pending_taken : (w0 w1 : W) (held1 held2 xs ys : List ℕ) (stop : Option Ended) → held2 ≡ held1 ++ ys
      → Pending sink w0 w1 held1 xs stop → Pending sink w0 w1 held2 (xs ++ ys) stop
  pending_taken w0 w1 held1 held2 xs ys None is a =
      (a.0, ap (λ (x : List ℕ). a.0 ++ x) is ∙ held_text a.0 held1 xs ys a.1, a.2)
  pending_taken w0 w1 held1 held2 xs ys (Some stop) is a = wrote_stopped w0 w1 xs ys stop a

  -- what was held is written
  pending_wrote : (w0 w1 w2 : W) (held text : List ℕ) (result : Option Ended) → Pending sink w0 w1 held text None
      → Wrote sink w1 w2 held result → Wrote sink w0 w2 text result
  pending_wrote w0 w1 w2 held text result a b =
      subst (λ (x : List ℕ). Wrote sink w0 w2 x result) a.1 (wrote_joins w0 w1 w2 a.0 held result a.2 b)

  -- a reply is held at once, or goes behind what is held, where nothing stopped the writing before
  told_next : (w0 w1 w2 : W) (out0 out1 out2 : Replies) (framed : Framed) (told : Told) (stop result : Option Ended)
      (xs : List ℕ) → HoldsFrame out0 (bytes_of told) out1 → out0.tag ≡ framed.tag
      → TellsNext sink w1 w2 out1 out2 framed.tag told stop result → Pending sink w0 w1 out0.bytes.items xs stop
      → Pending sink w0 w2 out2.bytes.items (xs ++ reply_text framed (reply_of told)) result
  told_next w0 w1 w2 out0 out1 out2 framed (tolds.Reply reply) stop result xs held tag next pending =
      pending_next w0 w1 w2 out0.bytes.items out2.bytes.items xs (reply_frame framed.tag reply) stop result pending
      (subst (λ (h : List ℕ). PendingNext sink w1 w2 h out2.bytes.items (reply_frame framed.tag reply) stop result)
      held next)
  told_next w0 w1 w2 out0 out1 out2 framed (tolds.Taken bytes) stop result xs held tag next pending =
      subst (λ (z : W × Option Ended). Pending sink w0 z.0 out2.bytes.items
      (xs ++ reply_frame framed.tag (Ok (Bytes bytes.value))) z.1) (λ i. (sym next.0 i, sym next.2 i))
      (pending_taken w0 w1 out0.bytes.items out2.bytes.items xs (reply_frame framed.tag (Ok (Bytes bytes.value))) stop
      (next.1 ∙ (held ∙ ap (λ (t : Option ℕ). out0.bytes.items ++ reply_frame t (Ok (Bytes bytes.value))) tag))
      pending)

-- no write has failed where nothing stopped the writing
pub none_failed : {W : Type 0} (sink : sinks.Ghosts W) (old new : W) (held text : List ℕ) (stop : Option Ended)
    → Pending sink old new held text stop → stop ≡ None → sink.failures new ≡ sink.failures old
none_failed sink old new held text None pending none = pending.2.1
none_failed sink old new held text (Some stop) pending none = absurd cc

-- so do the asks and the frames that they were cut from
pub order_joins : (xs ys : List Event) (fs gs : List Framed) → asks_of xs ≡ asks_in fs → asks_of ys ≡ asks_in gs
    → asks_of (xs ++ ys) ≡ asks_in (fs ++ gs)
order_joins xs ys fs gs a b =
    map-append (λ (x : Event). x.ask) xs ys ∙ ap (λ (x : List Ask). x ++ asks_of ys) a
    ∙ ap (λ (x : List Ask). asks_in fs ++ x) b ∙ sym (map-append (λ (x : Framed). x.ask) fs gs)

-- the text of one reply to each of these frames, and then of more
pub text_joins : (fs gs : List Framed) (xs ys : List Event) → asks_of xs ≡ asks_in fs
    → session_text (fs ++ gs) (replies_of (xs ++ ys))
    ≡ session_text fs (replies_of xs) ++ session_text gs (replies_of ys)
text_joins [] gs [] ys e = refl
text_joins [] gs (x ∷ xs) ys e = cc
text_joins (f ∷ fs) gs [] ys e = cc
text_joins (f ∷ fs) gs (x ∷ xs) ys e =
    let others : asks_of xs ≡ asks_in fs = cc in
    ap (λ (t : List ℕ). reply_text f x.reply ++ t) (text_joins fs gs xs ys others)
    ∙ sym (append_assoc (reply_text f x.reply) (session_text fs (replies_of xs)) (session_text gs (replies_of ys)))

-- ---- one more ask

module _ {S D H C W : Type 0} (keeper : keepers.Ghosts D S H) (timer : clocks.Ghosts C) (sink : sinks.Ghosts W)
    (led : Joins keeper.leads) (ticks : Joins timer.ticked) (joins : Joins sink.took) where
  pub holds_told : (a b c : Stand S C W) (at moment : ℕ) (out0 out1 out2 : Replies) (frames : List Framed)
      (framed : Framed) (told : Told) (stop result : Option Ended) → keeper.lane_of b.seat ≡ keeper.lane_of a.seat
      → AsksAndHolds keeper timer sink a b out0.bytes.items frames stop
      → Asked keeper timer b.seat c.seat b.clock c.clock (event_of at moment framed.ask (reply_of told) ∷ [])
      → HoldsFrame out0 (bytes_of told) out1 → out0.tag ≡ framed.tag
      → TellsNext sink b.writer c.writer out1 out2 framed.tag told stop result
      → AsksAndHolds keeper timer sink a c out2.bytes.items (frames ++ framed ∷ []) result
  holds_told a b c at moment out0 out1 out2 frames framed told stop result lane holds one held tag next =
      let event : Event = event_of at moment framed.ask (reply_of told) in
      let before : List ℕ = session_text frames (replies_of holds.events) in
      let text : session_text (frames ++ framed ∷ []) (replies_of (holds.events ++ event ∷ []))
      ≡ before ++ reply_text framed event.reply =
      text_joins frames (framed ∷ []) holds.events (event ∷ []) holds.order
      ∙ ap (λ (x : List ℕ). before ++ x) (append-nil (reply_text framed event.reply)) in
      record {
        events = holds.events ++ event ∷ [];
        order = order_joins holds.events (event ∷ []) frames (framed ∷ []) holds.order refl;
        asked = asked_joins keeper timer a.seat b.seat c.seat a.clock b.clock c.clock holds.events (event ∷ []) led
            ticks lane holds.asked one;
        pending = subst (λ (x : List ℕ). Pending sink a.writer c.writer out2.bytes.items x result) (sym text)
            (told_next sink joins a.writer b.writer c.writer out0 out1 out2 framed told stop result before held tag
            next holds.pending);
      }

  pub holds_none : (a : Stand S C W) (held : List ℕ) → keeper.leads a.seat [] a.seat → timer.ticked a.clock [] a.clock
      → sink.took a.writer [] a.writer → held ≡ [] → AsksAndHolds keeper timer sink a a held [] None
  holds_none a held led_none ticked_none took_none none =
      record {
        events = [];
        order = refl;
        asked = record { led = led_none; moments = ticked_none; lanes = tt };
        pending = ([], none, (took_none, refl));
      }

  -- what is held is written in the end, unless something stopped the writing
  pub holds_wrote : (a b c : Stand S C W) (held : List ℕ) (frames : List Framed) (result : Option Ended)
      → AsksAndHolds keeper timer sink a b held frames None → keeper.leads b.seat [] c.seat → c.clock ≡ b.clock
      → Wrote sink b.writer c.writer held result → AsksAndWrites keeper timer sink a c frames result
  holds_wrote a b c held frames result holds still same wrote =
      record {
        events = holds.events;
        order = holds.order;
        asked = record {
          led = subst (λ (e : List Event). keeper.leads a.seat e c.seat) (append-nil holds.events)
              (led a.seat b.seat c.seat holds.events [] holds.asked.led still);
          moments = subst (λ (t : C). timer.ticked a.clock (moments_of holds.events) t) (sym same) holds.asked.moments;
          lanes = holds.asked.lanes;
        };
        wrote = pending_wrote sink joins a.writer b.writer c.writer held
            (session_text frames (replies_of holds.events)) result holds.pending wrote;
      }

-- It was asked anew for one more ask: where it was asked before, then; else now, and nothing has changed before.
pub anew_next : {C : Type 0} (renewed : C → ℕ → C → Type 0) (was : Bool) (first old new : C) (moment : ℕ)
    → (was ≡ false → old ≡ first) → (was ≡ true → IsAskedAnew renewed first)
    → (was ≡ false → renewed old moment new) → IsAskedAnew renewed first
anew_next {C} renewed false first old new moment same before now =
    (moment, new, subst (λ (c : C). renewed c moment new) (same refl) (now refl))
anew_next renewed true first old new moment same before now = before refl

-- where nothing is left to ask, as its rest is all of it, it was asked, if there was anything to ask
pub anew_all : {C F : Type 0} (renewed : C → ℕ → C → Type 0) (was : Bool) (first : C) (all left : List F)
    → (was ≡ false → left ≡ all) → (was ≡ true → IsAskedAnew renewed first) → left ≡ drop 1 left → all ≢ []
    → IsAskedAnew renewed first
anew_all renewed false first all [] same before none some = absurd (some (sym (same refl)))
anew_all renewed false first all (x ∷ left) same before none some =
    let fewer : length (x ∷ left) ≡ length left = ap length none in absurd (omega (arith, fewer))
anew_all renewed true first all left same before none some = before refl
