-- Seats that meet, and the one history that they learn of.
use Rattle.std.proofs.Common.{[], ◌++◌, ◌+◌, ◌<◌, ◌∙◌, ◌∷◌, ◌≡◌, ◌≢◌, All, ap, append-nil, append_assoc, arith}
use Rattle.std.proofs.Common.{flat_map, length, length-append, List, None, refl, subst, suc, sym, ℕ}
use Rattle.std.specs.List.{AllZip}
use Rattle.std.proofs.lemmas.List.Concat.{flat_map-append}
use Rattle.std.proofs.lemmas.List.Elements.{All-cons, All-head, All-nil, All-push, All-tail, AllZip-push}
use Rattle.krs_types.specs.declared.event.Event.{Event}
use Rattle.krs_model.specs.{History.IsLegal, Lists.Begins, State.{starting_at, State}}
use Rattle.krs_model.proofs.History.Legal.{legal_none}
use Rattle.krs_world.specs.{Knowing.events_of, declared.view.Part.Part}
use Rattle.krs_world.proofs.Keeping.{events_prefix, prefix_both, prefix_self, prefix_trans}
use Rattle.krs_desk.specs.{Seen.IsOneHistory, Sitting.{Meets, Sitting}}
use Rattle.krs_session.specs.declared.ended.Ended.{Ended}
use Rattle.krs_serve.specs.OneDesk.{HasMet, HaveOneHistory, MeetsEach, SeesMore, ServeInOneHistory, StandsIn}
use Rattle.krs_serve.specs.Sessions.{ServesAtDesk}
use Rattle.krs_serve.specs.{Visits.{HasJustItsCalls, IsNew, IsVisited, Visit}, declared.entry.Entry.Entry}
use Rattle.krs_session.specs.declared.clock.Clock as clocks
use Rattle.krs_session.specs.declared.source_and_sink.Sink as sinks
use Rattle.krs_session.specs.declared.source_and_sink.Source as sources

pub sees_itself : (s : Sitting) → SeesMore s s
sees_itself s = record {
  table = refl;
  opening = refl;
  lane = refl;
  mine = refl;
  flight = refl;
  seen = prefix_self s.part.seen;
}

pub sees_on : (s t u : Sitting) → SeesMore s t → SeesMore t u → SeesMore s u
sees_on s t u a b = record {
  table = b.table ∙ a.table;
  opening = b.opening ∙ a.opening;
  lane = b.lane ∙ a.lane;
  mine = b.mine ∙ a.mine;
  flight = b.flight ∙ a.flight;
  seen = prefix_trans s.part.seen t.part.seen u.part.seen a.seen b.seen;
}

-- ---- one meeting

met_more : (s t : Sitting) (log : List Event) → t.table ≡ s.table → t.opening ≡ s.opening
    → t.part ≡ record s.part { seen = log } → Begins s.part.seen log → SeesMore s t
met_more s t log table opening part seen = record {
  table = table;
  opening = opening;
  lane = ap (λ (p : Part). p.lane) part;
  mine = ap (λ (p : Part). p.mine) part;
  flight = ap (λ (p : Part). p.flight) part;
  seen = subst (λ (l : List Event). Begins s.part.seen l) (sym (ap (λ (p : Part). p.seen) part)) seen;
}

pub first_more : (s o t n : Sitting) → t.table ≡ s.table → Meets s o t n → SeesMore s t
first_more s o t n table m = met_more s t m.log table m.opening.0 m.seen.0 m.first

pub second_more : (s o t n : Sitting) → n.table ≡ o.table → Meets s o t n → SeesMore o n
second_more s o t n table m = met_more o n m.log table m.kept m.seen.1 m.second

first_seen : (s o t n : Sitting) → (m : Meets s o t n) → t.part.seen ≡ m.log
first_seen s o t n m = ap (λ (p : Part). p.seen) m.seen.0

second_seen : (s o t n : Sitting) → (m : Meets s o t n) → n.part.seen ≡ m.log
second_seen s o t n m = ap (λ (p : Part). p.seen) m.seen.1

-- the first, on its way from s, met another
met_one : (s f o t n : Sitting) → SeesMore s f → o.part.flight ≡ None → n.table ≡ o.table → Meets f o t n
    → HasMet s o t n
met_one s f o t n way idle table m =
    let one : n.part.seen ≡ t.part.seen = second_seen f o t n m ∙ sym (first_seen f o t n m) in
    record {
      more = second_more f o t n table m;
      opening = m.opening.1 ∙ way.opening;
      after = prefix_trans s.part.seen f.part.seen n.part.seen way.seen
          (subst (λ (l : List Event). Begins f.part.seen l) (sym (second_seen f o t n m)) m.first);
      before = subst (λ (l : List Event). Begins n.part.seen l) one (prefix_self n.part.seen);
      own = m.own.1 ((second_more f o t n table m).flight ∙ idle);
    }

module _ (s : Sitting) where
  -- those that were met before: the first has seen more since
  met_before : (f t : Sitting) → SeesMore f t → (others met : List Sitting) → AllZip (λ o m. HasMet s o f m) others met
      → AllZip (λ o m. HasMet s o t m) others met
  met_before f t more [] [] each = tt
  met_before f t more [] (m ∷ met) each = absurd each
  met_before f t more (o ∷ others) [] each = absurd each
  met_before f t more (o ∷ others) (m ∷ met) each =
      let h = each.0 in (
        record {
          more = h.more;
          opening = h.opening;
          after = h.after;
          before = prefix_trans m.part.seen f.part.seen t.part.seen h.before more.seen;
          own = h.own;
        },
        met_before f t more others met each.1,
      )

  -- it meets one more
  meets_next : (f o t n : Sitting) (others met : List Sitting) → f.part.flight ≡ None → o.part.flight ≡ None
      → t.table ≡ f.table → n.table ≡ o.table → Meets f o t n → MeetsEach s others f met
      → MeetsEach s (others ++ o ∷ []) t (met ++ n ∷ [])
  meets_next f o t n others met idle quiet table other m so =
      let more : SeesMore f t = first_more f o t n table m in
      record {
        first = sees_on s f t so.first more;
        own = m.own.0 (more.flight ∙ idle);
        history = (
          m.last,
          subst (λ (l : List Event). IsLegal t.opening l m.last) (sym (first_seen f o t n m))
              (subst (λ (a : State). IsLegal a m.log m.last) (sym more.opening) m.legal),
        );
        each = AllZip-push (λ o m. HasMet s o t m) others met o n (met_before f t more others met so.each)
            (met_one s f o t n so.first quiet other m);
      }

-- Of all these, so many were met, and now stand behind the others.
pub record MetSome (s : Sitting) (all : List Sitting) (count : ℕ) (t : Sitting) (items : List Sitting) : Type 0 where
  pub before : List Sitting
  pub todo : List Sitting
  pub met : List Sitting
  pub all_is : before ++ todo ≡ all
  pub items_is : todo ++ met ≡ items
  pub count_is : length before ≡ count
  pub meets : MeetsEach s before t met

module _ (s : Sitting) (all : List Sitting) where
  pub met_none : HasJustItsCalls s → IsOneHistory s.opening s.part.seen → MetSome s all 0 s all
  met_none own history = record {
    before = [];
    todo = all;
    met = [];
    all_is = refl;
    items_is = append-nil all;
    count_is = refl;
    meets = record { first = sees_itself s; own = own; history = history; each = tt };
  }

  met_next_of : (f o t n : Sitting) (before todo met rest : List Sitting) (count : ℕ) → before ++ todo ≡ all
      → todo ++ met ≡ o ∷ rest → length before ≡ count → count < length all → f.part.flight ≡ None
      → o.part.flight ≡ None → t.table ≡ f.table → n.table ≡ o.table → Meets f o t n → MeetsEach s before f met
      → MetSome s all (count + 1) t (rest ++ n ∷ [])
  met_next_of f o t n before [] met rest count all_is items_is count_is lt idle quiet table other m so =
      let long : length before + 0 ≡ length all = sym (length-append before []) ∙ ap length all_is in
      absurd (omega (arith, long, count_is, lt))
  met_next_of f o t n before (x ∷ todo) met rest count all_is items_is count_is lt idle quiet table other m so =
      let head : x ≡ o = cc in
      let tail : todo ++ met ≡ rest = cc in
      let whole : before ++ o ∷ todo ≡ all = subst (λ (y : Sitting). before ++ y ∷ todo ≡ all) head all_is in
      record {
        before = before ++ o ∷ [];
        todo = todo;
        met = met ++ n ∷ [];
        all_is = append_assoc before (o ∷ []) todo ∙ whole;
        items_is = sym (append_assoc todo met (n ∷ [])) ∙ ap (λ (l : List Sitting). l ++ n ∷ []) tail;
        count_is = length-append before (o ∷ []) ∙ ap (λ (k : ℕ). k + 1) count_is;
        meets = meets_next s f o t n before met idle quiet table other m so;
      }

  -- the one in front is met, and stands behind
  pub met_next : (f o t n : Sitting) (items rest next : List Sitting) (count : ℕ) → items ≡ o ∷ rest
      → next ≡ rest ++ n ∷ [] → count < length all → f.part.flight ≡ None → o.part.flight ≡ None → t.table ≡ f.table
      → n.table ≡ o.table → Meets f o t n → MetSome s all count f items → MetSome s all (count + 1) t next
  met_next f o t n items rest next count front back lt idle quiet table other m so =
      subst (λ (l : List Sitting). MetSome s all (count + 1) t l) (sym back)
      (met_next_of f o t n so.before so.todo so.met rest count so.all_is (so.items_is ∙ front) so.count_is lt idle
      quiet table other m so.meets)

  met_all_of : (t : Sitting) (before todo met items : List Sitting) → before ++ todo ≡ all → todo ++ met ≡ items
      → length before ≡ length all → MeetsEach s before t met → MeetsEach s all t items
  met_all_of t before [] met items all_is items_is long so =
      subst (λ (l : List Sitting). MeetsEach s l t items) (sym (append-nil before) ∙ all_is)
      (subst (λ (l : List Sitting). MeetsEach s before t l) items_is so)
  met_all_of t before (x ∷ todo) met items all_is items_is long so =
      let sum : length before + suc (length todo) ≡ length all =
      sym (length-append before (x ∷ todo)) ∙ ap length all_is in
      absurd (omega (arith, sum, long))

  pub met_all : (t : Sitting) (items : List Sitting) (count : ℕ) → count ≡ length all → MetSome s all count t items
      → MeetsEach s all t items
  met_all t items count whole so =
      met_all_of t so.before so.todo so.met items so.all_is so.items_is (so.count_is ∙ whole) so.meets

-- ---- two rounds

-- What the first has seen after its first round has just the calls of the other: all that this one had seen then, and
-- no more, as what this one sees in the second round begins with it.
stands_other : (s t u o m n : Sitting) → HasMet s o t m → HasMet t m u n → StandsIn s.opening t.part.seen o n
stands_other s t u o m n one two =
    let both : SeesMore o n = sees_on o m n one.more two.more in
    let low : Begins o.part.mine (events_of o.part.lane t.part.seen) =
    subst (λ (l : List Event). Begins l (events_of o.part.lane t.part.seen)) (one.own ∙ one.more.mine)
    (subst (λ (k : ℕ). Begins (events_of m.part.lane m.part.seen) (events_of k t.part.seen)) one.more.lane
    (events_prefix m.part.lane m.part.seen t.part.seen one.before)) in
    let high : Begins (events_of o.part.lane t.part.seen) o.part.mine =
    subst (λ (l : List Event). Begins (events_of o.part.lane t.part.seen) l) (two.own ∙ both.mine)
    (subst (λ (k : ℕ). Begins (events_of k t.part.seen) (events_of n.part.lane n.part.seen)) both.lane
    (events_prefix n.part.lane t.part.seen n.part.seen two.after)) in
    record {
      opening = sym one.more.opening ∙ one.opening;
      seen = prefix_trans o.part.seen m.part.seen t.part.seen one.more.seen one.before;
      calls = prefix_both (events_of o.part.lane t.part.seen) o.part.mine high low;
      more = both;
    }

module _ (s t u : Sitting) where
  stand_others : (others mid end : List Sitting) → AllZip (λ o m. HasMet s o t m) others mid
      → AllZip (λ m n. HasMet t m u n) mid end → AllZip (λ o n. StandsIn s.opening t.part.seen o n) others end
  stand_others [] [] [] one two = tt
  stand_others [] [] (n ∷ end) one two = absurd two
  stand_others [] (m ∷ mid) end one two = absurd one
  stand_others (o ∷ others) [] end one two = absurd one
  stand_others (o ∷ others) (m ∷ mid) [] one two = absurd two
  stand_others (o ∷ others) (m ∷ mid) (n ∷ end) one two =
      (stands_other s t u o m n one.0 two.0, stand_others others mid end one.1 two.1)

  pub two_rounds : (others mid end : List Sitting) → MeetsEach s others t mid → MeetsEach t mid u end
      → HaveOneHistory s.opening (s ∷ others) (u ∷ end)
  two_rounds others mid end one two = record {
    log = t.part.seen;
    last = one.history.0;
    legal = subst (λ (a : State). IsLegal a t.part.seen one.history.0) one.first.opening one.history.1;
    each = (
      record {
        opening = refl;
        seen = one.first.seen;
        calls = subst (λ (k : ℕ). events_of k t.part.seen ≡ s.part.mine) one.first.lane
            (one.own ∙ one.first.mine);
        more = sees_on s t u one.first two.first;
      },
      stand_others others mid end one.each two.each,
    );
  }

-- no seats have some history
pub no_seats : (seats later : List Sitting) → length seats ≡ 0 → length later ≡ 0
    → HaveOneHistory (starting_at 3) seats later
no_seats [] [] none nobody = record {
  log = [];
  last = starting_at 3;
  legal = legal_none (starting_at 3);
  each = tt;
}
no_seats [] (t ∷ later) none nobody = absurd (omega (arith, nobody))
no_seats (s ∷ seats) later none nobody = absurd (omega (arith, none))

-- ---- connections

pub not_none : (xs : List Event) (x : Event) → xs ++ x ∷ [] ≢ []
not_none [] x = λ e. absurd (cc)
not_none (y ∷ ys) x = λ e. absurd (cc)

-- a new seat has no calls, and has seen none
pub just_none : (s : Sitting) → IsNew s → HasJustItsCalls s
just_none s new = ap (events_of s.part.lane) new.1 ∙ sym new.0

module _ {R W : Type 0} (source : sources.Ghosts R) (sink : sinks.Ghosts W) (turns : ℕ) where
  -- of a new seat
  pub visited_none : (s : Sitting) → IsNew s → IsVisited source sink turns s
  visited_none s new = record { visits = []; each = All-nil (Visit source sink turns s.part.lane); mine = new.0 }

  -- of a seat that has seen more
  pub visited_on : (s t : Sitting) → SeesMore s t → IsVisited source sink turns s → IsVisited source sink turns t
  visited_on s t more v = record {
    visits = v.visits;
    each = subst (λ (k : ℕ). All (Visit source sink turns k) v.visits) (sym more.lane) v.each;
    mine = more.mine ∙ v.mine;
  }

  -- of a seat that has had one more connection
  pub visited_next : (s t : Sitting) (calls : List Event) → t.part.lane ≡ s.part.lane
      → t.part.mine ≡ s.part.mine ++ calls → Visit source sink turns s.part.lane calls → IsVisited source sink turns s
      → IsVisited source sink turns t
  visited_next s t calls lane mine visit v =
      let last : flat_map (λ (c : List Event). c) (calls ∷ []) ≡ calls = append-nil calls in
      let whole : flat_map (λ (c : List Event). c) (v.visits ++ calls ∷ [])
      ≡ flat_map (λ (c : List Event). c) v.visits ++ calls =
      flat_map-append (λ (c : List Event). c) v.visits (calls ∷ [])
      ∙ ap (λ (l : List Event). flat_map (λ (c : List Event). c) v.visits ++ l) last in
      record {
        visits = v.visits ++ calls ∷ [];
        each = subst (λ (k : ℕ). All (Visit source sink turns k) (v.visits ++ calls ∷ [])) (sym lane)
            (All-push (Visit source sink turns s.part.lane) v.visits calls v.each visit);
        mine = mine ∙ ap (λ (l : List Event). l ++ calls) v.mine ∙ sym whole;
      }

  -- a connection that was served
  pub visit_of : {C : Type 0} (timer : clocks.Ghosts C) (connection : Entry R W C) (seat left : Sitting) (ended : Ended)
      → (served : ServesAtDesk source timer sink turns connection seat left ended)
      → Visit source sink turns seat.part.lane (served.session.events ++ served.session.last ∷ [])
  visit_of timer connection seat left ended served =
      let s = served.session in record {
        reader = connection.reader;
        writer = connection.writer;
        last_reader = served.last.reader;
        last_writer = served.last.writer;
        ended = ended;
        session = record {
          bytes = s.bytes;
          frames = s.frames;
          events = s.events;
          last = s.last;
          read = s.read;
          size = s.size;
          asked = refl;
          moments = tt;
          lanes = s.lanes;
          order = s.order;
          leave = s.leave;
          served = s.served;
        };
        count = served.count;
      }

  -- each of these stands in the history, as it was before and is now
  stands_each : (start : State) (log : List Event) (seats later : List Sitting)
      → AllZip (λ s t. StandsIn start log s t) seats later → All (λ s. ∥ IsVisited source sink turns s ∥₁) later
      → All (λ s. (events_of s.part.lane log ≡ s.part.mine) × ∥ IsVisited source sink turns s ∥₁) later
  stands_each start log [] [] each visited =
      All-nil (λ (s : Sitting). (events_of s.part.lane log ≡ s.part.mine) × ∥ IsVisited source sink turns s ∥₁)
  stands_each start log [] (t ∷ later) each visited = absurd each
  stands_each start log (s ∷ seats) [] each visited = absurd each
  stands_each start log (s ∷ seats) (t ∷ later) each visited =
      let one = each.0 in
      All-cons (λ (s : Sitting). (events_of s.part.lane log ≡ s.part.mine)
      × ∥ IsVisited source sink turns s ∥₁) t later (
        subst (λ (k : ℕ). events_of k log ≡ t.part.mine) (sym one.more.lane) (one.calls ∙ sym one.more.mine),
        All-head (λ (s : Sitting). ∥ IsVisited source sink turns s ∥₁) t later visited,
      )
      (stands_each start log seats later each.1
      (All-tail (λ (s : Sitting). ∥ IsVisited source sink turns s ∥₁) t later visited))

  pub serve_in_one_history : (seats later : List Sitting) → HaveOneHistory (starting_at 3) seats later
      → All (λ s. ∥ IsVisited source sink turns s ∥₁) later → ServeInOneHistory source sink turns later
  serve_in_one_history seats later one visited = record {
    log = one.log;
    last = one.last;
    legal = one.legal;
    each = stands_each (starting_at 3) one.log seats later one.each visited;
  }
