-- A call that is posted, helped and collected, and what its caller is told.
use Rattle.std.proofs.Common.{[], ◌++◌, ◌+◌, ◌<◌, ◌∙◌, ◌∷◌, ◌≡◌, ap, append-nil, append_assoc, arith, Bool, false, List}
use Rattle.std.proofs.Common.{refl, Result, Some, subst, sym, true, ℕ}
use Rattle.atomic_table.specs.Seated.{TableId}
use Rattle.krs_types.specs.declared.{ask.{Answer.Answer, Ask.Ask}, errno.Errno.Errno, event.Event.Event}
use Rattle.krs_model.specs.{History.{event_of, IsLegal}, Lists.Begins, State.State}
use Rattle.krs_world.specs.Knowing.{flight}
use Rattle.krs_world.proofs.Keeping.{prefix_more, prefix_self, prefix_trans}
use Rattle.krs_desk.specs.Helping.{Called, HasHelped, HasLooked, Waits}
use Rattle.krs_desk.specs.Sitting.{Adds, Collects, missed_by, posted_by, rested, Sitting}
use Rattle.krs_desk.specs.declared.helping.Helped.{Helped, TheVariants.{Busy, Took}}
use Rattle.krs_desk.proofs.Seen.{legal_cut}

-- nothing is changed but how often the turn was found taken, and no turn is kept
abbrev pub found_taken : Sitting → ℕ → Sitting
found_taken s count = record (rested s) { part = record s.part { found = count } }

pub waits_posted :
    (desk : TableId) (s t : Sitting) (moment : ℕ) (ask : Ask) → t ≡ posted_by s moment ask → Waits desk s moment ask t
waits_posted desk s t moment ask is = subst (Waits desk s moment ask) (sym is)
    record {
      same_table = refl;
      opening = refl;
      lane = refl;
      flight = refl;
      mine = refl;
      seen = prefix_self s.part.seen;
      rises = λ lt. omega arith;
      looked = (λ lt. absurd (omega arith), λ _. (false, sym (append-nil s.part.checked)));
    }

found_waits : (desk : TableId) (s t : Sitting) (moment count : ℕ) (ask : Ask) → Waits desk s moment ask t
    → Waits desk s moment ask (found_taken t count)
found_waits desk s t moment count ask w = record {
  same_table = w.same_table;
  opening = w.opening;
  lane = w.lane;
  flight = w.flight;
  mine = w.mine;
  seen = w.seen;
  rises = w.rises;
  looked = w.looked;
}

pub waits_helped :
    (desk : TableId) (s t u : Sitting) (moment : ℕ) (ask : Ask) (how : Helped) → Waits desk s moment ask t
    → HasHelped desk t how u → Waits desk s moment ask u
waits_helped desk s t u moment ask (Took count) w h =
    let rises = w.rises in
    let more = h.taken in
    record {
      same_table = h.same_table ∙ w.same_table;
      opening = h.opening ∙ w.opening;
      lane = h.lane ∙ w.lane;
      flight = h.flight ∙ w.flight;
      mine = h.mine ∙ w.mine;
      seen = prefix_trans s.part.seen t.part.seen u.part.seen w.seen
          (subst (Begins t.part.seen) (sym h.seen) (prefix_more t.part.seen u.part.base h.answered h.before));
      rises = λ lt. rises (omega arith);
      looked = (λ lt. (true, h.checked), λ same. absurd (rises (omega arith)));
    }
waits_helped desk s t u moment ask Busy w h =
    subst (Waits desk s moment ask) (sym h.1) (found_waits desk s t moment (t.part.found + 1) ask w)

-- nothing is changed where no reply was collected
pub waits_still : (desk : TableId) (s t u : Sitting) (moment : ℕ) (ask : Ask) → Waits desk s moment ask t → u ≡ rested t
    → Waits desk s moment ask u
waits_still desk s t u moment ask w same =
    subst (Waits desk s moment ask) (sym same) (found_waits desk s t moment t.part.found ask w)

same_flight : (moment moment' : ℕ) (ask ask' : Ask) (before before' : List Event)
    → Some (flight moment ask before) ≡ Some (flight moment' ask' before')
    → (moment ≡ moment') × (ask ≡ ask') × (before ≡ before')
same_flight moment moment' ask ask' before before' e =
    let one_flight : flight moment ask before ≡ flight moment' ask' before' = cc in
    (ap (λ f. f.moment) one_flight, ap (λ f. f.ask) one_flight, ap (λ f. f.after) one_flight)

-- the reply of a call that was waited for
adds_collected : (desk : TableId) (s t u : Sitting) (moment : ℕ) (ask : Ask) (reply : Result Answer Errno)
    → Waits desk s moment ask t → Collects t reply u → Adds s (event_of s.part.lane moment ask reply) u
adds_collected desk s t u moment ask reply w c =
    let same = same_flight moment c.moment ask c.ask s.part.seen c.before (sym w.flight ∙ c.posted) in
    let e : Event = event_of s.part.lane moment ask reply in
    let said : event_of t.part.lane c.moment c.ask reply ≡ e =
    λ i. event_of (w.lane i) (sym same.0 i) (sym same.1 i) reply in
    let between : List Event = c.stands.0 in
    let after : List Event = c.stands.1 in
    let upto : List Event = (s.part.seen ++ between) ++ e ∷ [] in
    let whole : u.part.seen ≡ upto ++ after = c.stands.2 ∙ ((λ i. (sym same.2 i ++ between) ++ said i ∷ after)
    ∙ sym (append_assoc (s.part.seen ++ between) (e ∷ []) after)) in
    let legal : IsLegal s.opening (upto ++ after) c.last =
    subst (λ (z : State × List Event). IsLegal z.0 z.1 c.last) (λ i. (w.opening i, whole i)) c.legal in
    let cut = legal_cut s.opening c.last upto after legal in
    record {
      table = c.table ∙ w.same_table;
      opening = c.opening ∙ w.opening;
      lane = c.lane ∙ w.lane;
      upto = upto;
      between = between;
      last = cut.0;
      begins = (after, sym whole);
      legal = cut.1;
      ends = refl;
      mine = c.mine ∙ (λ i. w.mine i ++ said i ∷ []);
      own = c.own;
    }

-- the cells were looked at as before the reply was collected
looked_collected : (desk : TableId) (s t u : Sitting) (moment : ℕ) (ask : Ask) (reply : Result Answer Errno)
    → Waits desk s moment ask t → Collects t reply u → HasLooked desk s u
looked_collected desk s t u moment ask reply w c = (
  λ lt. let round = w.looked.0 (subst (λ (n : ℕ). s.part.taken < n) c.taken lt) in (round.0, c.checked ∙ round.1),
  λ same. let round = w.looked.1 (sym c.taken ∙ same) in (round.0, c.checked ∙ round.1),
)

-- the call was made, and no turn is kept, whether or not more calls follow
pub called_collected :
    {desk : TableId} (more : Bool) {s t u : Sitting} {moment : ℕ} {ask : Ask} {reply : Result Answer Errno}
    → Waits desk s moment ask t → Collects t reply u → u.kept ≡ 0 → Called desk more s moment ask reply u
called_collected {desk} more {s} {t} {u} {moment} {ask} {reply} w c none = record {
  added = adds_collected desk s t u moment ask reply w c;
  idle = c.idle.0;
  looked = looked_collected desk s t u moment ask reply w c;
  keeps = (λ _. none, λ kept. absurd (kept none));
}

pub called_resting :
    {desk : TableId} {s t : Sitting} {moment : ℕ} {ask : Ask} {reply : Result Answer Errno} {more : Bool}
    → Called desk false s moment ask reply t → Called desk more s moment ask reply t
called_resting c = record {
  added = c.added;
  idle = c.idle;
  looked = c.looked;
  keeps = (λ _. c.keeps.0 refl, λ kept. absurd (kept (c.keeps.0 refl)));
}

-- Tries that found the turn taken.

pub none_found : (s : Sitting) → s.kept ≡ 0 → s ≡ found_taken s s.part.found
none_found s none = λ i. record s { kept = none i }

pub found_more : (s t u : Sitting) → t ≡ found_taken s t.part.found → u ≡ missed_by t → u ≡ found_taken s u.part.found
found_more s t u e is =
    let u_is : u ≡ found_taken s (t.part.found + 1) = is ∙ ap missed_by e in
    u_is ∙ ap (found_taken s) (sym (ap (λ (z : Sitting). z.part.found) u_is))

called_then :
    (desk : TableId) (more : Bool) (s u : Sitting) (count moment : ℕ) (ask : Ask) (reply : Result Answer Errno)
    → s.kept ≡ 0 → Called desk more (found_taken s count) moment ask reply u → Called desk more s moment ask reply u
called_then desk more s u count moment ask reply none c = record {
  added = record {
    table = c.added.table;
    opening = c.added.opening;
    lane = c.added.lane;
    upto = c.added.upto;
    between = c.added.between;
    last = c.added.last;
    begins = c.added.begins;
    legal = c.added.legal;
    ends = c.added.ends;
    mine = c.added.mine;
    own = c.added.own;
  };
  idle = c.idle;
  looked = c.looked;
  keeps = (c.keeps.0, λ kept. let k = c.keeps.1 kept in (k.0 ∙ ap (λ (n : ℕ). n + 1) (sym none), k.1));
}

-- a call at a seat that stayed as it was
pub called_same :
    {desk : TableId} {more : Bool} {s t u : Sitting} {moment : ℕ} {ask asked : Ask} {reply : Result Answer Errno}
    → t ≡ s → asked ≡ ask → Called desk more t moment asked reply u → Called desk more s moment ask reply u
called_same {desk} {more} {u = u} {moment = moment} {reply = reply} same is c =
    subst (λ (z : Sitting × Ask). Called desk more z.0 moment z.1 reply u) (λ i. (same i, is i)) c

-- and after such tries
pub called_after :
    {desk : TableId} {more : Bool} {s t u : Sitting} {moment : ℕ} {ask asked : Ask} {reply : Result Answer Errno}
    → s.kept ≡ 0 → t ≡ found_taken s t.part.found → asked ≡ ask → Called desk more t moment asked reply u
    → Called desk more s moment ask reply u
called_after {desk} {more} {s} {t} {u} {moment} {ask} {reply = reply} none same is c =
    called_then desk more s u t.part.found moment ask reply none (called_same same is c)
