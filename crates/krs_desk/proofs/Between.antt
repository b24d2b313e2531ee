-- Two moments at which the rule of the table holds.
use Rattle.std.proofs.Common.{[], ◌++◌, ◌∙◌, ◌∷◌, ◌≡◌, ◌≢◌, ap, append_assoc, arith, List, Option, slice_index, Some}
use Rattle.std.proofs.Common.{subst, sym, ℕ}
use Rattle.atomic_table.specs.Table.{Step}
use lib.ListN.{get_elem?}
use Rattle.krs_types.specs.declared.event.Event.{Event}
use Rattle.krs_model.specs.{History.IsLegal, Lists.Begins, Revocation.StaysUnread, State.State}
use Rattle.krs_world.specs.{Knowing.one, World.IsUnanswered, declared.view.{Cell.Cell, Part.Part}}
use Rattle.krs_world.proofs.Between.{collected_between, posted_between, real_time_between}
use Rattle.krs_world.proofs.Keeping.{prefix_more, prefix_self}
use Rattle.krs_desk.specs.Between.{KeepsCollectedBetween, KeepsPostedBetween, KeepsRealTimeBetween, RefusesRevoked}
use Rattle.krs_desk.specs.{Moves.{after, IsMadeAt, Move}, Parts.{cell_of, views_of}, Rule.CellIs}
use Rattle.krs_desk.specs.declared.{slot.SlotValue.SlotValue, word.TheConstants.{ANSWERED, TURN}}
use Rattle.krs_desk.proofs.{Seen.{legal_cut, not_read_revoked}, TurnSteps.view_at}
use Rattle.krs_desk.specs.Moves as move
use Rattle.krs_world.specs.declared.view.Cell.TheVariants as cells
use mathlib.Core.Option as maybe

-- the cell of a lane that has no call in flight isn't answered
pub idle_word :
    (word : ℕ) (slot : maybe.Option (maybe.Option SlotValue)) (c : Cell) → c ≡ cells.Empty → CellIs word slot c
    → word ≢ ANSWERED
idle_word word slot c empty is three =
    let zero_is : word ≡ 0 = subst (CellIs word slot) empty is in
    let three_is : word ≡ 3 = three in
    omega arith

-- a cell whose word isn't ANSWERED isn't answered
pub unanswered :
    (word : ℕ) (slot : maybe.Option (maybe.Option SlotValue)) (c : Cell) → word ≢ ANSWERED → CellIs word slot c
    → IsUnanswered c
unanswered word slot cells.Empty not is = tt
unanswered word slot (cells.Posted moment ask) not is = tt
unanswered word slot (cells.Serving moment ask) not is = tt
unanswered word slot (cells.Answered moment ask reply) not is = absurd (not is.0)

pub real_time : (a : State) → KeepsRealTimeBetween a
real_time a s s' front q q' e more r later shown at idle there lane mine =
    real_time_between a (slice_index s.words TURN) (slice_index s'.words TURN) r.home later.home r.cell later.cell
    (views_of s.views) (views_of s'.views) front at.0 there.0 q q' e more r.history later.history shown.0 shown.1
    (view_at s.views at.0 at.2) idle (view_at s'.views there.0 there.2) lane mine

pub collected : (a : State) → KeepsCollectedBetween a
collected a s s' front q q' e more r later shown at not there lane mine =
    collected_between a (slice_index s.words TURN) (slice_index s'.words TURN) r.home later.home r.cell later.cell
    (views_of s.views) (views_of s'.views) front at.0 there.0 q q' e more r.history later.history shown.0 shown.1
    (view_at s.views at.0 at.2)
    (unanswered (slice_index s.words (cell_of q.lane)) (get_elem? s.homes (cell_of q.lane)) (r.cell q.lane) not
    (r.cells q.lane)) (view_at s'.views there.0 there.2) lane mine

pub posted : (a : State) → KeepsPostedBetween a
posted a s s' front q q' m ask reply r later shown at not there lane mine answered =
    posted_between a (slice_index s.words TURN) (slice_index s'.words TURN) r.home later.home r.cell later.cell
    (views_of s.views) (views_of s'.views) front at.0 there.0 q q' m ask reply r.history later.history shown.0 shown.1
    (view_at s.views at.0 at.2)
    (unanswered (slice_index s.words (cell_of q.lane)) (get_elem? s.homes (cell_of q.lane)) (r.cell q.lane) not
    (r.cells q.lane)) (view_at s'.views there.0 there.2) lane mine answered

pub refuses_revoked : (a : State) → StaysUnread a → RefusesRevoked a
refuses_revoked a unread s s' front serial q q' e more r later shown revoked at not there lane mine =
    let t = (collected a s s' front q q' e more r later shown at not there lane mine).1 in
    let known = later.history.each there.0 (one a q') (view_at s'.views there.0 there.2) in
    let cut = legal_cut a later.history.last q'.seen known.seen.0
    (subst (λ (l : List Event). IsLegal a l later.history.last) (sym known.seen.1) later.history.legal) in
    let front_is : front ++ t.0 ≡ revoked.0 ++ revoked.1 ∷ (revoked.2 ++ t.0) =
    ap (λ l. l ++ t.0) revoked.4 ∙ append_assoc revoked.0 (revoked.1 ∷ revoked.2) t.0 in (
      front ++ t.0,
      t.1,
      t.2,
      t.3,
      λ late legal reads. not_read_revoked a cut.0 q'.seen unread cut.1 revoked.0 (revoked.2 ++ t.0) t.1 revoked.1 e
          revoked.3 late serial (t.2 ∙ ap (λ l. l ++ e ∷ t.1) front_is) revoked.5 revoked.6
          (subst (λ (l : List Event). IsLegal a l late) front_is legal) reads,
    )

-- what a lane had seen begins what it has seen after a step
pub seen_by : (made : Step SlotValue) (found : Option ℕ) (p : Part) (m : Move)
    → ((log : List Event) → p.holding ≡ Some log → Begins p.seen log) → IsMadeAt made found p m
    → Begins p.seen (after p m).seen
seen_by made found p move.stays held is = prefix_self p.seen
seen_by made found p (move.takes log) held is = prefix_self p.seen
seen_by made found p move.misses held is = prefix_self p.seen
seen_by made found p (move.puts_own log event) held is = prefix_more p.seen log (event ∷ []) (held log is.2)
seen_by made found p (move.puts_none log) held is = held log is.2
seen_by made found p (move.serves_own log event) held is = prefix_more p.seen log (event ∷ []) (held log is.1)
seen_by made found p (move.loads log) held is = is.1
seen_by made found p (move.posts moment ask) held is = prefix_self p.seen
seen_by made found p (move.finds other) held is = prefix_self p.seen
seen_by made found p (move.grabs other moment ask) held is = prefix_self p.seen
seen_by made found p (move.answers log event) held is = prefix_self p.seen
seen_by made found p (move.collects log event) held is = is.3
seen_by made found p (move.looks other finished) held is = prefix_self p.seen
