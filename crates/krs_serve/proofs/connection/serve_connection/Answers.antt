use Rattle.std.proofs.Common.{[], ◌++◌, ◌∙◌, ◌∷◌}
use mathlib.Core.Logic.{∥∥₁_map}
use Rattle.krs_serve.proofs.OneDeskLemmas.{not_none, visit_of, visited_next}
use Rattle.krs_serve.proofs.connection.serve_connection.Goals as goal

pub returns-clause-session : goal.returns-clause-session
returns-clause-session g c =
    let served = c.serve_entry-seat.ensures.session in
    let e = served.0 in
    rw c.sitting_of.ensures.seat (
      c.serve_entry-seat.result.1,
      e,
      served.1,
      served.2,
      served.3,
      c.a_session_is_its_asks_and_leave.ensures c.args.guest.sitting.seat c.serve_entry-seat.result.0
          c.args.guest.reader e.last.reader c.args.guest.writer e.last.writer c.args.clock e.last.clock _ _
          c.serve_entry-seat.result.1 e.session,
    )

-- the session leaves the store that the desk was opened with as it was
pub sitting_of-requires-clause-empty : goal.sitting_of-requires-clause-empty
sitting_of-requires-clause-empty g c =
    let e = c.serve_entry-seat.ensures.session.0 in
    let gained = c.a_session_is_its_asks_and_leave.ensures c.args.guest.sitting.seat c.serve_entry-seat.result.0
    c.args.guest.reader e.last.reader c.args.guest.writer e.last.writer c.args.clock e.last.clock _ _
    c.serve_entry-seat.result.1 e.session in
    gained.gains.opening ∙ c.args.guest.sitting.empty

-- and its calls are one connection's more
pub sitting_of-requires-clause-visited : goal.sitting_of-requires-clause-visited
sitting_of-requires-clause-visited g c =
    let e = c.serve_entry-seat.ensures.session.0 in
    let seat = c.args.guest.sitting.seat in
    let left = c.serve_entry-seat.result.0 in
    let gained = c.a_session_is_its_asks_and_leave.ensures seat left c.args.guest.reader e.last.reader
    c.args.guest.writer e.last.writer c.args.clock e.last.clock _ _ c.serve_entry-seat.result.1 e.session in
    ∥∥₁_map c.args.guest.sitting.visited (visited_next g.R.Source g.W.Sink 16777216 seat left
    (e.session.events ++ e.session.last ∷ []) gained.gains.lane gained.mine
    (visit_of g.R.Source g.W.Sink 16777216 g.C.Clock _ seat left c.serve_entry-seat.result.1 e))

-- which it has seen, and no others of its lane
pub sitting_of-requires-clause-just : goal.sitting_of-requires-clause-just
sitting_of-requires-clause-just g c =
    let e = c.serve_entry-seat.ensures.session.0 in
    let gained = c.a_session_is_its_asks_and_leave.ensures c.args.guest.sitting.seat c.serve_entry-seat.result.0
    c.args.guest.reader e.last.reader c.args.guest.writer e.last.writer c.args.clock e.last.clock _ _
    c.serve_entry-seat.result.1 e.session in
    gained.gains.own (not_none e.session.events e.session.last)

pub returns-clause-rested : goal.returns-clause-rested
returns-clause-rested g c = rw c.sitting_of.ensures.seat c.serve_entry-seat.ensures.rested
