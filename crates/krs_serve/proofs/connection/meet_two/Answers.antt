-- Both have seen more, and nothing else has changed.
use Rattle.std.proofs.Common.{◌∙◌, sym}
use mathlib.Core.Logic.{∥∥₁_map}
use Rattle.krs_serve.specs.OneDesk.{SeesMore}
use Rattle.krs_serve.proofs.OneDeskLemmas.{first_more, second_more, visited_on}
use Rattle.krs_serve.proofs.connection.meet_two.Goals as goal

pub sitting_of-one-requires-clause-own : goal.sitting_of-one-requires-clause-own
sitting_of-one-requires-clause-own g c =
    let more : SeesMore c.args.first.seat c.meet.new.first = first_more c.args.first.seat c.args.second.seat
    c.meet.new.first c.meet.new.second
    ((c.meet.ensures.table.0 ∙ c.args.first.here) ∙ sym c.args.first.own.0) c.meet.ensures.met in
    (c.meet.ensures.table.0 ∙ c.args.first.here, more.flight ∙ c.args.first.own.1)

pub sitting_of-one-requires-clause-empty : goal.sitting_of-one-requires-clause-empty
sitting_of-one-requires-clause-empty g c =
    let more : SeesMore c.args.first.seat c.meet.new.first = first_more c.args.first.seat c.args.second.seat
    c.meet.new.first c.meet.new.second
    ((c.meet.ensures.table.0 ∙ c.args.first.here) ∙ sym c.args.first.own.0) c.meet.ensures.met in
    more.opening ∙ c.args.first.empty

pub sitting_of-one-requires-clause-just : goal.sitting_of-one-requires-clause-just
sitting_of-one-requires-clause-just g c =
    let more : SeesMore c.args.first.seat c.meet.new.first = first_more c.args.first.seat c.args.second.seat
    c.meet.new.first c.meet.new.second
    ((c.meet.ensures.table.0 ∙ c.args.first.here) ∙ sym c.args.first.own.0) c.meet.ensures.met in
    c.meet.ensures.met.own.0 (more.flight ∙ c.args.first.own.1)

pub sitting_of-one-requires-clause-visited : goal.sitting_of-one-requires-clause-visited
sitting_of-one-requires-clause-visited g c =
    let more : SeesMore c.args.first.seat c.meet.new.first = first_more c.args.first.seat c.args.second.seat
    c.meet.new.first c.meet.new.second
    ((c.meet.ensures.table.0 ∙ c.args.first.here) ∙ sym c.args.first.own.0) c.meet.ensures.met in
    ∥∥₁_map c.args.first.visited (visited_on g.R.Source g.W.Sink 16777216 c.args.first.seat c.meet.new.first more)

pub sitting_of-two-requires-clause-own : goal.sitting_of-two-requires-clause-own
sitting_of-two-requires-clause-own g c =
    let more : SeesMore c.args.second.seat c.meet.new.second = second_more c.args.first.seat c.args.second.seat
    c.meet.new.first c.meet.new.second
    ((c.meet.ensures.table.1 ∙ c.args.first.here) ∙ sym c.args.second.own.0) c.meet.ensures.met in
    (c.meet.ensures.table.1 ∙ c.args.first.here, more.flight ∙ c.args.second.own.1)

pub sitting_of-two-requires-clause-empty : goal.sitting_of-two-requires-clause-empty
sitting_of-two-requires-clause-empty g c =
    let more : SeesMore c.args.second.seat c.meet.new.second = second_more c.args.first.seat c.args.second.seat
    c.meet.new.first c.meet.new.second
    ((c.meet.ensures.table.1 ∙ c.args.first.here) ∙ sym c.args.second.own.0) c.meet.ensures.met in
    more.opening ∙ c.args.second.empty

pub sitting_of-two-requires-clause-just : goal.sitting_of-two-requires-clause-just
sitting_of-two-requires-clause-just g c =
    let more : SeesMore c.args.second.seat c.meet.new.second = second_more c.args.first.seat c.args.second.seat
    c.meet.new.first c.meet.new.second
    ((c.meet.ensures.table.1 ∙ c.args.first.here) ∙ sym c.args.second.own.0) c.meet.ensures.met in
    c.meet.ensures.met.own.1 (more.flight ∙ c.args.second.own.1)

pub sitting_of-two-requires-clause-visited : goal.sitting_of-two-requires-clause-visited
sitting_of-two-requires-clause-visited g c =
    let more : SeesMore c.args.second.seat c.meet.new.second = second_more c.args.first.seat c.args.second.seat
    c.meet.new.first c.meet.new.second
    ((c.meet.ensures.table.1 ∙ c.args.first.here) ∙ sym c.args.second.own.0) c.meet.ensures.met in
    ∥∥₁_map c.args.second.visited (visited_on g.R.Source g.W.Sink 16777216 c.args.second.seat c.meet.new.second more)
