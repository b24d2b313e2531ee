use Rattle.std.proofs.Common.{◌∙◌, ◌∷◌, ap, arith, map, slice_index_or, subst, sym}
use Rattle.std.proofs.lemmas.List.{length-map, Elements.All-map}
use Rattle.krs_model.specs.State.{State}
use Rattle.krs_desk.specs.Sitting.{Sitting}
use Rattle.krs_serve.specs.{OneDesk.HaveOneHistory, Visits.IsVisited}
use Rattle.krs_serve.proofs.OneDeskLemmas.{no_seats, serve_in_one_history, two_rounds}
use Rattle.krs_serve.proofs.meeting.meet_all.Goals as goal

pub returns-in_default-clause-met : goal.returns-in_default-clause-met
returns-in_default-clause-met g c =
    let none = length-map c.args.seats.items (λ s. s.seat) in
    let nobody = length-map c.from.result.items (λ s. s.seat) in
    no_seats (map (λ s. s.seat) c.args.seats.items) (map (λ s. s.seat) c.from.result.items)
    (omega (arith, none, c.in_default.ensures.cases.0, c.from-others.ensures.1, c.args.seats.ok.0))
    (omega (arith, nobody, c.in_default.ensures.cases.1, c.from.ensures.1, c.from.result.ok.0))

pub returns-in_default-clause-history : goal.returns-in_default-clause-history
returns-in_default-clause-history g c =
    serve_in_one_history g.R.Source g.W.Sink 16777216 _ _ (returns-in_default-clause-met g c)
    (All-map (λ (s : Sitting). ∥ IsVisited g.R.Source g.W.Sink 16777216 s ∥₁) _ c.from.result.items
    (λ k d lt. (slice_index_or c.from.result.items k d).visited))

pub returns-clause-met : goal.returns-clause-met
returns-clause-met g c =
    let seats = ap (λ l. map (λ s. s.seat) l) (sym c.from-others.ensures.0 ∙ c.in-Some.ensures.items) in
    let later = ap (λ l. map (λ s. s.seat) l) (c.from-2.ensures.0 ∙ c.push_front_reserved.ensures.items) in
    rw (seats, later) (subst
    (λ (a : State). HaveOneHistory a (c.in-Some.first.seat ∷ map (λ s. s.seat) c.pop_front.new.self.items)
    (c.meet_each-twice.result.seat ∷ map (λ s. s.seat) c.meet_each-twice.new.others.items)) c.in-Some.first.empty
    (two_rounds c.in-Some.first.seat c.meet_each-once.result.seat c.meet_each-twice.result.seat
    (map (λ s. s.seat) c.pop_front.new.self.items) (map (λ s. s.seat) c.meet_each-once.new.others.items)
    (map (λ s. s.seat) c.meet_each-twice.new.others.items) c.meet_each-once.ensures.met c.meet_each-twice.ensures.met))

pub returns-clause-history : goal.returns-clause-history
returns-clause-history g c =
    serve_in_one_history g.R.Source g.W.Sink 16777216 _ _ (returns-clause-met g c)
    (All-map (λ (s : Sitting). ∥ IsVisited g.R.Source g.W.Sink 16777216 s ∥₁) _ c.from-2.result.items
    (λ k d lt. (slice_index_or c.from-2.result.items k d).visited))

-- what the first has seen once it met the others is one history too
pub meet_each-twice-requires : goal.meet_each-twice-requires
meet_each-twice-requires g c = c.meet_each-once.ensures.met.history
