use Rattle.std.proofs.{Common.{[], ◌∙◌, ◌≡◌, ap, rules}, lemmas.List.Elements.{All-pop, All-push}}
use Rattle.krs_model.specs.State.{starting_at}
use Rattle.krs_desk.specs.Sitting.{IsIdleAt, Sitting}
use Rattle.krs_serve.specs.Visits.{IsNew}
use Rattle.krs_serve.proofs.OneDeskLemmas.{just_none, visited_none}
use Rattle.krs_serve.proofs.connection.seated.Goals.{in-Some, in_default}
use Rattle.krs_serve.proofs.connection.seated.Goals as goal

pub sitting_of-requires-clause-own : goal.sitting_of-requires-clause-own
sitting_of-requires-clause-own g c =
    rw c.in-Some.is at (All-pop (IsIdleAt g.N.AtDesk.desk) _ _ c.pop.result c.pop.ensures.items c.seats.invariant.own).1

pub sitting_of-requires-clause-empty : goal.sitting_of-requires-clause-empty
sitting_of-requires-clause-empty g c =
    rw c.in-Some.is at
    (All-pop (λ (s : Sitting). s.opening ≡ starting_at 3) _ _ c.pop.result c.pop.ensures.items
    c.seats.invariant.empty).1

pub sitting_of-requires-clause-just : goal.sitting_of-requires-clause-just
sitting_of-requires-clause-just g c =
    just_none c.in-Some.seat (rw c.in-Some.is at (All-pop IsNew _ _ c.pop.result c.pop.ensures.items
    c.seats.invariant.unasked).1)

pub sitting_of-requires-clause-visited : goal.sitting_of-requires-clause-visited
sitting_of-requires-clause-visited g c =
    ∣ visited_none g.R.Source g.W.Sink 16777216 c.in-Some.seat (rw c.in-Some.is at (All-pop IsNew _ _ c.pop.result
    c.pop.ensures.items c.seats.invariant.unasked).1) ∣₁

pub seats-preserved : goal.seats-preserved
seats-preserved g c =
    let popped = c.pop.ensures.items in
    let before = c.seats.invariant in
    let whole = All-pop IsNew _ _ c.pop.result popped before.unasked in
    elim c.match-pop.branch [
      | in-Some w ↦ record {
        own = (All-pop (IsIdleAt g.N.AtDesk.desk) _ _ c.pop.result popped before.own).0;
        empty = (All-pop (λ (s : Sitting). s.opening ≡ starting_at 3) _ _ c.pop.result popped before.empty).0;
        unasked = whole.0;
        here = before.here;
        sat =
            let fresh = rw w.in-Some.is at whole.1 in
            rw (w.sittings-is, w.push_reserved.ensures.items)
            (All-push (λ (s : _). s.seat.part.mine ≡ []) _ w.sitting_of.result before.sat
            (ap (λ (s : Sitting). s.part.mine) w.sitting_of.ensures.seat ∙ fresh.0));
        made = search rules;
        left = search rules;
        room = search rules;
      }
      | in_default w ↦ record {
        own = (All-pop (IsIdleAt g.N.AtDesk.desk) _ _ c.pop.result popped before.own).0;
        empty = (All-pop (λ (s : Sitting). s.opening ≡ starting_at 3) _ _ c.pop.result popped before.empty).0;
        unasked = whole.0;
        here = before.here;
        sat = search rules;
        made = search rules;
        left = search rules;
        room = search rules;
      }
    ]
