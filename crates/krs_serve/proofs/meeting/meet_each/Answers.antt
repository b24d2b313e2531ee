use Rattle.std.proofs.{Common.{◌∙◌, ap, arith, map, refl, sym}, lemmas.List.{length-map, map-append}}
use Rattle.krs_serve.proofs.OneDeskLemmas.{met_all, met_next, met_none}
use Rattle.krs_serve.proofs.meeting.meet_each.Goals as goal

pub others-init : goal.others-init
others-init g c = record {
  met = met_none c.args.first.seat (map (λ s. s.seat) c.args.others.now.items) c.args.first.just c.requires;
  count = sym c.len-count.ensures;
  room = refl;
}

pub others-preserved : goal.others-preserved
others-preserved g c =
    let i = c.others.invariant in
    let f = c.others.first in
    let o = c.in-Some.other in
    let t = c.meet_two-again.result.0 in
    let n = c.meet_two-again.result.1 in
    let front = ap (λ l. map (λ s. s.seat) l) c.in-Some.ensures.items in
    let back = ap (λ l. map (λ s. s.seat) l) c.push_back_reserved.ensures.items
    ∙ map-append _ c.pop_front.new.self.items _ in
    let long = length-map c.args.others.now.items (λ s. s.seat) in
    record {
      met = met_next c.args.first.seat (map (λ s. s.seat) c.args.others.now.items) f.seat o.seat t.seat n.seat
          (map (λ s. s.seat) c.others.others.items) (map (λ s. s.seat) c.pop_front.new.self.items)
          (map (λ s. s.seat) c.push_back_reserved.new.self.items) c.others._met front back
          (omega (arith, long, c.others-test.true, c.len-count.ensures, c.args.others.now.ok)) f.own.1 o.own.1
          (t.own.0 ∙ sym f.own.0) (n.own.0 ∙ sym o.own.0) c.meet_two-again.ensures i.met;
      count = omega (arith, c.push_back_reserved.ensures.len, c.in-Some.ensures.len, i.count);
      room = c.push_back_reserved.ensures.capacity ∙ c.pop_front.ensures.capacity ∙ i.room;
    }

pub returns-clause-met : goal.returns-clause-met
returns-clause-met g c =
    let long = length-map c.args.others.now.items (λ s. s.seat) in
    met_all c.args.first.seat (map (λ s. s.seat) c.args.others.now.items) c.others.first.seat
    (map (λ s. s.seat) c.others.others.items) c.others._met
    (omega (arith, long, c.others-test.false, c.others.auto._met-end, c.len-count.ensures, c.args.others.now.ok))
    c.others.invariant.met
