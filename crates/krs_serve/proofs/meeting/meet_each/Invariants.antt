use Rattle.std.proofs.Common.{◌≡◌, deque_capacity, deque_len, map}
use Rattle.krs_serve.proofs.OneDeskLemmas.{MetSome}
use Rattle.krs_serve.proofs.meeting.meet_each.Given as goal

-- so many were met, and stand behind the others
abbrev pub invariant-others : goal.invariant-others
invariant-others g l = record {
  met : MetSome l.initial.first.seat (map (λ s. s.seat) l.initial.others.items) l._met l.first.seat
      (map (λ s. s.seat) l.others.items);
  count : deque_len l.others ≡ l.count;
  room : deque_capacity l.others ≡ deque_capacity l.initial.others;
}
