use Rattle.std.proofs.Common.{[], ◌+◌, ◌≡◌, ◌≤◌, All, vec_capacity, vec_len}
use Rattle.krs_model.specs.State.{starting_at}
use Rattle.krs_desk.specs.Sitting.{IsIdleAt}
use Rattle.krs_serve.specs.Visits.{IsNew}
use Rattle.krs_serve.proofs.connection.seated.Given as goal

-- the seats that are left are of the desk, and each of the others sits in the list
abbrev pub invariant-seats : goal.invariant-seats
invariant-seats g l = record {
  own : All (IsIdleAt g.N.AtDesk.desk) l.left.items;
  empty : All (λ s. s.opening ≡ starting_at 3) l.left.items;
  unasked : All IsNew l.left.items;
  here : l.desk ≡ g.N.AtDesk.desk;
  sat : All (λ s. s.seat.part.mine ≡ []) l.sittings.items;
  made : vec_len l.sittings ≡ l._turn;
  left : vec_len l.left + l._turn ≡ l.count;
  room : l.count ≤ vec_capacity l.sittings;
}
