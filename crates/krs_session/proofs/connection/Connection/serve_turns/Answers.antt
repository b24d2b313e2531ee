use Rattle.std.proofs.Common.{◌∙◌, ap, arith, refl}
use Rattle.krs_wire.specs.Feeding.{fault_of}
use Rattle.krs_session.specs.Session.{Counts}
use Rattle.krs_session.proofs.JoinLemmas.{stays_on}
use Rattle.krs_session.proofs.PieceLemmas.{so_far_ends, so_far_more, so_far_none, turn_ends}
use Rattle.krs_session.proofs.connection.Connection.serve_turns.Goals as goal

pub loop-made-init : goal.loop-made-init
loop-made-init g c = record {
  state = so_far_none g.R.Source g.D.Keeper g.C.Clock g.W.Sink g.met.R.Source.joins g.met.D.Keeper.joins
      g.met.C.Clock.joins g.met.W.Sink.joins
      _ _ _ _ (g.met.R.Source.starts _) c.rest.ensures.led (g.met.C.Clock.starts _) (g.met.W.Sink.starts _)
      c.requires.empty;
  unfailed = ap fault_of c.requires.nothing;
  reads = omega arith;
  empties = refl;
  read_failures = refl;
  failures = refl;
  rested = c.rest.ensures.rested;
  stays = record {
    setting = refl;
    writer = refl;
    seat = refl;
    clock = refl;
    held = refl;
    ready = c.rest.ensures.ready;
    lane = c.rest.ensures.lane;
  };
}

pub returns-in-Some-clause-finished : goal.returns-in-Some-clause-finished
returns-in-Some-clause-finished g c =
    let i = c.loop-made.invariant in
    let e = c.in-Some.ensures in
    so_far_ends g.R.Source g.D.Keeper g.C.Clock g.W.Sink g.met.R.Source.joins g.met.D.Keeper.joins g.met.C.Clock.joins
    g.met.W.Sink.joins
    _ _ _ _ _ _ _ _ _ e.served.0 c.in-Some.ended i.unfailed i.state e.served.1 e.served.2
    (omega (arith, e.reads, i.reads)) i.stays.lane e.served.3

pub loop-made-preserved : goal.loop-made-preserved
loop-made-preserved g c =
    let i = c.loop-made.invariant in
    let e = c.in_default.ensures in
    record {
      state = so_far_more g.R.Source g.D.Keeper g.C.Clock g.W.Sink g.met.R.Source.joins g.met.D.Keeper.joins
          g.met.C.Clock.joins g.met.W.Sink.joins
          _ _ _ _ _ _ _ _ _ e.served.0 i.unfailed i.state e.served.1 e.served.2 i.stays.lane e.served.3;
      unfailed = e.served.3.served.1;
      reads = omega (arith, e.reads, i.reads);
      empties = ap (λ (n : Counts). n.empties) e.count ∙ i.empties;
      read_failures = ap (λ (n : Counts). n.failed_reads) e.count ∙ i.read_failures;
      failures = ap (λ (n : Counts). n.failed_writes) e.count ∙ i.failures;
      rested = e.rests.rested refl;
      stays = stays_on g.D.Keeper _ _ _ i.stays e.rests.stays;
    }

pub returns-in-Some-clause-count : goal.returns-in-Some-clause-count
returns-in-Some-clause-count g c =
    let i = c.loop-made.invariant in
    turn_ends _ _ _ _ c.in-Some.ended c.in-Some.ensures.count i.empties i.read_failures i.failures
