use Rattle.krs_desk.proofs.Calls.{waits_posted}
use Rattle.krs_desk.proofs.desk.Desk.call_by_post.Goals as goal

-- what was waited for is the call that was posted
pub returns : goal.returns
returns g c = record {
  called = (rw c.in-Some.is at c.awaited.ensures) c.args.seat.now c.args.moment c.args.ask
      (waits_posted c.args.self.now c.args.seat.now c.post.new.seat c.args.moment c.args.ask c.post.ensures);
}
