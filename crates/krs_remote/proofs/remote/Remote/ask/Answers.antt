use Rattle.std.proofs.Common.{refl}
use Rattle.krs_remote.proofs.remote.Remote.ask.Goals as goal

pub returns-clause-ok : goal.returns-clause-ok
returns-clause-ok g c = record {
  exchanged = rw c.note.ensures.stays c.in_ok-reply.ensures.ok.exchanged;
  counted = rw (c.note.ensures.asked, c.in_ok-reply.ensures.ok.counted) refl;
  context =
      rw c.in_ok-reply.ensures.ok.context at (c.note.ensures.context c.args.op c.is_hello-names_context.ensures);
  refused = rw (c.note.ensures.refused, c.in_ok-reply.ensures.ok.refused) refl;
}
