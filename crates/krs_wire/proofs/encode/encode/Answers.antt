use Rattle.std.proofs.Common.{◌≡◌, ◌≤◌, arith, length, rules}
use Rattle.krs_wire.specs.Encoding.{ask_frame, ask_text}
use Rattle.krs_wire.proofs.AskLemmas.{one_frame}
use Rattle.krs_wire.proofs.encode.encode.Goals as goal

pub returns-clause-cut : goal.returns-clause-cut
returns-clause-cut c =
    let is : c.put_ask.new.out.items ≡ ask_frame c.args.tag c.args.ask.now = search rules in
    let small : length (ask_text c.args.tag c.args.ask.now) ≤ 65536 = omega arith in
    one_frame c.put_ask.new.out.items c.args.tag c.args.ask.now
    (record {
      tagged = c.in_ok-put_ask.ensures.tagged;
      context = c.in_ok-put_ask.ensures.context;
      op = c.in_ok-put_ask.ensures.fits;
      size = small;
    }) is
