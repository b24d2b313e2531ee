use Rattle.std.proofs.{Common.{◌≤◌, arith, decimal, length, length-append}, lemmas.Fmt.length-decimal-le}
use Rattle.krs_context_asks.proofs.greeting.uid_name.Goals as goal

pub new-requires-2 : goal.new-requires-2
new-requires-2 c =
    let digits : length (decimal c.args.uid) ≤ 10 =
    length-decimal-le 10 c.args.uid (omega arith) (omega arith) (omega arith) in
    rw (c.new.ensures, c.into_bytes.ensures.value, c.in_ok-desc.ensures.ok, length-append) (omega arith)
