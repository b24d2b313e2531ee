use Rattle.std.proofs.Common.{◌+◌, ◌-◌, ◌∙◌, ◌≡◌, ◌≤◌, ap, arith, drop, length, List, subst, sym, ℕ}
use Rattle.krs_wire.proofs.CutLemmas.{suffix}
use Rattle.krs_wire.proofs.asks.front_at.Goals as goal

pub returns-clause-part : goal.returns-clause-part
returns-clause-part c =
    let rest-is : c.split_at.result.1.now ≡ drop 4 c.args.bytes.now = c.split_at.ensures.back in
    let more-is : c.split_at-2.result.1.now ≡ drop c.read_u32-len.result (drop 4 c.args.bytes.now) =
    c.split_at-2.ensures.back ∙ ap (λ (x : List ℕ). drop c.read_u32-len.result x) rest-is in
    let fits : 4 + c.read_u32-len.result ≤ length c.args.bytes.now = omega arith in
    let P : List ℕ → Type 0 = λ x. x ≡ drop (length c.args.bytes.now - length x) c.args.bytes.now in
    subst P (sym more-is) (suffix 4 c.read_u32-len.result c.args.bytes.now fits)
