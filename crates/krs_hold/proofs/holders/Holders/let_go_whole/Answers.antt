use Rattle.std.proofs.Common.{◌∙◌, ◌≡◌, ap, replicate}
use Rattle.krs_model.specs.Table.{at}
use Rattle.krs_keys.specs.Hashed.{by_serial}
use Rattle.krs_hold.specs.{Chain.{Chained, holders_at}, Tally.{all_less, number_at}}
use Rattle.krs_hold.proofs.Numbers.{gone_all_chain, gone_all_numbers, number_seen}
use Rattle.krs_hold.proofs.holders.Holders.let_go_whole.Goals as goal

pub invariant_of-self : goal.invariant_of-self
invariant_of-self c =
    let es = by_serial c.self.inside.counts.entries in
    let t : Chained = record { counts = es; first = c.self.inside.first } in
    let done = c.let_go_whole-self-inside in
    let u : Chained = record { counts = by_serial done.new.counts.entries; first = done.result } in
    gone_all_chain (replicate (holders_at (at es c.number.result)) c.number.result) t u done.ensures c.self.invariant

pub returns : goal.returns
returns c =
    let es = by_serial c.self.inside.counts.entries in
    let t : Chained = record { counts = es; first = c.self.inside.first } in
    let done = c.let_go_whole-self-inside in
    let u : Chained = record { counts = by_serial done.new.counts.entries; first = done.result } in
    let numbers = c.args.self.now in
    let k = c.number.result in
    let all : holders_at (at es k) ≡ number_at numbers c.args.serial =
    number_seen es _ c.args.serial _ c.number.ensures c.self.view_is in
    gone_all_numbers (replicate (holders_at (at es k)) k) t u _ c.self.view_is done.ensures
    ∙ (ap (λ q. all_less (replicate (holders_at (at es k)) q) numbers) c.number.ensures
    ∙ ap (λ n. all_less (replicate n c.args.serial) numbers) all)
