use Rattle.krs_links.specs.Links.{serials}
use Rattle.krs_keys.specs.{Hashed.by_serial, Keys.named_links_of_content}
use Rattle.krs_hold.specs.Chain.{Chained}
use Rattle.krs_hold.proofs.Numbers.{gone_all_chain, gone_all_numbers}
use Rattle.krs_hold.proofs.holders.Holders.let_go_links.Goals as goal

pub invariant_of-self : goal.invariant_of-self
invariant_of-self c =
    let t : Chained = record { counts = by_serial c.self.inside.counts.entries; first = c.self.inside.first } in
    let done = c.let_go_links-self-inside in
    let u : Chained = record { counts = by_serial done.new.counts.entries; first = done.result } in
    gone_all_chain (serials (named_links_of_content c.args.content.now)) t u done.ensures c.self.invariant

pub returns : goal.returns
returns c =
    let t : Chained = record { counts = by_serial c.self.inside.counts.entries; first = c.self.inside.first } in
    let done = c.let_go_links-self-inside in
    let u : Chained = record { counts = by_serial done.new.counts.entries; first = done.result } in
    gone_all_numbers (serials (named_links_of_content c.args.content.now)) t u _ c.self.view_is done.ensures
