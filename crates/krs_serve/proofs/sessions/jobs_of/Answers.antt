use Rattle.std.proofs.Common.{◌≡◌, arith, length, rules, vec_len}
use Rattle.krs_serve.proofs.SessionsLemmas.{pair_taken}
use Rattle.krs_serve.proofs.sessions.jobs_of.Goals as goal

pub places-preserved : goal.places-preserved
places-preserved g c =
    let same : length c.pop-in-places.new.self.items ≡ length c.pop.new.self.items =
    let rest : vec_len c.pop-in-places.new.self ≡ vec_len c.pop.new.self = search rules in
    omega (arith, rest, c.pop-in-places.new.self.ok.0, c.pop.new.self.ok.0) in (
      pair_taken c.places.entries.items c.pop.new.self.items c.places.free.items c.pop-in-places.new.self.items
          c.pop.result c.pop-in-places.result c.in-Some-Some.entry c.in-Some-Some.seat c.places.jobs.items
          c.push_reserved.new.self.items _ c.pop.ensures.items c.in-Some-Some.is-0 c.pop-in-places.ensures.items
          c.in-Some-Some.is-1 same c.push_reserved.ensures.items c.places.invariant.0,
      search rules,
      search rules,
      search rules,
      search rules,
    )
