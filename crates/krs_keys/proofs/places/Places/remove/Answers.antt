use Rattle.std.proofs.Common.{◌≡◌, arith, drop, length, List, subst, sym, take_at}
use Rattle.krs_keys.specs.{Hints.AreHints, declared.places.Hint.Hint}
use Rattle.krs_keys.proofs.HintsLemmas.{gone_right}
use Rattle.krs_keys.proofs.places.Places.remove.Goals as goal

pub invariant_of-self : goal.invariant_of-self
invariant_of-self c =
    let old = c.as_mut_slice.result.now in
    let new = c.forget.new.hints in
    let was = c.self.inside.index.entries in
    let entries = c.swap_remove-place.new.self.entries in
    let right : AreHints old was =
    subst (λ (hints : List Hint). AreHints hints was) (sym c.as_mut_slice.ensures.value) c.self.invariant in
    let long : length new ≡ c.self.inside.hints.len = omega (arith, c.forget.auto.hints, c.as_mut_slice.ensures.len) in
    subst (λ (hints : List Hint). AreHints hints entries)
    (sym (take_at new (drop (length new) c.self.inside.hints.items) c.self.inside.hints.len long))
    (gone_right old new was entries c.args.serial right c.swap_remove-place.ensures.updates.0 c.forget.ensures)
