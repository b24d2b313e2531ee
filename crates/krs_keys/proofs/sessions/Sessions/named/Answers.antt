use Rattle.std.proofs.Common.{◌+◌, ◌≡◌, All, filter, List, nat_eq, subst, sym, true, ℕ}
use Rattle.std.specs.{BTreeMap.Range.range_contains, List.list_any, declared.ops.Bound.TheVariants.{Excluded, Included}}
use Rattle.krs_model.specs.Queues.{place_cmp}
use Rattle.krs_keys.specs.Sessions.{lists}
use Rattle.krs_keys.proofs.SessionsLemmas.{alone, up_to_end, up_to_next}
use Rattle.krs_keys.proofs.sessions.Sessions.named.Goals as goal

-- the serial is among these
abbrev among : ℕ → List (ℕ × ℕ) → Type 0
among serial rings = list_any (λ e. nat_eq serial e.1) rings ≡ true

pub returns-in-Some-clause-all : goal.returns-in-Some-clause-all
returns-in-Some-clause-all c serial listed =
    let g = c.digest-digest.result in
    let keys = c.args.self.now.rings.keys in
    let here = subst (λ (d : ℕ). lists c.args.self.now d serial ≡ true) (sym c.digest-digest.ensures) listed in
    let next : c.in-Some.next ≡ g + 1 = c.in-Some.ensures.1 in
    subst (among serial) (sym (c.range.ensures.between tt))
    (subst (λ (n : ℕ). among serial (filter (range_contains place_cmp (Included (g, 0)) (Excluded (n, 0))) keys))
    (sym next) (up_to_next g serial keys here))

pub returns-in-None-clause-all : goal.returns-in-None-clause-all
returns-in-None-clause-all c serial listed =
    let here = subst (λ (d : ℕ). lists c.args.self.now d serial ≡ true) (sym c.digest-digest.ensures) listed in
    subst (among serial) (sym (c.range-in-None.ensures.between tt))
    (up_to_end c.digest-digest.result serial c.args.self.now.rings.keys here)

-- these are all of the digest
abbrev of : ℕ → List (ℕ × ℕ) → Type 0
of d rings = All (λ e. e.0 ≡ d) rings

pub returns-in-Some-clause-alone : goal.returns-in-Some-clause-alone
returns-in-Some-clause-alone c fits =
    let g = c.digest-digest.result in
    let keys = c.args.self.now.rings.keys in
    let next : c.in-Some.next ≡ g + 1 = c.in-Some.ensures.1 in
    subst (λ (d : ℕ). of d c.range.result) c.digest-digest.ensures
    (subst (of g) (sym (c.range.ensures.between tt))
    (subst (λ (n : ℕ). of g (filter (range_contains place_cmp (Included (g, 0)) (Excluded (n, 0))) keys))
    (sym next) (alone g keys)))
