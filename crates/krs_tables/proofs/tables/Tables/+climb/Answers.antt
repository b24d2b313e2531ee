use Rattle.std.proofs.Common.{◌-◌, ◌∙◌, arith, refl, subst, sym, ℕ}
use Rattle.krs_tables.proofs.OutOfReach.{AreFound, found_more, IsFar, none_far, none_found, out_of_reach}
use Rattle.krs_tables.proofs.tables.Tables.+climb.Goals as goal

pub returns-then-depth-eq0 : goal.returns-then-depth-eq0
returns-then-depth-eq0 t c = λ _.
    none_far c.args.self.now c.args.context.now c.args.serial c.args.depth c.if-depth-eq0.true

pub linkers-init : goal.linkers-init
linkers-init t c =
    none_found c.args.self.now.keys (IsFar c.args.self.now c.args.context.now (c.args.depth - 1)) c.args.serial

pub linkers-preserved : goal.linkers-preserved
linkers-preserved t c =
    let s = c.args.self.now in
    let far = IsFar s c.args.context.now (c.args.depth - 1) in
    subst (λ (last : ℕ). AreFound s.keys far c.args.serial last c.saturating_add-found.result)
    (sym c.number-last.ensures)
    (found_more s.keys far c.args.serial c.linkers.last c.in-Some.ring c.linkers.found c.saturating_add-found.result
    c.in-Some.ensures.behind c.in-Some.ensures.links (c.in_ok-left-2.ensures refl) (omega arith) c.linkers.invariant)

pub returns : goal.returns
returns t c = λ some.
    out_of_reach c.args.self.now c.args.context.now c.args.serial c.args.depth c.linkers.last c.linkers.found
    c.if-depth-eq0.false (sym c.attaches.ensures ∙ c.if-attaches.false) c.linkers.invariant
    (c.has_no_other.ensures some)
