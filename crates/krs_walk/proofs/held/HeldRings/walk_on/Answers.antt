use Rattle.std.proofs.Common.{◌+◌, ◌∙◌, ap}
use Rattle.krs_walk.specs.declared.held.HeldRings.{HeldRings}
use Rattle.krs_walk.proofs.HeldLemmas.{begun_held, next_held}
use Rattle.krs_walk.proofs.held.HeldRings.walk_on.Goals.{else-self-eq0+in_ok-self, then-self-eq0+in_ok-join_attached}
use Rattle.krs_walk.proofs.held.HeldRings.walk_on.Goals as goal

pub returns-clause-held : goal.returns-clause-held
returns-clause-held c =
    elim c.if-self-eq0.branch [
      | then-self-eq0+in_ok-join_attached w ↦ begun_held c.args.search.now c.args.self.now _
          c.requires.held w.if-self-eq0.true
          (ap (λ (h : HeldRings). h.levels + 1) w.self-is) (ap (λ (h : HeldRings). h.start) w.self-is)
          (ap (λ (h : HeldRings). h.seen) w.self-is ∙ w.in_ok-join_attached.ensures)
      | else-self-eq0+in_ok-self w ↦ next_held c.args.search.now c.args.self.now _ c.requires.held
          w.if-self-eq0.false c.requires.more
          (ap (λ (h : HeldRings). h.levels + 1) w.self-is) (ap (λ (h : HeldRings). h.start) w.self-is
          ∙ w.in_ok-self.ensures.place)
          (ap (λ (h : HeldRings). h.seen) w.self-is ∙ w.in_ok-self.ensures.joined)
    ]
