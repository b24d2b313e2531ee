use Rattle.std.proofs.Common.{Bool, subst, sym}
use Rattle.krs_desk.specs.Helping.{Goes, round_of}
use Rattle.krs_desk.proofs.{Helps.starts, KeptTurns.none_free}
use Rattle.krs_desk.proofs.desk.Desk.answer_posted.Goals as goal

pub returns-then-not-posted-clause-gone : goal.returns-then-not-posted-clause-gone
returns-then-not-posted-clause-gone c = record {
  count = 0;
  goes = subst (λ (b : Bool). Goes c.args.token.now.me 0 (round_of c.args.self.now b) c.args.token.now.me)
      (sym c.if-not-posted.true) (starts c.args.token.now.me c.requires.held);
}

pub look_at_lanes-answered-requires-clause-hand : goal.look_at_lanes-answered-requires-clause-hand
look_at_lanes-answered-requires-clause-hand c = sym (none_free _ c.requires.idle)

pub returns-clause-gone : goal.returns-clause-gone
returns-clause-gone c = record {
  count = c.look_at_lanes-answered.result;
  goes = subst (λ (b : Bool). Goes c.args.token.now.me c.look_at_lanes-answered.result (round_of c.args.self.now b)
      c.look_at_lanes-answered.new.token.me) (sym c.if-not-posted.false) c.look_at_lanes-answered.ensures.gone;
}
