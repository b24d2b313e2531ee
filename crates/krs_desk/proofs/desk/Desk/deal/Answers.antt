use Rattle.std.proofs.Common.{ap, false, refl, rules}
use Rattle.krs_world.specs.{Knowing.view, declared.view.Standing.TheVariants.Opening}
use Rattle.krs_desk.specs.Parts.{sight}
use Rattle.krs_desk.proofs.Dealing.{opens_at, picked_is, picks_at}
use Rattle.krs_desk.proofs.{Joining.{cuts_deal, cuts_of, given_is}, KeptTurns.placed, Seats.fresh_seated}
use Rattle.krs_desk.proofs.desk.Desk.deal.Goals as goal

pub split_seat-token-requires : goal.split_seat-token-requires
split_seat-token-requires c = (
  search rules,
  search rules,
  cuts_of _ _ _ (sight (view c.args.about.value (Opening c.loop-lane.lane)) false)
      (ap (λ m. m.0) c.loop-lane.invariant.opens) (cuts_deal _ _ _ _ _),
)

pub load-requires : goal.load-requires
load-requires c = (
  search rules,
  search rules,
  picks_at _ c.args.about.value _ _ c.loop-lane.lane c.split_seat-token.result.me
      (given_is _ _ _ _ c.loop-lane.invariant.opens c.split_seat-token.ensures.4) (search rules),
)

pub store-requires : goal.store-requires
store-requires c = (
  search rules,
  search rules,
  opens_at _ _ c.loop-lane.lane _ _ _ c.loop-lane.invariant.opens,
)

pub invariant_of-push_reserved : goal.invariant_of-push_reserved
invariant_of-push_reserved c = (
  placed refl (fresh_seated c.loop-lane.lane c.args.about.value c.load.new.seat.me c.requires.sound
      (picked_is c.args.about.value 0 c.loop-lane.lane 0 c.split_seat-token.result.me _
      (given_is _ _ _ _ c.loop-lane.invariant.opens c.split_seat-token.ensures.4) c.load.ensures.2)),
  search rules,
)
