use Rattle.std.proofs.Common.{◌∙◌, ap, rules, sym}
use Rattle.krs_world.specs.Knowing.{loaded}
use Rattle.krs_desk.specs.{Parts.sat, Seated.{opening, part}}
use Rattle.krs_desk.proofs.Joining.{both_is, cuts_of, cuts_one, cuts_two, given_is, glues_at, kept_is, looked_is}
use Rattle.krs_desk.proofs.Joining.{looks_at, pair, settled_is, settles_at}
use Rattle.krs_desk.proofs.desk.Desk.look.Goals as goal

pub split_seat-other-requires : goal.split_seat-other-requires
split_seat-other-requires c =
    let n = c.args.second.now.me in (
      search rules,
      search rules,
      cuts_of _ _ _ (sat (opening n) (part n)) (ap (λ k. k.0) c.requires.rest.1.0)
          (cuts_one _ _ _ _ c.requires.rest.1.1),
    )

pub join_seat-requires : goal.join_seat-requires
join_seat-requires c =
    let m = c.args.first.now.me in
    let n = c.args.second.now.me in
    let other_is = given_is _ _ n c.split_seat-other.result.me c.requires.rest.1.0 c.split_seat-other.ensures.4 in (
      search rules,
      search rules,
      ap (λ k. k.1) other_is,
      search rules,
      glues_at _ (opening m) (opening n) (part m) (part n) _ _ _ m c.split_seat-other.result.me c.requires.rest.0.0
          other_is c.requires.rest.0.1 c.requires.rest.1.1,
      (
        (part m, ap (λ k. k.0.view.stands) c.requires.rest.0.0),
        (part n, ap (λ k. k.0.view.stands) other_is),
      ),
    )

pub load-requires : goal.load-requires
load-requires c =
    let m = c.args.first.now.me in
    let n = c.args.second.now.me in
    let other_is = given_is _ _ n c.split_seat-other.result.me c.requires.rest.1.0 c.split_seat-other.ensures.4 in
    let joined = both_is _ _ _ _ m c.split_seat-other.result.me c.join_seat.new.seat.me c.requires.rest.0.0 other_is
    c.join_seat.ensures.2 in
    (search rules, search rules, looks_at _ (opening m) (part m) (part n) _ _ _ c.join_seat.new.seat.me joined)

pub split_seat-back-requires : goal.split_seat-back-requires
split_seat-back-requires c =
    let m = c.args.first.now.me in
    let n = c.args.second.now.me in
    let other_is = given_is _ _ n c.split_seat-other.result.me c.requires.rest.1.0 c.split_seat-other.ensures.4 in
    let joined = both_is _ _ _ _ m c.split_seat-other.result.me c.join_seat.new.seat.me c.requires.rest.0.0 other_is
    c.join_seat.ensures.2 in
    let told =
    looked_is (opening m) (part m) (part n) _ 0 c.join_seat.new.seat.me c.load.new.seat.me joined c.load.ensures.2 in (
      search rules,
      search rules,
      cuts_of _ _ _ (pair (opening m) (loaded (part m) told.0) (loaded (part n) told.0)) (ap (λ k. k.0) told.2)
          (cuts_two _ _ _ _ _ _),
    )

pub settle_seat-requires : goal.settle_seat-requires
settle_seat-requires c =
    let m = c.args.first.now.me in
    let n = c.args.second.now.me in
    let other_is = given_is _ _ n c.split_seat-other.result.me c.requires.rest.1.0 c.split_seat-other.ensures.4 in
    let left_is = kept_is _ _ n c.split_seat-other.new.seat.me c.requires.rest.1.0 c.split_seat-other.ensures.2 in
    let joined = both_is _ _ _ _ m c.split_seat-other.result.me c.join_seat.new.seat.me c.requires.rest.0.0 other_is
    c.join_seat.ensures.2 in
    let told =
    looked_is (opening m) (part m) (part n) _ 0 c.join_seat.new.seat.me c.load.new.seat.me joined c.load.ensures.2 in
    let back_is = given_is _ _ c.load.new.seat.me c.split_seat-back.result.me told.2 c.split_seat-back.ensures.4 in (
      search rules,
      search rules,
      ap (λ k. k.1) back_is,
      search rules,
      settles_at _ (opening n) (opening m) (loaded (part n) told.0) _ _ _ c.split_seat-other.new.seat.me
          c.split_seat-back.result.me left_is back_is c.requires.rest.1.1,
      (
        ap (λ k. k.0.view.stands) left_is,
        (loaded (part n) told.0, ap (λ k. k.0.view.stands) back_is),
      ),
    )

pub returns-clause-seen : goal.returns-clause-seen
returns-clause-seen c =
    let m = c.args.first.now.me in
    let n = c.args.second.now.me in
    let other_is = given_is _ _ n c.split_seat-other.result.me c.requires.rest.1.0 c.split_seat-other.ensures.4 in
    let left_is = kept_is _ _ n c.split_seat-other.new.seat.me c.requires.rest.1.0 c.split_seat-other.ensures.2 in
    let joined = both_is _ _ _ _ m c.split_seat-other.result.me c.join_seat.new.seat.me c.requires.rest.0.0 other_is
    c.join_seat.ensures.2 in
    let told =
    looked_is (opening m) (part m) (part n) _ 0 c.join_seat.new.seat.me c.load.new.seat.me joined c.load.ensures.2 in
    let back_is = given_is _ _ c.load.new.seat.me c.split_seat-back.result.me told.2 c.split_seat-back.ensures.4 in
    let slots_m = ap (λ k. k.1) c.requires.rest.0.0 in
    let slots_n = ap (λ k. k.1) c.requires.rest.1.0 in
    record {
      log = told.0;
      last = told.1;
      first = kept_is _ _ c.load.new.seat.me c.split_seat-back.new.seat.me told.2 c.split_seat-back.ensures.2
          ∙ (λ i. (sat (opening m) (loaded (part m) told.0), (sym slots_m) i));
      second =
          settled_is _ _ _ _ c.split_seat-other.new.seat.me c.split_seat-back.result.me
          c.settle_seat.new.seat.me left_is
          back_is c.settle_seat.ensures.2 ∙ (λ i. (sat (opening m) (loaded (part n) told.0), (sym slots_n) i));
      founds = (told.3, told.4);
    }
