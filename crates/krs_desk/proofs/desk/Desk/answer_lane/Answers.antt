use Rattle.std.proofs.Common.{◌+◌, ◌∙◌, ◌∷◌, ap, refl, rules, sym}
use Rattle.atomic_table.specs.Table.{rest}
use Rattle.krs_desk.specs.Seated.{is_free, Me, opening, part}
use Rattle.krs_desk.specs.declared.slot.SlotValue.TheVariants.{Asked, Empty, Home}
use Rattle.krs_desk.proofs.Helps.{answered_is, answers_none, answers_one, emptied, lies_behind, read_is, replied}
use Rattle.krs_desk.proofs.{Helps.slot_is, Seats.front, Serves.{answers_at, grabs_at}}
use Rattle.krs_desk.proofs.desk.Desk.answer_lane.Goals as goal

pub compare_exchange-requires : goal.compare_exchange-requires
compare_exchange-requires c =
    (search rules, search rules, grabs_at _ _ _ c.args.lane c.args.token.now.me c.requires.held (search rules))

pub returns-then-compare_exchange-ne-POSTED-clause-looked : goal.returns-then-compare_exchange-ne-POSTED-clause-looked
returns-then-compare_exchange-ne-POSTED-clause-looked c =
    let m = c.args.token.now.me in
    let told = c.compare_exchange.ensures.2 in
    let t = (told c.args.lane refl).1 c.if-compare_exchange-ne-POSTED.true in
    answers_none m c.args.lane c.compare_exchange.result c.compare_exchange.new.seat.me c.requires.held t.0 t.1

pub exchange-requires : goal.exchange-requires
exchange-requires c =
    let m = c.args.token.now.me in
    let told = c.compare_exchange.ensures.2 in
    let t = (told c.args.lane refl).0 c.if-compare_exchange-ne-POSTED.false in
    (search rules, (Asked t.0 t.1, front (ap (λ k. k.1) t.2)))

pub unreachable-requires : goal.unreachable-requires
unreachable-requires c =
    let m = c.args.token.now.me in
    let told = c.compare_exchange.ensures.2 in
    let t = (told c.args.lane refl).0 c.if-compare_exchange-ne-POSTED.false in
    c.in_default.not-Asked t.0 t.1
    (slot_is c.compare_exchange.new.seat.me (Asked t.0 t.1) _ c.exchange.result m.1 (ap (λ k. k.1) t.2)
    c.exchange.ensures.2)

pub serve_behind-reply-requires-clause-behind : goal.serve_behind-reply-requires-clause-behind
serve_behind-reply-requires-clause-behind c =
    let m = c.args.token.now.me in
    let told = c.compare_exchange.ensures.2 in
    let t = (told c.args.lane refl).0 c.if-compare_exchange-ne-POSTED.false in
    let read =
    read_is (opening m) (part m) c.args.lane _ c.compare_exchange.new.seat.me c.exchange.result t.0
    c.in-Asked.moment t.1
    c.in-Asked.ask m.1 t.2 c.exchange.ensures.2 c.in-Asked.is in
    let h = c.requires.held in
    let w = c.exchange.new.seat.me in
    let bare =
    emptied m c.compare_exchange.new.seat.me w c.args.lane c.in-Asked.moment c.in-Asked.ask h read
    c.exchange.ensures.3 in
    ((c.args.lane + 1, Empty), h.last, lies_behind m w c.args.lane c.in-Asked.moment c.in-Asked.ask h bare)

pub serve_behind-reply-requires-clause-hand : goal.serve_behind-reply-requires-clause-hand
serve_behind-reply-requires-clause-hand c =
    let m = c.args.token.now.me in
    let told = c.compare_exchange.ensures.2 in
    let t = (told c.args.lane refl).0 c.if-compare_exchange-ne-POSTED.false in
    let read =
    read_is (opening m) (part m) c.args.lane _ c.compare_exchange.new.seat.me c.exchange.result t.0
    c.in-Asked.moment t.1
    c.in-Asked.ask m.1 t.2 c.exchange.ensures.2 c.in-Asked.is in
    let h = c.requires.held in
    let w = c.exchange.new.seat.me in
    let bare =
    emptied m c.compare_exchange.new.seat.me w c.args.lane c.in-Asked.moment c.in-Asked.ask h read
    c.exchange.ensures.3 in
    c.requires.hand ∙ sym (ap (λ (k : Me). is_free (part k).flight) bare)

pub exchange-requires-2 : goal.exchange-requires-2
exchange-requires-2 c =
    let m = c.args.token.now.me in
    let told = c.compare_exchange.ensures.2 in
    let t = (told c.args.lane refl).0 c.if-compare_exchange-ne-POSTED.false in
    let read =
    read_is (opening m) (part m) c.args.lane _ c.compare_exchange.new.seat.me c.exchange.result t.0
    c.in-Asked.moment t.1
    c.in-Asked.ask m.1 t.2 c.exchange.ensures.2 c.in-Asked.is in
    let h = c.requires.held in
    let w = c.exchange.new.seat.me in
    let bare =
    emptied m c.compare_exchange.new.seat.me w c.args.lane c.in-Asked.moment c.in-Asked.ask h read
    c.exchange.ensures.3 in
    let served = c.serve_behind-reply.ensures.served (c.args.lane + 1, Empty) h.last
    (lies_behind m w c.args.lane c.in-Asked.moment c.in-Asked.ask h bare) in
    (search rules, (Empty, front (ap (λ (k : Me). k.1) served.1)))

pub store-requires : goal.store-requires
store-requires c =
    let m = c.args.token.now.me in
    let told = c.compare_exchange.ensures.2 in
    let t = (told c.args.lane refl).0 c.if-compare_exchange-ne-POSTED.false in
    let read =
    read_is (opening m) (part m) c.args.lane _ c.compare_exchange.new.seat.me c.exchange.result t.0
    c.in-Asked.moment t.1
    c.in-Asked.ask m.1 t.2 c.exchange.ensures.2 c.in-Asked.is in
    let h = c.requires.held in
    let w = c.exchange.new.seat.me in
    let bare =
    emptied m c.compare_exchange.new.seat.me w c.args.lane c.in-Asked.moment c.in-Asked.ask h read
    c.exchange.ensures.3 in
    let served = c.serve_behind-reply.ensures.served (c.args.lane + 1, Empty) h.last
    (lies_behind m w c.args.lane c.in-Asked.moment c.in-Asked.ask h bare) in
    let laid =
    replied m w c.serve_behind-reply.new.token.me c.exchange-2.new.seat.me c.args.lane c.in-Asked.moment c.in-Asked.ask
    c.serve_behind-reply.result served.0 h bare served.1 c.exchange-2.ensures.3 in (
      search rules,
      search rules,
      answers_at _ (opening m) _ _ c.args.lane c.in-Asked.moment c.in-Asked.ask c.serve_behind-reply.result (part m)
          ((0, Home served.0) ∷ rest m.1) h.log h.last served.0 c.exchange-2.new.seat.me laid h.held h.legal served.2
          (search rules),
    )

pub returns-clause-looked : goal.returns-clause-looked
returns-clause-looked c =
    let m = c.args.token.now.me in
    let told = c.compare_exchange.ensures.2 in
    let t = (told c.args.lane refl).0 c.if-compare_exchange-ne-POSTED.false in
    let read =
    read_is (opening m) (part m) c.args.lane _ c.compare_exchange.new.seat.me c.exchange.result t.0
    c.in-Asked.moment t.1
    c.in-Asked.ask m.1 t.2 c.exchange.ensures.2 c.in-Asked.is in
    let h = c.requires.held in
    let w = c.exchange.new.seat.me in
    let bare =
    emptied m c.compare_exchange.new.seat.me w c.args.lane c.in-Asked.moment c.in-Asked.ask h read
    c.exchange.ensures.3 in
    let served = c.serve_behind-reply.ensures.served (c.args.lane + 1, Empty) h.last
    (lies_behind m w c.args.lane c.in-Asked.moment c.in-Asked.ask h bare) in
    let laid =
    replied m w c.serve_behind-reply.new.token.me c.exchange-2.new.seat.me c.args.lane c.in-Asked.moment c.in-Asked.ask
    c.serve_behind-reply.result served.0 h bare served.1 c.exchange-2.ensures.3 in
    answers_one m c.args.lane c.in-Asked.moment c.in-Asked.ask c.serve_behind-reply.result served.0 c.store.new.seat.me
    h (answered_is (opening m) 0 c.args.lane c.in-Asked.moment c.in-Asked.ask c.serve_behind-reply.result (part m)
    ((0, Home served.0) ∷ rest m.1) h.log c.exchange-2.new.seat.me c.store.new.seat.me laid h.held c.store.ensures.2)
    served.2
