use Rattle.std.proofs.Common.{◌+◌, ◌^◌, ◌∙◌, ◌≡◌, ◌≤◌, ap, arith, false, List, slice_get, Some, subst, sym, true}
use Rattle.krs_hold.specs.Told.{tells}
use Rattle.krs_hold.proofs.ToldKeys.{large, unlisted}
use Rattle.krs_model.specs.Queues.{Watch}
use Rattle.krs_watch.specs.Watched.{AreDue}
use Rattle.krs_watch.proofs.GoneLemmas.{due_later, due_past, first_due, from_key, none_due, none_told}
use Rattle.krs_watch.proofs.watches.first_gone.Goals as goal

pub returns-in_default-next-clause-none : goal.returns-in_default-next-clause-none
returns-in_default-next-clause-none g c =
    let has = g.K.KeySet.has c.args.keys.now in
    let told = c.args.told.now in
    let ws = c.args.watches.now.entries in
    let key = c.in-Some.key in
    let due : AreDue has (tells told) key ws =
    due_later has told c.looking.from key ws c.looking.invariant c.in-Some.ensures.first in
    none_due has (tells told) key ws due (sym (c.range.ensures.between tt) ∙ c.in_default-next.ensures.steps.0)

pub returns-then-not-has-clause-first : goal.returns-then-not-has-clause-first
returns-then-not-has-clause-first g c =
    let has = g.K.KeySet.has c.args.keys.now in
    let told = c.args.told.now in
    let ws = c.args.watches.now.entries in
    let key = c.in-Some.key in
    let due : AreDue has (tells told) key ws =
    due_later has told c.looking.from key ws c.looking.invariant c.in-Some.ensures.first in
    let w : Watch = (c.in-Some-next.place.now, c.in-Some-next.id.now) in
    let first : slice_get (from_key key ws) 0 ≡ Some w =
    ap (λ (vs : List Watch). slice_get vs 0) (sym (c.range.ensures.between tt) ∙ c.in-Some-next.ensures.steps) in
    let is : has w.0.0 ≡ c.has.result = ap has (sym c.new.ensures) ∙ sym c.has.ensures in
    let gone : has w.0.0 ≡ false = is ∙ c.if-not-has.true in
    first_due has (tells told) key ws w due first gone

pub returns-in_default-checked_add-clause-none : goal.returns-in_default-checked_add-clause-none
returns-in_default-checked_add-clause-none g c =
    let has = g.K.KeySet.has c.args.keys.now in
    let told = c.args.told.now in
    let ws = c.args.watches.now.entries in
    let key = c.in-Some.key in
    let due : AreDue has (tells told) key ws =
    due_later has told c.looking.from key ws c.looking.invariant c.in-Some.ensures.first in
    let w : Watch = (c.in-Some-next.place.now, c.in-Some-next.id.now) in
    let first : slice_get (from_key key ws) 0 ≡ Some w =
    ap (λ (vs : List Watch). slice_get vs 0) (sym (c.range.ensures.between tt) ∙ c.in-Some-next.ensures.steps) in
    let is : has w.0.0 ≡ c.has.result = ap has (sym c.new.ensures) ∙ sym c.has.ensures in
    let here : has w.0.0 ≡ true = is ∙ c.if-not-has.false in
    let past : AreDue has (tells told) (w.0.0 + 1) ws =
    due_past has (tells told) key ws w c.range.ensures.ordered due first here in
    none_told has (tells told) (w.0.0 + 1) ws past (λ k up.
    let more : 2 ^ 32 ≤ k = omega (arith, c.in_default-checked_add.ensures, up) in
    large told k more)

pub looking-preserved : goal.looking-preserved
looking-preserved g c =
    let has = g.K.KeySet.has c.args.keys.now in
    let told = c.args.told.now in
    let ws = c.args.watches.now.entries in
    let key = c.in-Some.key in
    let due : AreDue has (tells told) key ws =
    due_later has told c.looking.from key ws c.looking.invariant c.in-Some.ensures.first in
    let w : Watch = (c.in-Some-next.place.now, c.in-Some-next.id.now) in
    let first : slice_get (from_key key ws) 0 ≡ Some w =
    ap (λ (vs : List Watch). slice_get vs 0) (sym (c.range.ensures.between tt) ∙ c.in-Some-next.ensures.steps) in
    let is : has w.0.0 ≡ c.has.result = ap has (sym c.new.ensures) ∙ sym c.has.ensures in
    let here : has w.0.0 ≡ true = is ∙ c.if-not-has.false in
    let past : AreDue has (tells told) (w.0.0 + 1) ws =
    due_past has (tells told) key ws w c.range.ensures.ordered due first here in
    subst (λ n. AreDue has (tells told) n ws) (sym c.in-Some-checked_add.ensures.1) past

pub returns-clause-none : goal.returns-clause-none
returns-clause-none g c =
    none_told (g.K.KeySet.has c.args.keys.now) (tells c.args.told.now) c.looking.from c.args.watches.now.entries
    c.looking.invariant (λ k up. unlisted c.args.told.now k (c.in_default.ensures.none k up))

pub returns-clause-rises : goal.returns-clause-rises
returns-clause-rises g c = c.len.ensures.ordered
