use Rattle.std.proofs.Common.{◌∙◌, ◌≡◌, ap, subst, sym, ℕ}
use Rattle.krs_model.specs.{Asks.Changing.changed, State.State, Sweep.roots, Table.{alter, Table}}
use Rattle.krs_model.proofs.Tables.Changes.{alter_map}
use Rattle.krs_keys.specs.Keys.{seen, shown}
use Rattle.krs_keys.proofs.{ChangesLemmas.{fit_changed, seen-changed}, KindsLemmas.{changed_kind, kinds_alter}}
use Rattle.krs_hold.specs.Tally.{AreExact}
use Rattle.krs_tables.specs.View.{state_of}
use Rattle.krs_tables.proofs.OwedHolders.{changed_tallied}
use Rattle.krs_keys.specs.Changes as keys
use Rattle.krs_tables.proofs.tables.Tables.change.Goals as goal

pub invariant_of-self : goal.invariant_of-self
invariant_of-self c =
    let es = c.self.inside.keys.keys in
    let k = c.args.serial in
    let x = c.args.change in
    let same : shown (alter es k (keys.changed x)) ≡ alter (shown es) k (keys.meant_change x) =
    alter_map seen es k (keys.changed x) (keys.meant_change x) (λ v there. seen-changed x v) in
    record {
      fit = rw c.set.ensures (fit_changed es k x c.self.invariant.fit);
      kinds = rw c.set.ensures (kinds_alter es k (keys.changed x) (changed_kind x) c.self.invariant.kinds);
      tallied = subst (λ (zs : Table ℕ). AreExact c.set.new.self.keys zs (roots (state_of c.self.inside)))
          (sym c.let_go_taken.ensures)
          (rw c.set.ensures (changed_tallied es (roots (state_of c.self.inside)) c.self.inside.holders k x
          c.self.invariant.tallied));
    }

pub returns : goal.returns
returns c =
    let es = c.self.inside.keys.keys in
    let k = c.args.serial in
    let x = c.args.change in
    let same : shown (alter es k (keys.changed x)) ≡ alter (shown es) k (keys.meant_change x) =
    alter_map seen es k (keys.changed x) (keys.meant_change x) (λ v there. seen-changed x v) in
    ap (λ zs. record (state_of c.self.inside) { keys = shown zs.keys; next_serial = zs.next }) c.set.ensures
    ∙ (ap (λ zs. record (state_of c.self.inside) { keys = zs }) same
    ∙ ap (λ (s : State). changed s k (keys.meant_change x)) c.self.view_is)
