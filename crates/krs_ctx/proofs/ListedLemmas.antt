-- What is listed after a context more, a context less and a change of contexts.
use Rattle.std.proofs.Common.{◌≡◌, arith, Err, false, is_err, None, Ok, OnOk, Result, Some, subst, sym, true≢false, ℕ}
use Rattle.krs_types.specs.declared.context.Context.{Context}
use Rattle.krs_model.specs.Table.{alter, at, map_values, put, Table, without}
use Rattle.krs_ctx.specs.{Members.{Adds, AreListed, groups_of, Removes}, declared.listed.{Groups.Groups, Listed.Listed}}
use Rattle.krs_ctx.proofs.MembersLemmas.{added, altered, mapped, removed}
use Rattle.std.proofs.lemmas.Grind.{common_steps}

-- what holds of what was accepted, where it was
pub accepted : {X E P : Type 0} (r : Result X E) → is_err r ≡ false → OnOk r P → P
accepted (Ok x) h p = p
accepted (Err e) h p = absurd (true≢false h)

-- a new context, under each of its groups
pub listed_more :
    (es : Table Context) (old new : Listed) (k : ℕ) (g : Groups) (v : Context) → groups_of v ≡ g → at es k ≡ None
    → Adds old.clients new.clients g.client k → Adds old.processes new.processes g.process k
    → Adds old.uids new.uids g.uid k → AreListed es old → AreListed (put es k v) new
listed_more es old new k g v is absent clients processes uids are = record {
  clients = added (λ x. x.client) es old.clients new.clients k v absent
      (subst (λ (h : Groups). Adds old.clients new.clients h.client k) (sym is) clients) are.clients;
  processes = added (λ x. x.process) es old.processes new.processes k v absent
      (subst (λ (h : Groups). Adds old.processes new.processes h.process k) (sym is) processes) are.processes;
  uids = added (λ x. x.caller.uid) es old.uids new.uids k v absent
      (subst (λ (h : Groups). Adds old.uids new.uids h.uid k) (sym is) uids) are.uids;
}

-- a context that ends, under none of its groups
pub listed_less :
    (es : Table Context) (old new : Listed) (k : ℕ) (g : Groups) (v : Context) → groups_of v ≡ g → at es k ≡ Some v
    → at (without es k) k ≡ None → Removes old.clients new.clients g.client k
    → Removes old.processes new.processes g.process k → Removes old.uids new.uids g.uid k → AreListed es old
    → AreListed (without es k) new
listed_less es old new k g v is there gone clients processes uids are = record {
  clients = removed (λ x. x.client) es old.clients new.clients k v there gone
      (subst (λ (h : Groups). Removes old.clients new.clients h.client k) (sym is) clients) are.clients;
  processes = removed (λ x. x.process) es old.processes new.processes k v there gone
      (subst (λ (h : Groups). Removes old.processes new.processes h.process k) (sym is) processes) are.processes;
  uids = removed (λ x. x.caller.uid) es old.uids new.uids k v there gone
      (subst (λ (h : Groups). Removes old.uids new.uids h.uid k) (sym is) uids) are.uids;
}

-- a change that leaves what a context is of
abbrev pub KeepsGroups : (Context → Context) → Type 0
KeepsGroups f = (c : Context) → groups_of (f c) ≡ groups_of c

pub listed_altered :
    (es : Table Context) (l : Listed) (k : ℕ) (f : Context → Context) → KeepsGroups f → AreListed es l
    → AreListed (alter es k f) l
listed_altered es l k f keeps are = grind (arith, common_steps, altered)

pub listed_mapped :
    (es : Table Context) (l : Listed) (f : Context → Context) → KeepsGroups f → AreListed es l
    → AreListed (map_values f es) l
listed_mapped es l f keeps are = grind (arith, common_steps, mapped)
