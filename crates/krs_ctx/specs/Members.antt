-- Contexts by what they are of: a client, a process or a uid.
use Rattle.std.specs.Prelude.{◌&&◌, ◌==◌, ◌≡◌, Bool, cond, false, filter, List, map, nat_eq, None, Option, option_map}
use Rattle.std.specs.{Prelude.{Some, true, ℕ}, BTreeMap.is_at, List.list_any}
use Rattle.krs_types.specs.declared.context.Context.{Context}
use Rattle.krs_model.specs.{Queues.place_cmp, Table.{at, put, Table, without}}
use Rattle.krs_ctx.specs.declared.{listed.{Groups.Groups, Listed.Listed}, members.Members.Members}

-- the context of that number is listed under a group
abbrev pub lists : Members → ℕ → ℕ → Bool
lists members g n = list_any (is_at (place_cmp (g, n))) members.pairs.keys

-- what is listed under a group
abbrev pub pairs_of : Members → ℕ → List (ℕ × ℕ)
pairs_of members g = filter (λ e. e.0 == g) members.pairs.keys

-- those that were listed, and one more
abbrev pub Adds : Members → Members → ℕ → ℕ → Type 0
Adds old new g k = (h n : ℕ) → lists new h n ≡ cond (nat_eq g h && nat_eq k n) true (lists old h n)

-- those that were listed, but for one
abbrev pub Removes : Members → Members → ℕ → ℕ → Type 0
Removes old new g k = (h n : ℕ) → lists new h n ≡ cond (nat_eq g h && nat_eq k n) false (lists old h n)

-- a context of this group is listed under that one
abbrev pub is_group : ℕ → Option ℕ → Bool
is_group g None = false
is_group g (Some h) = nat_eq h g

-- just the contexts of a group are listed under it
abbrev pub AreMembers : (Context → ℕ) → Table Context → Members → Type 0
AreMembers group contexts members =
    (g n : ℕ) → lists members g n ≡ is_group g (option_map group (at contexts n))

-- what a context is of
abbrev pub groups_of : Context → Groups
groups_of c = record { client = c.client; process = c.process; uid = c.caller.uid }

-- just the contexts are listed, each under its client, its process and its uid
pub record AreListed (contexts : Table Context) (listed : Listed) : Type 0 where
  pub clients : AreMembers (λ c. c.client) contexts listed.clients
  pub processes : AreMembers (λ c. c.process) contexts listed.processes
  pub uids : AreMembers (λ c. c.caller.uid) contexts listed.uids

-- those that were listed, and a new context
abbrev pub ListsContext : ℕ → Groups → Listed → Listed → Type 0
ListsContext number groups old new =
    (contexts : Table Context) (c : Context) → groups_of c ≡ groups → at contexts number ≡ None
    → AreListed contexts old → AreListed (put contexts number c) new

-- those that were listed, without a context that was there
abbrev pub UnlistsContext : ℕ → Groups → Listed → Listed → Type 0
UnlistsContext number groups old new =
    (contexts : Table Context) (c : Context) → groups_of c ≡ groups → at contexts number ≡ Some c
    → at (without contexts number) number ≡ None → AreListed contexts old
    → AreListed (without contexts number) new

-- those that were listed, where no context has this number
abbrev pub KeepsListed : ℕ → Listed → Listed → Type 0
KeepsListed number old new =
    (contexts : Table Context) → at contexts number ≡ None → AreListed contexts old → AreListed contexts new

-- the contexts of a process: process-keyring(7)
abbrev pub contexts_in : ℕ → Table Context → Table Context
contexts_in process contexts = filter (λ e. e.1.process == process) contexts

-- contexts as they stand under a group: it, and the number of each
abbrev pub placed : ℕ → Table Context → List (ℕ × ℕ)
placed g contexts = map (λ e. (g, e.0)) contexts

-- a context of this number is there that does not pass
abbrev pub IsThereFailing : (ℕ × Context → Bool) → Table Context → ℕ → Type 0
IsThereFailing passes contexts number =
    (c : Context) × (at contexts number ≡ Some c) × (passes (number, c) ≡ false)
