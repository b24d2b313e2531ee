-- What is proved of the keys of an accepted ask before the sweep: they change by right. How it comes about: nothing is
-- done, a key is put, what one holds is written, another part of it is changed.
use Rattle.std.proofs.Common.{ap, inl, inr, List, None, Ok, Option, option_map, refl, Some, subst, sym}
use Rattle.std.proofs.{Common.{true, ℕ, ℤ, ⊎_elim, ◌∙◌, ◌≡◌, ◌⊎◌}, lemmas.Option.{none-some, same_Some}}
use Rattle.krs_types.specs.declared.{ask.Op.Op, context.Context.Context, rights.Want.Want}
use Rattle.krs_types.specs.{declared.rights.Want.TheVariants.Granted, Rights.{LINK, WRITE}}
use Rattle.krs_model.specs.{Levels.is_in, Lookup.{context_of, look_up, serial_of}, Possession.links_of_content}
use Rattle.krs_model.specs.{Reach.links_of_key_at, Revocation.Names}
use Rattle.krs_model.specs.{State.{Content, Key, State}, Table.{alter, at, put, Table}, Usable.IsUsable}
use Rattle.krs_model.proofs.{Asks.Later.same_ok, Lookups.{Laws.look_up_usable, Serials.found_serial}}
use Rattle.krs_model.proofs.MadeKeyring.{Lookups.possessed_other, State.at_other}
use Rattle.krs_model.proofs.{MadeKeyring.State.{HasMade, HasMadeFor, MadeNone, MadeOne}, Sound.Changes.at_change}
use Rattle.krs_model.proofs.{Sound.Changes.{at_put, IsChanged, IsPut, LinksTo}, Tables.Each.mapped_is}
use Rattle.krs_laws.specs.Integrity.{HasRight, IsByRight, IsMadeBy, IsWritten, WritesAt, Written}
use Rattle.std.proofs.Common.{arith}
use Rattle.std.proofs.lemmas.Grind.{common_steps}

-- a key that may be linked, or that the ask made
abbrev pub LinkedByRight : State → ℕ → ℕ → ℕ → Type 0
LinkedByRight s client context k = (at s.keys k ≡ None) ⊎ HasRight s client context (Granted LINK) k

-- the keys that an ask leaves, before the sweep
pub record Rightly (s : State) (client context : ℕ) (op : Op) (keys : Table Key) : Type 0 where
  pub changed : (k : ℕ) (before after : Key) → at s.keys k ≡ Some before → at keys k ≡ Some after
      → IsByRight s client context op k before after
  pub made : (k : ℕ) (key : Key) → at s.keys k ≡ None → at keys k ≡ Some key → IsMadeBy s client context op key
  pub linked : (j k : ℕ) → is_in k (links_of_key_at keys j) ≡ true
      → (is_in k (links_of_key_at s.keys j) ≡ true) ⊎ LinkedByRight s client context k

-- a key as it was
pub unchanged :
    (s : State) (client context : ℕ) (op : Op) (k : ℕ) (key : Key) → IsByRight s client context op k key key
unchanged s client context op k key = grind (arith, common_steps)

pub rightly_same : (s : State) (client context : ℕ) (op : Op) → Rightly s client context op s.keys
rightly_same s client context op = grind (arith, common_steps, same_Some, unchanged, none-some)

-- a further key
pub rightly_put :
    (s : State) (client context : ℕ) (op : Op) (keys : Table Key) (n : ℕ) (v : Key) → at s.keys n ≡ None
    → IsMadeBy s client context op v
    → ((k : ℕ) → is_in k (links_of_content v.content) ≡ true → LinkedByRight s client context k)
    → Rightly s client context op keys → Rightly s client context op (put keys n v)
rightly_put s client context op keys n v none mine links was = record {
  changed = λ k before after there is.
      ⊎_elim (λ (r : IsPut keys n v k). absurd
      (none-some before (sym (ap (λ (z : ℕ). at s.keys z) r.0 ∙ none) ∙ there)))
      (λ e. was.changed k before after there (sym e ∙ is)) (at_put keys n k v);
  made = λ k key new is.
      ⊎_elim (λ (r : IsPut keys n v k).
      subst (IsMadeBy s client context op) (same_Some v key (sym r.1 ∙ is)) mine)
      (λ e. was.made k key new (sym e ∙ is)) (at_put keys n k v);
  linked = λ j k i.
      ⊎_elim (λ (r : IsPut keys n v j). inr (links k (subst (LinksTo k) r.1 i)))
      (λ e. was.linked j k (subst (LinksTo k) e i)) (at_put keys n j v);
}

links_mapped :
    (f : Key → Key) (P : ℕ → Type 0) (o : Option Key) (k : ℕ)
    → ((v : Key) → is_in k (links_of_content (f v).content) ≡ true
    → (is_in k (links_of_content v.content) ≡ true) ⊎ P k)
    → LinksTo k (option_map f o) → (LinksTo k o) ⊎ P k
links_mapped f P None k more i = inl i
links_mapped f P (Some v) k more i = more v i

-- a key is changed once more, by right
pub rightly_then :
    (s : State) (client context : ℕ) (op : Op) (keys : Table Key) (n : ℕ) (f : Key → Key)
    → ((before after : Key) → at s.keys n ≡ Some before → at keys n ≡ Some after
    → IsByRight s client context op n before after → IsByRight s client context op n before (f after))
    → ((key : Key) → at s.keys n ≡ None → at keys n ≡ Some key → IsMadeBy s client context op key
    → IsMadeBy s client context op (f key))
    → ((k : ℕ) (v : Key) → is_in k (links_of_content (f v).content) ≡ true
    → (is_in k (links_of_content v.content) ≡ true) ⊎ LinkedByRight s client context k)
    → Rightly s client context op keys → Rightly s client context op (alter keys n f)
rightly_then s client context op keys n f right mine links was = record {
  changed = λ k before after there is.
      ⊎_elim (λ (r : IsChanged keys n f k).
      let w = mapped_is f (at keys k) after (sym r.1 ∙ is) in
      let here = subst (λ (z : ℕ). at s.keys z ≡ Some before) r.0 there in
      let now = subst (λ (z : ℕ). at keys z ≡ Some w.0) r.0 w.1 in
      let once = subst (λ (z : ℕ). IsByRight s client context op z before w.0) r.0
      (was.changed k before w.0 there w.1) in
      subst (IsByRight s client context op k before) w.2
      (subst (λ (z : ℕ). IsByRight s client context op z before (f w.0)) (sym r.0) (right before w.0 here now once)))
      (λ e. was.changed k before after there (sym e ∙ is)) (at_change keys n k f);
  made = λ k key none is.
      ⊎_elim (λ (r : IsChanged keys n f k).
      let w = mapped_is f (at keys k) key (sym r.1 ∙ is) in
      subst (IsMadeBy s client context op) w.2
      (mine w.0 (subst (λ (z : ℕ). at s.keys z ≡ None) r.0 none) (subst (λ (z : ℕ). at keys z ≡ Some w.0) r.0 w.1)
      (was.made k w.0 none w.1)))
      (λ e. was.made k key none (sym e ∙ is)) (at_change keys n k f);
  linked = λ j k i.
      ⊎_elim (λ (r : IsChanged keys n f j).
      ⊎_elim (λ (there : LinksTo k (at keys j)). was.linked j k there) (λ new. inr new)
      (links_mapped f (LinkedByRight s client context) (at keys j) k (links k) (subst (LinksTo k) r.1 i)))
      (λ e. was.linked j k (subst (LinksTo k) e i)) (at_change keys n j f);
}

-- the key holds something else
abbrev pub holding : (Content → Content) → Key → Key
holding f key = record key { content = f key.content }

pub rewritten :
    (s : State) (client context : ℕ) (op : Op) (n : ℕ) (f : Content → Content) (before after : Key)
    → IsWritten s client context op n → IsByRight s client context op n before after
    → IsByRight s client context op n before (holding f after)
rewritten s client context op n f before after written right = record {
  kind = right.kind;
  desc = right.desc;
  joined = right.joined;
  content = Written written;
  uid = right.uid;
  gid = right.gid;
  perm = right.perm;
  expiry = right.expiry;
  revoked = right.revoked;
  closed = right.closed;
}

-- what a key holds is written
pub rightly_written :
    (s : State) (client context : ℕ) (op : Op) (keys : Table Key) (n : ℕ) (f : Content → Content)
    → ((before : Key) → at s.keys n ≡ Some before → IsWritten s client context op n)
    → ((k : ℕ) (v : Key) → is_in k (links_of_content (f v.content)) ≡ true
    → (is_in k (links_of_content v.content) ≡ true) ⊎ LinkedByRight s client context k)
    → Rightly s client context op keys → Rightly s client context op (alter keys n (holding f))
rightly_written s client context op keys n f written links was =
    rightly_then s client context op keys n (holding f)
    (λ before after there is right. rewritten s client context op n f before after (written before there) right)
    (λ key none is mine. record { caller = mine.caller; asks = mine.asks; own = mine.own; gid = mine.gid }) links was

-- a part of one key is changed
pub rightly_changed :
    (s : State) (client context : ℕ) (op : Op) (n : ℕ) (f : Key → Key)
    → ((v : Key) → at s.keys n ≡ Some v → IsByRight s client context op n v (f v))
    → ((j : ℕ) (v : Key) → is_in j (links_of_content (f v).content) ≡ true
    → is_in j (links_of_content v.content) ≡ true)
    → Rightly s client context op (alter s.keys n f)
rightly_changed s client context op n f right less =
    rightly_then s client context op s.keys n f
    (λ before after was is _. subst (λ (z : Key). IsByRight s client context op n before (f z))
    (same_Some before after (sym was ∙ is)) (right before was))
    (λ key none is _. absurd (none-some key (sym none ∙ is))) (λ k v i. inl (less k v i))
    (rightly_same s client context op)

-- ---- what is looked up where a keyring counts as made
-- a key that was there grants what it granted
usable_was :
    (s t : State) (c d : Context) (desc before after : List ℕ) (want : Want) (found : ℕ × Key) (was : Key)
    → HasMade s c t d desc before after → at s.keys s.next_serial ≡ None → at s.keys found.0 ≡ Some was
    → IsUsable t d want found → IsUsable s c want found
usable_was s t c d desc before after want found was has none there u =
    grind (arith, common_steps, none-some, possessed_other, at_other)

made_usable :
    (s : State) (c : Context) (id : ℤ) (made : State × Context) (want : Want) (found : ℕ × Key) (was : Key)
    → HasMadeFor s c id made → at s.keys s.next_serial ≡ None → at s.keys found.0 ≡ Some was
    → IsUsable made.0 made.1 want found → IsUsable s c want found
made_usable s c id _ want found was MadeNone none there u = u
made_usable s c id _ want found was (MadeOne t d desc before after has is) none there u =
    usable_was s t c d desc before after want found was has none there u

-- what is found there, where it was there before, the context had the right to
pub right_made :
    (s : State) (client context : ℕ) (c : Context) (id : ℤ) (made : State × Context) (want : Want) (found : ℕ × Key)
    (was : Key) → context_of s client context ≡ Ok c → HasMadeFor s c id made → at s.keys s.next_serial ≡ None
    → at s.keys found.0 ≡ Some was → IsUsable made.0 made.1 want found → HasRight s client context want found.0
right_made s client context c id made want found was own has none there u = record {
  whose = c;
  own = own;
  key = found.1;
  usable = made_usable s c id made want found was has none there u;
}

abbrev pub right_found :
    (s : State) (client context : ℕ) (c : Context) (id : ℤ) (want : Want) (found : ℕ × Key)
    → context_of s client context ≡ Ok c → look_up s c id want ≡ Ok found → HasRight s client context want found.0
right_found s client context c id want found own is = record {
  whose = c;
  own = own;
  key = found.1;
  usable = look_up_usable s c id want found is;
}

-- and an id that names it there named it before
named_made :
    (s : State) (client context : ℕ) (c : Context) (id : ℤ) (made : State × Context) (n : ℕ) (was : Key)
    → context_of s client context ≡ Ok c → HasMadeFor s c id made → at s.keys s.next_serial ≡ None
    → at s.keys n ≡ Some was → serial_of made.0 made.1 id ≡ Ok n → Names s client context id n
named_made s client context c id _ n was own MadeNone none there is = record { whose = c; own = own; named = is }
named_made s client context c id _ n was own (MadeOne t d desc before after has new) none there is =
    absurd (none-some was (sym none ∙ ap (λ (z : ℕ). at s.keys z) (same_ok (serial_of t d id) s.next_serial n new is)
    ∙ there))

-- so the ask writes it by right
pub written_made :
    (s : State) (client context : ℕ) (op : Op) (c : Context) (id : ℤ) (made : State × Context) (found : ℕ × Key)
    (was : Key) → context_of s client context ≡ Ok c → HasMadeFor s c id made → at s.keys s.next_serial ≡ None
    → WritesAt op id → look_up made.0 made.1 id (Granted WRITE) ≡ Ok found → at s.keys found.0 ≡ Some was
    → IsWritten s client context op found.0
written_made s client context op c id made found was own has none writes is there = record {
  right = right_made s client context c id made (Granted WRITE) found was own has none there
      (look_up_usable made.0 made.1 id (Granted WRITE) found is);
  id = id;
  writes = writes;
  named = found.0;
  names = named_made s client context c id made found.0 was own has none there
      (found_serial made.0 made.1 id (Granted WRITE) found is);
  is = inl refl;
}

pub names_found :
    (s : State) (client context : ℕ) (c : Context) (id : ℤ) (want : Want) (found : ℕ × Key)
    → context_of s client context ≡ Ok c → look_up s c id want ≡ Ok found → Names s client context id found.0
names_found s client context c id want found own is = record {
  whose = c;
  own = own;
  named = found_serial s c id want found is;
}

pub written_found :
    (s : State) (client context : ℕ) (op : Op) (c : Context) (id : ℤ) (found : ℕ × Key)
    → context_of s client context ≡ Ok c → WritesAt op id → look_up s c id (Granted WRITE) ≡ Ok found
    → IsWritten s client context op found.0
written_found s client context op c id found own writes is = record {
  right = right_found s client context c id (Granted WRITE) found own is;
  id = id;
  writes = writes;
  named = found.0;
  names = names_found s client context c id (Granted WRITE) found own is;
  is = inl refl;
}

-- what may be linked there may be linked, or is the keyring that was made
pub linkable_made :
    (s : State) (client context : ℕ) (c : Context) (id : ℤ) (made : State × Context) (found : ℕ × Key)
    → context_of s client context ≡ Ok c → HasMadeFor s c id made → at s.keys s.next_serial ≡ None
    → IsUsable made.0 made.1 (Granted LINK) found → LinkedByRight s client context found.0
linkable_made s client context c id made found own has none usable =
    elim (at s.keys found.0) as (λ o. at s.keys found.0 ≡ o → LinkedByRight s client context found.0) [
      | None ↦ λ e. inl e
      | Some was ↦ λ e. inr (right_made s client context c id made (Granted LINK) found was own has none e usable)
    ] refl
