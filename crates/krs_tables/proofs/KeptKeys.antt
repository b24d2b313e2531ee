-- A key as it is kept, and what the definitions see of it.
use Rattle.std.proofs.Common.{◌∙◌, ◌≡◌, ap, Err, false, None, Ok, Option, option_map, refl, Result, Some, sym, true, ℕ}
use Rattle.std.proofs.Common.{ℤ}
use Rattle.krs_types.specs.{Refusing.{◌>>=◌, or_refuse}, declared.context.Context.Context}
use Rattle.krs_types.specs.declared.errno.Errno.{Errno, TheVariants.{EACCES, EKEYEXPIRED, EKEYREVOKED, ENOKEY}}
use Rattle.krs_types.specs.declared.rights.Want.{Want}
use Rattle.krs_model.specs.Access.{is_over}
use Rattle.krs_model.specs.{Lookup.{if_usable, look_up, serial_of}, Possession.possessed, State.State, Table.at}
use Rattle.krs_model.proofs.Tables.Changes.{at_map}
use Rattle.krs_keys.specs.{Keys.seen, declared.key.Key.Key}
use Rattle.krs_tables.specs.{Granting.allows_held, View.state_of, declared.tables.Tables.TheInside.Inside}
use Rattle.krs_model.specs.State as state

-- a key that is kept is there
pub kept_there : (s : Inside) (t : State) (serial : ℕ) (key : Key) → state_of s ≡ t
    → at s.keys.keys serial ≡ Some key → at t.keys serial ≡ Some (seen key)
kept_there s t serial key is there =
    ap (λ (u : State). at u.keys serial) (sym is) ∙ (at_map seen s.keys.keys serial ∙ ap (option_map seen) there)

-- where none is kept there is none
pub kept_nowhere : (s : Inside) (t : State) (serial : ℕ) → state_of s ≡ t → at s.keys.keys serial ≡ None
    → at t.keys serial ≡ None
kept_nowhere s t serial is absent =
    ap (λ (u : State). at u.keys serial) (sym is) ∙ (at_map seen s.keys.keys serial ∙ ap (option_map seen) absent)

-- a key that an id names is looked up as far as its rights
pub looked_up : (t : State) (c : Context) (id : ℤ) (want : Want) (serial : ℕ) (key : state.Key)
    → serial_of t c id ≡ Ok serial → at t.keys serial ≡ Some key
    → look_up t c id want ≡ if_usable t c want serial key
unfolding look_up
looked_up t c id want serial key named there =
    ap (λ (r : Result ℕ Errno). do
      n ← r
      k ← or_refuse ENOKEY (at t.keys n)
      if_usable t c want n k) named
    ∙ ap (λ (o : Option state.Key). do
      k ← or_refuse ENOKEY o
      if_usable t c want serial k) there

-- where none is there it is refused
pub looked_for : (t : State) (c : Context) (id : ℤ) (want : Want) (serial : ℕ) → serial_of t c id ≡ Ok serial
    → at t.keys serial ≡ None → look_up t c id want ≡ Err ENOKEY
unfolding look_up
looked_for t c id want serial named absent =
    ap (λ (r : Result ℕ Errno). do
      n ← r
      k ← or_refuse ENOKEY (at t.keys n)
      if_usable t c want n k) named
    ∙ ap (λ (o : Option state.Key). do
      k ← or_refuse ENOKEY o
      if_usable t c want serial k) absent

pub revoked_usable : (t : State) (c : Context) (want : Want) (serial : ℕ) (key : state.Key) → key.revoked ≡ true
    → if_usable t c want serial key ≡ Err EKEYREVOKED
revoked_usable t c want serial key revoked = rw revoked refl

pub over_usable : (t : State) (c : Context) (want : Want) (serial : ℕ) (key : state.Key) → key.revoked ≡ false
    → is_over t.clock key.expiry ≡ true → if_usable t c want serial key ≡ Err EKEYEXPIRED
over_usable t c want serial key alive over = rw (alive, over) refl

pub granted_usable : (t : State) (c : Context) (want : Want) (serial : ℕ) (key : state.Key) → key.revoked ≡ false
    → is_over t.clock key.expiry ≡ false → allows_held want key c (possessed t c serial) ≡ true
    → if_usable t c want serial key ≡ Ok (serial, key)
granted_usable t c want serial key alive under granted = rw (alive, under, granted) refl

pub refused_usable : (t : State) (c : Context) (want : Want) (serial : ℕ) (key : state.Key) → key.revoked ≡ false
    → is_over t.clock key.expiry ≡ false → allows_held want key c (possessed t c serial) ≡ false
    → if_usable t c want serial key ≡ Err EACCES
refused_usable t c want serial key alive under refused = rw (alive, under, refused) refl
