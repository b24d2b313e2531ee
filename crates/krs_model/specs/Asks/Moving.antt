-- MOVE: a link out of one keyring and into another, in one step. keyctl(2), KEYCTL_MOVE; keyctl_move(3).
use Rattle.std.specs.Prelude.{◌&&◌, ◌==◌, Bool, if◌then◌else◌, is_some, List, nat_lt, Ok, Result, ℕ, ℤ}
use Rattle.krs_types.specs.Refusing.{◌>>=◌}
use Rattle.krs_types.specs.{Rights.{LINK, WRITE}, declared.{ask.Answer.TheVariants.Nothing, context.Context.Context}}
use Rattle.krs_types.specs.declared.{errno.Errno.{Errno, TheVariants.{EEXIST, EINVAL}}, rights.Want.TheVariants.Granted}
use Rattle.krs_model.specs.Asks.{Changing.changed, Linked.{if_linked, linked_into, name_of, unless, without_link}}
use Rattle.krs_model.specs.{Linking.{link_named, ring_links}, Lookup.{context_of, look_up}}
use Rattle.krs_model.specs.{Making.{made_for, within_serials}, Outcome.Outcome, State.{Key, State}}

-- From one keyring into another, which links the key as LINK does: its own link of equal type and description is
-- displaced, or refused with EEXIST where the move is exclusive: KEYCTL_MOVE, "EEXIST"; uapi linux/keyctl.h,
-- KEYCTL_MOVE_EXCL
abbrev pub moved_over : State → Bool → ℕ × Key → ℕ → ℕ × Key → List ℕ → Result State Errno
moved_over s exclusive found from into links = do
  free ← unless (exclusive && is_some (link_named s.keys (name_of found.1) links)) EEXIST
  new ← linked_into s into found
  Ok (changed new from (without_link found.0))

-- a key that the first keyring links goes into the second; where both are one, nothing changes: profile, moves in place
abbrev pub moved : State → Bool → ℕ × Key → ℕ × Key → ℕ × Key → Result State Errno
moved s exclusive found from into = do
  links ← ring_links from.1.content
  others ← ring_links into.1.content
  there ← if_linked found.0 links
  if from.0 == into.0 then Ok s else moved_over s exclusive found from.0 into others

-- into a keyring that grants WRITE
abbrev pub moved_to : State → Context → Bool → ℕ × Key → ℕ × Key → ℤ → Outcome
moved_to s c exclusive found from to = do
  into ← look_up s c to (Granted WRITE)
  new ← moved s exclusive found from into
  Ok (new, Nothing)

-- a key that grants LINK, from a keyring that grants WRITE into another, which is made where it is wanted: KEYCTL_MOVE.
-- The flags are 0, or 1 for an exclusive move: profile, flags of moves; what is looked up first: profile, order of a
-- move
unfoldable pub move_link : State → ℕ → ℕ → ℤ → ℤ → ℤ → ℕ → Outcome
move_link s client context key from to flags = do
  c ← context_of s client context
  known ← unless (nat_lt 1 flags) EINVAL
  found ← look_up s c key (Granted LINK)
  first ← look_up s c from (Granted WRITE)
  within_serials s
      (moved_to (made_for s context c to).0 (made_for s context c to).1 (flags == 1) found first to)
