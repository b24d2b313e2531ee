-- Changes of a key as it is kept, and as the definitions see them.
use Rattle.std.specs.Prelude.{[], ◌∷◌, Bool, false, List, None, true, ℕ}
use Rattle.krs_model.specs.Asks.Linked.{cleared, closed_for_good}
use Rattle.krs_keys.specs.declared.key.{Change.Change, Content.{Content, TheVariants.{Links, Payload}}, Key.Key}
use Rattle.krs_keys.specs.declared.key.Change.TheVariants as change
use Rattle.krs_model.specs.Asks.Changing as meant
use Rattle.krs_model.specs.State as model

-- another payload in the place of the one that is there
abbrev pub paid_with : List ℕ → Content → Content
paid_with payload (Payload old) = Payload payload
paid_with payload (Links links) = Links links

abbrev pub emptied : Content → Content
emptied (Payload bytes) = Payload []
emptied (Links links) = Links []

abbrev pub cleared_content : Content → Content
cleared_content (Payload bytes) = Payload bytes
cleared_content (Links links) = Links []

-- the key after a change
abbrev pub changed : Change → Key → Key
changed (change.Payload payload) key = record key { content = paid_with payload key.content; expiry = None }
changed (change.Mask mask) key = record key { perm = mask }
changed (change.Owner uid gid) key = record key { uid = meant.or_left uid key.uid; gid = meant.or_left gid key.gid }
changed (change.Expiry expiry) key = record key { expiry = expiry }
changed change.Revoked key = record key { revoked = true; content = emptied key.content }
changed change.Cleared key = record key { content = cleared_content key.content }
changed change.Closed key = record key { closed = true }

-- whether a change is the end of a key
abbrev pub revokes : Change → Bool
revokes (change.Payload payload) = false
revokes (change.Mask mask) = false
revokes (change.Owner uid gid) = false
revokes (change.Expiry expiry) = false
revokes change.Revoked = true
revokes change.Cleared = false
revokes change.Closed = false

-- the change of the definitions
abbrev pub meant_change : Change → model.Key → model.Key
meant_change (change.Payload payload) = meant.updated payload
meant_change (change.Mask mask) = meant.with_perm mask
meant_change (change.Owner uid gid) = meant.with_owner uid gid
meant_change (change.Expiry expiry) = meant.with_expiry expiry
meant_change change.Revoked = meant.revoked
meant_change change.Cleared = cleared
meant_change change.Closed = closed_for_good

abbrev pub links_some : Content → Bool
links_some (Payload bytes) = false
links_some (Links []) = false
links_some (Links (link ∷ links)) = true
