-- What a change of a key comes to in the definitions, and which links it leaves.
use Rattle.std.proofs.Common.{◌≡◌, List, Option, refl, ℕ}
use Rattle.krs_types.specs.declared.name.Name.{Name}
use Rattle.krs_model.specs.Table.{alter, Table}
use Rattle.krs_keys.specs.Changes.{changed, cleared_content, emptied, meant_change, paid_with}
use Rattle.krs_keys.specs.Keys.{AreFit, AreNamed, name_at, named_links_of_content, seen}
use Rattle.krs_keys.specs.declared.key.{Change.Change, Content.{Content, TheVariants.{Links, Payload}}, Key.Key}
use Rattle.krs_keys.proofs.LinkNames.{fit_alter}
use Rattle.krs_keys.specs.declared.key.Change.TheVariants as change

paid_seen : (payload : List ℕ) (key : Key) (content : Content)
    → seen (changed (change.Payload payload) (record key { content = content }))
    ≡ meant_change (change.Payload payload) (seen (record key { content = content }))
paid_seen payload key (Payload old) = refl
paid_seen payload key (Links links) = refl

ended_seen : (key : Key) (content : Content) → seen (changed change.Revoked (record key { content = content }))
    ≡ meant_change change.Revoked (seen (record key { content = content }))
ended_seen key (Payload old) = refl
ended_seen key (Links links) = refl

cleared_seen : (key : Key) (content : Content)
    → seen (changed change.Cleared (record key { content = content }))
    ≡ meant_change change.Cleared (seen (record key { content = content }))
cleared_seen key (Payload old) = refl
cleared_seen key (Links links) = refl

-- a change, as the definitions see it
pub seen-changed : (c : Change) (key : Key) → seen (changed c key) ≡ meant_change c (seen key)
seen-changed (change.Payload payload) key = paid_seen payload key key.content
seen-changed (change.Mask mask) key = refl
seen-changed (change.Owner uid gid) key = refl
seen-changed (change.Expiry expiry) key = refl
seen-changed change.Revoked key = ended_seen key key.content
seen-changed change.Cleared key = cleared_seen key key.content
seen-changed change.Closed key = refl

pub name-changed : (c : Change) (key : Key) → (changed c key).name ≡ key.name
name-changed (change.Payload payload) key = refl
name-changed (change.Mask mask) key = refl
name-changed (change.Owner uid gid) key = refl
name-changed (change.Expiry expiry) key = refl
name-changed change.Revoked key = refl
name-changed change.Cleared key = refl
name-changed change.Closed key = refl

paid_named : (names : ℕ → Option Name) (payload : List ℕ) (content : Content)
    → AreNamed names (named_links_of_content content)
    → AreNamed names (named_links_of_content (paid_with payload content))
paid_named names payload (Payload old) named = named
paid_named names payload (Links links) named = named

emptied_named : (names : ℕ → Option Name) (content : Content)
    → AreNamed names (named_links_of_content (emptied content))
emptied_named names (Payload old) = tt
emptied_named names (Links links) = tt

cleared_named : (names : ℕ → Option Name) (content : Content) → AreNamed names (named_links_of_content content)
    → AreNamed names (named_links_of_content (cleared_content content))
cleared_named names (Payload old) named = named
cleared_named names (Links links) named = tt

changed_named : (names : ℕ → Option Name) (c : Change) (key : Key) → AreNamed names (named_links_of_content key.content)
    → AreNamed names (named_links_of_content (changed c key).content)
changed_named names (change.Payload payload) key named = paid_named names payload key.content named
changed_named names (change.Mask mask) key named = named
changed_named names (change.Owner uid gid) key named = named
changed_named names (change.Expiry expiry) key named = named
changed_named names change.Revoked key named = emptied_named names key.content
changed_named names change.Cleared key named = cleared_named names key.content named
changed_named names change.Closed key named = named

-- links keep the names of their keys
pub fit_changed : (keys : Table Key) (k : ℕ) (c : Change) → AreFit keys → AreFit (alter keys k (changed c))
fit_changed keys k c fit =
    fit_alter keys k (changed c) (name-changed c) (λ v there. changed_named (name_at keys) c v (fit k v there)) fit
