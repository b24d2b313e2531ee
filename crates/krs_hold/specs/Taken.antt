-- What a change of a key lets go of: keyctl(2), KEYCTL_REVOKE and KEYCTL_CLEAR.
use Rattle.std.specs.Prelude.{[], List, None, Option, Some, ℕ}
use Rattle.krs_links.specs.Links.{serials}
use Rattle.krs_keys.specs.{Keys.named_links_of_content, declared.key.{Change.Change, Content.Content, Key.Key}}
use Rattle.krs_keys.specs.declared.key.Change.TheVariants as change

-- what a change takes out of a keyring: all its links, or none
abbrev pub taken_by : Change → Content → List ℕ
taken_by (change.Payload payload) content = []
taken_by (change.Mask mask) content = []
taken_by (change.Owner uid gid) content = []
taken_by (change.Expiry expiry) content = []
taken_by change.Revoked content = serials (named_links_of_content content)
taken_by change.Cleared content = serials (named_links_of_content content)
taken_by change.Closed content = []

abbrev pub taken_at : Change → Option Key → List ℕ
taken_at c None = []
taken_at c (Some key) = taken_by c key.content
