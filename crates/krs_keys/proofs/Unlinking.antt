-- Keyrings without their links to one key.
use Rattle.std.proofs.Common.{[], ◌==◌, ◌∙◌, ◌∷◌, ◌≡◌, ap, cond, false, None, not, Option, option_map, refl, Some}
use Rattle.std.proofs.Common.{subst, sym, true, ℕ}
use Rattle.krs_types.specs.declared.name.Name.{Name}
use Rattle.krs_model.specs.{Asks.Linked.without_link, Table.{alter, at, map_values, Table}}
use Rattle.krs_model.proofs.Tables.Changes.{alter_map, at_map}
use Rattle.krs_links.specs.Links.{LinkList, unlinked_key}
use Rattle.krs_links.proofs.KeyLinks.{serial_named-unlinked_key, serials-unlinked_key}
use Rattle.krs_keys.specs.Keys.{AreFit, AreNamed, AreOfKind, IsOfKind, keyless_content, name_at, named_links_of_content}
use Rattle.krs_keys.specs.Keys.{seen, shown, without_key}
use Rattle.krs_keys.specs.declared.key.{Content.{Content, TheVariants.{Links, Payload}}, Key.Key}
use Rattle.krs_keys.proofs.{KindsLemmas.keyless_kind, LinkNames.{fit_alter, named_on}, TableLemmas.mapped_some}
use Rattle.krs_model.specs.State as model

seen_keyless :
    (serial : ℕ) (key : Key) (content : Content)
    → seen (record key { content = keyless_content serial content })
    ≡ without_link serial (seen (record key { content = content }))
seen_keyless serial key (Payload bytes) = refl
seen_keyless serial key (Links links) =
    ap (λ ss. record (seen key) { content = model.Links ss }) (serials-unlinked_key serial links)

-- a keyring without its links to a key, as the definitions see it
pub seen-without_key : (serial : ℕ) (key : Key) → seen (without_key serial key) ≡ without_link serial (seen key)
seen-without_key serial key = seen_keyless serial key key.content

-- one keyring without it, as the definitions see it
pub shown-keyless :
    (serial : ℕ) (keys : Table Key) (ring : ℕ)
    → shown (alter keys ring (without_key serial)) ≡ alter (shown keys) ring (without_link serial)
shown-keyless serial keys ring =
    alter_map seen keys ring (without_key serial) (without_link serial) (λ v there. seen-without_key serial v)

-- all keyrings without them, as the definitions see them
pub shown-without_key :
    (serial : ℕ) (keys : Table Key)
    → shown (map_values (without_key serial) keys) ≡ map_values (without_link serial) (shown keys)
shown-without_key serial [] = refl
shown-without_key serial (e ∷ es) =
    ap (λ (key : model.Key). (e.0, key) ∷ shown (map_values (without_key serial) es)) (seen-without_key serial e.1)
    ∙ ap (λ zs. (e.0, without_link serial (seen e.1)) ∷ zs) (shown-without_key serial es)

named-unlinked_key :
    (names : ℕ → Option Name) (serial : ℕ) (links : LinkList) → AreNamed names links
    → AreNamed names (unlinked_key links serial)
named-unlinked_key names serial [] named = tt
named-unlinked_key names serial (link ∷ links) named =
    let rest = named-unlinked_key names serial links named.1 in
    elim (link.1 == serial) as (λ b.
    AreNamed names (cond (not b) (link ∷ unlinked_key links serial) (unlinked_key links serial))) [
      | true ↦ rest
      | false ↦ (named.0, rest, serial_named-unlinked_key serial link.0 links named.2)
    ]

named_keyless :
    (names : ℕ → Option Name) (serial : ℕ) (content : Content) → AreNamed names (named_links_of_content content)
    → AreNamed names (named_links_of_content (keyless_content serial content))
named_keyless names serial (Payload bytes) named = named
named_keyless names serial (Links links) named = named-unlinked_key names serial links named

-- links keep the names of their keys, in one keyring without the link
pub fit-keyless :
    (serial : ℕ) (keys : Table Key) (ring : ℕ) → AreFit keys → AreFit (alter keys ring (without_key serial))
fit-keyless serial keys ring fit =
    fit_alter keys ring (without_key serial) (λ v. refl)
    (λ v there. named_keyless (name_at keys) serial v.content (fit ring v there)) fit

name_kept :
    (serial : ℕ) (o : Option Key)
    → option_map (λ (key : Key). key.name) (option_map (without_key serial) o)
    ≡ option_map (λ (key : Key). key.name) o
name_kept serial None = refl
name_kept serial (Some key) = refl

-- each key keeps its name
name-without_key :
    (serial : ℕ) (keys : Table Key) (k : ℕ) → name_at (map_values (without_key serial) keys) k ≡ name_at keys k
name-without_key serial keys k =
    ap (option_map (λ (key : Key). key.name)) (at_map (without_key serial) keys k) ∙ name_kept serial (at keys k)

-- the key of which that at a serial comes
came_from :
    (serial : ℕ) (keys : Table Key) (k : ℕ) (key : Key) → at (map_values (without_key serial) keys) k ≡ Some key
    → (v : Key) × (at keys k ≡ Some v) × (without_key serial v ≡ key)
came_from serial keys k key h =
    mapped_some (without_key serial) (at keys k) key (sym (at_map (without_key serial) keys k) ∙ h)

-- and in all keyrings without the key
pub fit-without_key :
    (serial : ℕ) (keys : Table Key) → AreFit keys → AreFit (map_values (without_key serial) keys)
fit-without_key serial keys fit q key h =
    let was = came_from serial keys q key h in
    let names = name_at keys in
    subst (λ (v : Key). AreNamed (name_at (map_values (without_key serial) keys))
    (named_links_of_content v.content)) was.2
    (named_on names (name_at (map_values (without_key serial) keys))
    (λ k name there. name-without_key serial keys k ∙ there)
    (named_links_of_content (keyless_content serial was.0.content))
    (named_keyless names serial was.0.content (fit q was.0 was.1)))

-- each key holds what keys of its type hold
pub kinds-without_key :
    (serial : ℕ) (keys : Table Key) → AreOfKind keys → AreOfKind (map_values (without_key serial) keys)
kinds-without_key serial keys kinds q key h =
    let was = came_from serial keys q key h in
    subst (λ (v : Key). IsOfKind v.name.kind v.content) was.2
    (keyless_kind serial was.0 (kinds q was.0 was.1))

-- the links that are left
pub links-keyless :
    (serial : ℕ) (content : Content)
    → named_links_of_content (keyless_content serial content) ≡ unlinked_key (named_links_of_content content) serial
links-keyless serial (Payload bytes) = refl
links-keyless serial (Links links) = refl
