-- What one link more, or one less, comes to in the definitions.
use Rattle.std.proofs.Common.{[], ◌&&◌, ◌*◌, ◌==◌, ◌||◌, ◌∙◌, ◌∷◌, ◌≡◌, ap, cond, Err, false, length, List}
use Rattle.std.proofs.Common.{nat_le, None, Ok, Option, option_map, refl, Some, subst, suc, sym, true, ℕ}
use Rattle.std.proofs.lemmas.Option.{none-some, same_Some}
use Rattle.krs_types.specs.{Kind.same_kind, declared.errno.Errno.TheVariants.ENFILE}
use Rattle.krs_types.specs.declared.{kind.Kind.{Kind, TheVariants.Keyring}, name.Name.Name}
use Rattle.krs_model.specs.Asks.{Adding.IsKeyringAt, Linked.name_of, Reading.serial_bytes}
use Rattle.krs_model.specs.{Levels.is_in, Linking.{has_room, link_named, linking}, Reach.{is_ring, links_of_key_at}}
use Rattle.krs_model.specs.{Sweep.links_of_key, Table.{alter, at, Table}}
use Rattle.krs_model.proofs.Tables.Changes.{alter_map, at_map}
use Rattle.krs_links.specs.Links.{has_link, is_refused, LinkList, serial_named, serials}
use Rattle.krs_links.proofs.LinksLemmas.{length-bytes_of}
use Rattle.krs_keys.specs.Keys.{AreFit, AreNamed, AreOfKind, displaced_at, displaced_by, entered, IsOfKind, name_at}
use Rattle.krs_keys.specs.Keys.{named_links_of_content, named_links_of_key, named_links_of_key_at, seen, seen_content}
use Rattle.krs_keys.specs.Keys.{shown, with_entry}
use Rattle.krs_keys.specs.declared.key.{Content.{Content, TheVariants.{Links, Payload}}, Key.Key}
use Rattle.krs_keys.proofs.KeysLemmas.{found_named, seen-with_entry, serials-content}
use Rattle.krs_keys.proofs.LinkNames.{fit_alter, named_linked, ring_named}
use Rattle.krs_tables.specs.Linked.{displaced_in, name_in, room_in}
use Rattle.krs_tables.specs.{View.state_of, declared.tables.Tables.TheInside.Inside}
use Rattle.krs_model.specs.State as model

name_shown : (o : Option Key) (name : Name) → option_map name_of (option_map seen o) ≡ Some name
    → option_map (λ (k : Key). k.name) o ≡ Some name
name_shown None name h = h
name_shown (Some key) name h = h

-- the name of a key of the definitions is that of the key that is kept
pub name_kept : (s : Inside) (serial : ℕ) (name : Name) → name_in (state_of s) serial ≡ Some name
    → name_at s.keys.keys serial ≡ Some name
name_kept s serial name h =
    name_shown (at s.keys.keys serial) name (ap (option_map name_of) (sym (at_map seen s.keys.keys serial)) ∙ h)

is_shown : (o : Option Key) → links_of_key (option_map seen o) ≡ serials (named_links_of_key o)
is_shown None = refl
is_shown (Some key) = sym (serials-content key.content)

-- what is linked, by name and by serial
pub links_shown : (es : Table Key) (ring : ℕ) → links_of_key_at (shown es) ring
    ≡ serials (named_links_of_key_at es ring)
links_shown es ring = ap links_of_key (at_map seen es ring) ∙ is_shown (at es ring)

has_link-serials : (serial : ℕ) (links : LinkList) → has_link serial links ≡ is_in serial (serials links)
has_link-serials serial [] = refl
has_link-serials serial (link ∷ links) = ap (λ b. (link.1 == serial) || b) (has_link-serials serial links)

-- whether a keyring links a key, as the definitions see it
pub linked_told :
    (es : Table Key) (ring serial : ℕ) → has_link serial (named_links_of_key_at es ring)
    ≡ is_in serial (links_of_key_at (shown es) ring)
linked_told es ring serial =
    has_link-serials serial (named_links_of_key_at es ring) ∙ ap (is_in serial) (sym (links_shown es ring))

entry_named : (names : ℕ → Option Name) (name : Name) (n : ℕ) (content : Content) → names n ≡ Some name
    → AreNamed names (named_links_of_content content) → AreNamed names (named_links_of_content (entered name n content))
entry_named names name n (Payload bytes) there named = named
entry_named names name n (Links links) there named = named_linked names name n links there named

pub fit_linked : (es : Table Key) (ring serial : ℕ) (name : Name) → AreFit es → name_at es serial ≡ Some name
    → AreFit (alter es ring (with_entry name serial))
fit_linked es ring serial name fit there =
    fit_alter es ring (with_entry name serial) (λ v. refl) (λ v is.
    entry_named (name_at es) name serial v.content there (fit ring v is)) fit

-- the keyring with its link to a key
pub shown_linked : (es : Table Key) (ring serial : ℕ) (name : Name) → AreFit es
    → shown (alter es ring (with_entry name serial)) ≡ alter (shown es) ring (linking (shown es) name serial)
shown_linked es ring serial name fit =
    alter_map seen es ring (with_entry name serial) (linking (shown es) name serial)
    (λ v is. seen-with_entry es name serial v (fit ring v is))

length-serials : (links : LinkList) → length (serials links) ≡ length links
length-serials [] = refl
length-serials (link ∷ links) = ap (λ n. suc n) (length-serials links)

room_by : (links : LinkList) (name : Name) (o : Option ℕ) → serial_named links name ≡ o
    → has_room (serials links) o ≡ cond (is_refused links name) (Err ENFILE) (Ok (tt {0}))
room_by links name None h =
    rw (h, length-serials links) (elim (nat_le 65535 (length links)) as (λ b. cond b (Err ENFILE) (Ok (tt {0}))
    ≡ cond (b && true) (Err ENFILE) (Ok (tt {0}))) [
      | true ↦ refl
      | false ↦ refl
    ])
room_by links name (Some found) h =
    rw h (elim (nat_le 65535 (length links)) as (λ b. Ok (tt {0}) ≡ cond (b && false) (Err ENFILE) (Ok (tt {0}))) [
      | true ↦ refl
      | false ↦ refl
    ])

-- whether the keyring has room, by the names that the links have
pub room_told : (es : Table Key) (ring : ℕ) (name : Name) → AreFit es
    → room_in (shown es) ring name ≡ cond (is_refused (named_links_of_key_at es ring) name) (Err ENFILE) (Ok (tt {0}))
room_told es ring name fit =
    let links = named_links_of_key_at es ring in
    let same : links_of_key_at (shown es) ring ≡ serials links = links_shown es ring in
    ap (λ zs. has_room zs (link_named (shown es) name zs)) same
    ∙ (ap (has_room (serials links)) (found_named es name links (ring_named es ring fit))
    ∙ room_by links name (serial_named links name) refl)

displaced_named : (o : Option Key) (name : Name) → serial_named (named_links_of_key o) name ≡ displaced_by name o
displaced_named None name = refl
displaced_named (Some key) name = refl

-- what it would displace, by the names that the links have
pub displaced_told : (es : Table Key) (ring : ℕ) (name : Name) → AreFit es
    → displaced_in (shown es) ring name ≡ displaced_at es ring name
displaced_told es ring name fit =
    ap (link_named (shown es) name) (links_shown es ring)
    ∙ (found_named es name (named_links_of_key_at es ring) (ring_named es ring fit)
    ∙ displaced_named (at es ring) name)

keyring_content : (kind : Kind) (content : Content) (links : List ℕ) → IsOfKind kind content
    → seen_content content ≡ model.Links links → same_kind kind Keyring ≡ true
keyring_content kind (Payload bytes) links is h = absurd cc
keyring_content kind (Links own) links is h = is

keyring_of : (o : Option Key) (key : model.Key) (links : List ℕ)
    → ((own : Key) → o ≡ Some own → IsOfKind own.name.kind own.content) → option_map seen o ≡ Some key
    → key.content ≡ model.Links links → is_ring (option_map seen o) ≡ true
keyring_of None key links is h e = absurd (none-some key h)
keyring_of (Some own) key links is h e =
    keyring_content own.name.kind own.content links (is own refl)
    (ap (λ (k : model.Key). k.content) (same_Some (seen own) key h) ∙ e)

-- what holds links is of the type keyring
pub is_keyring : (s : Inside) (ring : ℕ) → AreOfKind s.keys.keys → IsKeyringAt (state_of s) ring
    → is_ring (at (shown s.keys.keys) ring) ≡ true
is_keyring s ring kinds keyring =
    let es = s.keys.keys in
    subst (λ (o : Option model.Key). is_ring o ≡ true) (sym (at_map seen es ring))
    (keyring_of (at es ring) keyring.0 keyring.2 (λ key there. kinds ring key there)
    (sym (at_map seen es ring) ∙ keyring.1) keyring.3)

-- four bytes each
pub length-serial_bytes : (xs : List ℕ) → length (serial_bytes xs) ≡ 4 * length xs
length-serial_bytes xs = length-bytes_of xs
