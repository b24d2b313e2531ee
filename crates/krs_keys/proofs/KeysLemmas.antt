-- What the store's own keys come to in the definitions.
use Rattle.std.proofs.Common.{[], ◌∙◌, ◌∷◌, ◌≡◌, ap, cond, false, find, None, Option, option_map, refl, Some, true, ℕ}
use Rattle.std.proofs.lemmas.Option.{none-some, same_Some}
use Rattle.krs_types.specs.{Name.same_name, declared.name.Name.Name}
use Rattle.krs_model.specs.Linking.{is_named, link_named, linking, with_link}
use Rattle.krs_model.specs.{Possession.links_of_content, Table.{at, Table}}
use Rattle.krs_model.proofs.Tables.Changes.{at_map}
use Rattle.krs_links.specs.Links.{link_put, LinkList, serial_named, serials}
use Rattle.krs_keys.specs.Keys.{AreFit, AreNamed, entered, FindsByName, name_at, named_links_of_content, seen}
use Rattle.krs_keys.specs.Keys.{seen_content, shown, with_entry}
use Rattle.krs_keys.specs.declared.key.{Content.{Content, TheVariants.{Links, Payload}}, Key.Key}
use Rattle.krs_model.specs.State as model

-- the serials that a key links
pub serials-content : (content : Content) → serials (named_links_of_content content)
    ≡ links_of_content (seen_content content)
serials-content (Payload bytes) = refl
serials-content (Links links) = refl

named_key : (name link : Name) (o : Option Key) → option_map (λ key. key.name) o ≡ Some link
    → is_named name (option_map seen o) ≡ same_name name link
named_key name link None h = absurd (none-some link h)
named_key name link (Some key) h = ap (same_name name) (same_Some key.name link h)

-- a link's name tells whether its key has a name
pub named_at : (keys : Table Key) (name link : Name) (serial : ℕ) → name_at keys serial ≡ Some link
    → is_named name (at (shown keys) serial) ≡ same_name name link
named_at keys name link serial h =
    ap (is_named name) (at_map seen keys serial) ∙ named_key name link (at keys serial) h

-- so links are found by name
pub found_named : (keys : Table Key) (name : Name) (links : LinkList) → AreNamed (name_at keys) links
    → link_named (shown keys) name (serials links) ≡ serial_named links name
found_named keys name [] named = refl
found_named keys name (link ∷ links) named =
    rw (named_at keys name link.0 link.1 named.0)
    (elim (same_name name link.0) as (λ b. cond b (Some link.1)
    (find (λ k. is_named name (at (shown keys) k)) (serials links))
    ≡ option_map (λ (l : Name × ℕ). l.1) (cond b (Some link) (find (λ (l : Name × ℕ). same_name name l.0) links))) [
      | true ↦ refl
      | false ↦ found_named keys name links named.1
    ])

-- and put in by name
pub linked_named : (keys : Table Key) (name : Name) (serial : ℕ) (links : LinkList) → AreNamed (name_at keys) links
    → serials (link_put links name serial) ≡ with_link (λ k. is_named name (at (shown keys) k)) (serials links) serial
linked_named keys name serial [] named = refl
linked_named keys name serial (link ∷ links) named =
    rw (named_at keys name link.0 link.1 named.0)
    (elim (same_name name link.0) as (λ b. serials
    (cond b ((name, serial) ∷ links) (link ∷ link_put links name serial))
    ≡ cond b (serial ∷ serials links)
    (link.1 ∷ with_link (λ k. is_named name (at (shown keys) k)) (serials links) serial)) [
      | true ↦ refl
      | false ↦ ap (λ zs. link.1 ∷ zs) (linked_named keys name serial links named.1)
    ])

linked_content : (keys : Table Key) (name : Name) (serial : ℕ) (key : Key) (content : Content)
    → AreNamed (name_at keys) (named_links_of_content content)
    → seen (record key { content = entered name serial content })
    ≡ linking (shown keys) name serial (seen (record key { content = content }))
linked_content keys name serial key (Payload bytes) named = refl
linked_content keys name serial key (Links links) named =
    ap (λ ss. record (seen key) { content = model.Links ss }) (linked_named keys name serial links named)

-- the keyring with its link, as the definitions see it
pub seen-with_entry : (keys : Table Key) (name : Name) (serial : ℕ) (key : Key)
    → AreNamed (name_at keys) (named_links_of_content key.content)
    → seen (with_entry name serial key) ≡ linking (shown keys) name serial (seen key)
seen-with_entry keys name serial key named = linked_content keys name serial key key.content named

pub finds_by_name : (keys : Table Key) (serial : ℕ) (key : Key) → AreFit keys → at keys serial ≡ Some key
    → FindsByName (shown keys) key
finds_by_name keys serial key fit there =
    λ name. found_named keys name (named_links_of_content key.content) (fit serial key there)
