-- What a key table keeps of the nested keyrings is what the definitions see.
use Rattle.std.proofs.Common.{[], ◌∙◌, ◌∷◌, ◌≡◌, ap, arith, filter, None, Option, option_map, refl, Some}
use Rattle.std.proofs.{Common.{ℕ}, lemmas.Option.{none-some, same_Some}}
use Rattle.krs_types.specs.{Kind.same_kind, declared.{kind.Kind.TheVariants.Keyring, name.Name.Name}}
use Rattle.krs_model.specs.{Reach.{is_ring, nested_in}, Table.{at, Table}}
use Rattle.krs_model.proofs.Tables.Changes.{at_map}
use Rattle.krs_links.specs.Links.{LinkList, nested, serials}
use Rattle.krs_keys.specs.{Keys.{AreFit, AreNamed, name_at, named_links_of_content, seen, shown}, declared.key.Key.Key}
use Rattle.krs_keys.proofs.KeysLemmas.{serials-content}
use Rattle.krs_links.specs.Links as names
use Rattle.std.proofs.lemmas.Grind.{common_steps}

ring_named : (link : Name) (o : Option Key) → option_map (λ key. key.name) o ≡ Some link
    → is_ring (option_map seen o) ≡ names.is_ring link
ring_named link None h = absurd (none-some link h)
ring_named link (Some key) h = ap (λ (n : Name). same_kind n.kind Keyring) (same_Some key.name link h)

-- a link's name tells whether its key is a keyring
ring_at : (keys : Table Key) (link : Name) (serial : ℕ) → name_at keys serial ≡ Some link
    → is_ring (at (shown keys) serial) ≡ names.is_ring link
ring_at keys link serial h = ap is_ring (at_map seen keys serial) ∙ ring_named link (at keys serial) h

pub nested_serials : (keys : Table Key) (links : LinkList) → AreNamed (name_at keys) links
    → serials (nested links) ≡ filter (λ k. is_ring (at (shown keys) k)) (serials links)
nested_serials keys [] named = refl
nested_serials keys (link ∷ links) named = grind (arith, common_steps, ring_at, nested_serials keys links named.1)

-- the nested keyrings of a key that is there
pub rings_there : (keys : Table Key) (serial : ℕ) (key : Key) → AreFit keys → at keys serial ≡ Some key
    → serials (nested (named_links_of_content key.content)) ≡ nested_in (shown keys) serial
rings_there keys serial key fit there = grind (arith, common_steps, nested_serials, serials-content, at_map, option_map)

-- and of one that is not
pub no_rings_there : (keys : Table Key) (serial : ℕ) → at keys serial ≡ None → nested_in (shown keys) serial ≡ []
no_rings_there keys serial none = grind (arith, common_steps, at_map, option_map)
