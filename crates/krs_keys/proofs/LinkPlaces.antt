-- A keyring without the link at the place of a key is the keyring without the key.
use Rattle.std.proofs.Common.{◌∙◌, ◌≡◌, ap, cond, eqb-true, false, IfNone, List, nat_eq, None, Option, option_map, refl}
use Rattle.std.proofs.Common.{slice_get, Some, subst, sym, true, ℕ}
use Rattle.krs_types.specs.declared.name.Name.{Name}
use Rattle.krs_links.specs.Links.{has_link, serials}
use Rattle.krs_keys.specs.Keys.{AreNamed, content_without_at, keyless_content, named_links_of_content}
use Rattle.krs_keys.specs.{Keys.{named_links_of_key, without_key, without_link_at}, Places.{held, IsChangedAt}}
use Rattle.krs_keys.specs.declared.key.{Content.{Content, TheVariants.{Links, Payload}}, Key.Key}
use Rattle.krs_keys.proofs.LinkNames.{others_stay, removed_at}

keyless_none :
    (serial : ℕ) (content : Content) → has_link serial (named_links_of_content content) ≡ false
    → keyless_content serial content ≡ content
keyless_none serial (Payload bytes) none = refl
keyless_none serial (Links links) none = ap Links (others_stay serial links none)

-- a keyring that doesn't link the key stays
pub without_none :
    (serial : ℕ) (o : Option Key) → has_link serial (named_links_of_key o) ≡ false
    → option_map (without_key serial) o ≡ o
without_none serial None none = refl
without_none serial (Some key) none =
    ap (λ content. Some (record key { content = content })) (keyless_none serial key.content none)

keyless_at :
    (names : ℕ → Option Name) (serial place : ℕ) (content : Content)
    → AreNamed names (named_links_of_content content)
    → slice_get (serials (named_links_of_content content)) place ≡ Some serial
    → content_without_at place content ≡ keyless_content serial content
keyless_at names serial place (Payload bytes) named here = refl
keyless_at names serial place (Links links) named here = ap Links (removed_at names serial links place named here)

-- one that links it there is without it
pub without_at :
    (names : ℕ → Option Name) (serial place : ℕ) (o : Option Key) → AreNamed names (named_links_of_key o)
    → slice_get (serials (named_links_of_key o)) place ≡ Some serial
    → option_map (without_link_at place) o ≡ option_map (without_key serial) o
without_at names serial place None named here = refl
without_at names serial place (Some key) named here =
    ap (λ content. Some (record key { content = content })) (keyless_at names serial place key.content named here)

-- a change that makes the same of what the place holds
pub changed_alike :
    (place : ℕ) (f g : Key → Key) (slots new : List (Option Key)) → IsChangedAt place f slots new
    → option_map f (held slots place) ≡ option_map g (held slots place) → IsChangedAt place g slots new
changed_alike place f g slots new changed alike p =
    changed p
    ∙ elim (nat_eq place p) as (λ b. nat_eq place p ≡ b
    → cond b (option_map f (held slots p)) (held slots p) ≡ cond b (option_map g (held slots p)) (held slots p)) [
      | true ↦ λ t. subst (λ (q : ℕ). option_map f (held slots q) ≡ option_map g (held slots q))
          (eqb-true place p t) alike
      | false ↦ λ t. refl
    ] refl

-- none, where it makes of what the place holds the same again
pub unchanged_at :
    (place : ℕ) (f : Key → Key) (slots : List (Option Key)) → option_map f (held slots place) ≡ held slots place
    → IsChangedAt place f slots slots
unchanged_at place f slots same p =
    elim (nat_eq place p) as (λ b. nat_eq place p ≡ b
    → held slots p ≡ cond b (option_map f (held slots p)) (held slots p)) [
      | true ↦ λ t. subst (λ (q : ℕ). held slots q ≡ option_map f (held slots q)) (eqb-true place p t) (sym same)
      | false ↦ λ t. refl
    ] refl

-- what follows where nothing was found
pub none_so : {X P Q : Type 0} (o : Option X) → (P → Q) → IfNone o P → IfNone o Q
none_so None so h = so h
none_so (Some x) so h = tt
