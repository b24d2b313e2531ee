-- Each key holds what keys of its type hold.
use Rattle.std.proofs.Common.{⊎_elim, ◌∙◌, ◌≡◌, ap, Bool, filter, List, None, Option, option_map, refl, Some, subst}
use Rattle.std.proofs.{Common.{sym, true, true≢false, ℕ}, lemmas.Option.{none-some, same_Some}}
use Rattle.krs_types.specs.{Kind.same_kind, declared.{kind.Kind.{Kind, TheVariants.Keyring}, name.Name.Name}}
use Rattle.krs_model.specs.{Levels.is_in, Possession.links_of_content, Reach.is_ring, Sweep.links_of_key}
use Rattle.krs_model.specs.Table.{alter, at, put, Table, without}
use Rattle.krs_model.proofs.Tables.Changes.{at_alter_other, at_alter_same, at_kept, at_map, at_or_apart, at_put_other}
use Rattle.krs_model.proofs.Tables.Changes.{at_put_same, at_without_other}
use Rattle.krs_keys.specs.{Changes.{changed, cleared_content, emptied, paid_with}, Keys.{AreOfKind, entered, IsOfKind}}
use Rattle.krs_keys.specs.Keys.{keyless_content, OnlyRingsLink, seen, seen_content, shown, with_entry, without_key}
use Rattle.krs_keys.specs.declared.key.{Change.Change, Content.{Content, TheVariants.{Links, Payload}}, Key.Key}
use Rattle.krs_keys.proofs.TableLemmas.{mapped_some, was_there}
use Rattle.krs_keys.specs.declared.key.Change.TheVariants as change
use Rattle.krs_model.specs.State as model

-- a change that keeps a key of its kind
abbrev pub KeepsKind : (Key → Key) → Type 0
KeepsKind f = (v : Key) → IsOfKind v.name.kind v.content → IsOfKind (f v).name.kind (f v).content

pub kinds_alter : (keys : Table Key) (k : ℕ) (f : Key → Key) → KeepsKind f → AreOfKind keys
    → AreOfKind (alter keys k f)
kinds_alter keys k f keeps kinds q key h =
    ⊎_elim (λ (e : q ≡ k). let is = mapped_some f (at keys k) key
    (sym (at_alter_same keys k f) ∙ subst (λ (z : ℕ). at (alter keys k f) z ≡ Some key) e h) in
    subst (λ (v : Key). IsOfKind v.name.kind v.content) is.2 (keeps is.0 (kinds k is.0 is.1)))
    (λ apart. kinds q key (sym (at_alter_other keys k q f apart) ∙ h)) (at_or_apart q k)

pub kinds_put : (keys : Table Key) (k : ℕ) (new : Key) → IsOfKind new.name.kind new.content → AreOfKind keys
    → AreOfKind (put keys k new)
kinds_put keys k new is kinds q key h =
    ⊎_elim (λ (e : q ≡ k). subst (λ (v : Key). IsOfKind v.name.kind v.content)
    (same_Some new key (sym (at_put_same keys k new) ∙ subst (λ (z : ℕ). at (put keys k new) z ≡ Some key) e h)) is)
    (λ apart. kinds q key (sym (at_put_other keys k q new apart) ∙ h)) (at_or_apart q k)

pub kinds_kept : (keys : Table Key) (kept : ℕ → Bool) → AreOfKind keys → AreOfKind (filter (λ e. kept e.0) keys)
kinds_kept keys kept kinds q key h = kinds q key (was_there (kept q) (at keys q) key (sym (at_kept kept keys q) ∙ h)).1

paid_kind : (kind : Kind) (payload : List ℕ) (content : Content) → IsOfKind kind content
    → IsOfKind kind (paid_with payload content)
paid_kind kind payload (Payload old) is = is
paid_kind kind payload (Links links) is = is

emptied_kind : (kind : Kind) (content : Content) → IsOfKind kind content → IsOfKind kind (emptied content)
emptied_kind kind (Payload old) is = is
emptied_kind kind (Links links) is = is

cleared_kind : (kind : Kind) (content : Content) → IsOfKind kind content → IsOfKind kind (cleared_content content)
cleared_kind kind (Payload old) is = is
cleared_kind kind (Links links) is = is

pub changed_kind : (c : Change) → KeepsKind (changed c)
changed_kind (change.Payload payload) v is = paid_kind v.name.kind payload v.content is
changed_kind (change.Mask mask) v is = is
changed_kind (change.Owner uid gid) v is = is
changed_kind (change.Expiry expiry) v is = is
changed_kind change.Revoked v is = emptied_kind v.name.kind v.content is
changed_kind change.Cleared v is = cleared_kind v.name.kind v.content is
changed_kind change.Closed v is = is

entered_kind : (kind : Kind) (name : Name) (serial : ℕ) (content : Content) → IsOfKind kind content
    → IsOfKind kind (entered name serial content)
entered_kind kind name serial (Payload old) is = is
entered_kind kind name serial (Links links) is = is

pub linked_kind : (name : Name) (serial : ℕ) → KeepsKind (with_entry name serial)
linked_kind name serial v is = entered_kind v.name.kind name serial v.content is

keyless_as : (kind : Kind) (serial : ℕ) (content : Content) → IsOfKind kind content
    → IsOfKind kind (keyless_content serial content)
keyless_as kind serial (Payload old) is = is
keyless_as kind serial (Links links) is = is

pub keyless_kind : (serial : ℕ) → KeepsKind (without_key serial)
keyless_kind serial v is = keyless_as v.name.kind serial v.content is

-- what is left when a key is taken out
pub kinds_without : (keys rest : Table Key) (k : ℕ) → rest ≡ without keys k → at rest k ≡ None → AreOfKind keys
    → AreOfKind rest
kinds_without keys rest k is gone kinds q key h =
    ⊎_elim (λ (e : q ≡ k). absurd
    (none-some key (sym gone ∙ subst (λ (z : ℕ). at rest z ≡ Some key) e h)))
    (λ apart. kinds q key (sym (at_without_other keys k q apart)
    ∙ (ap (λ (es : Table Key). at es q) (sym is) ∙ h))) (at_or_apart q k)

ring_content : (kind : Kind) (k : ℕ) (content : Content) → IsOfKind kind content
    → is_in k (links_of_content (seen_content content)) ≡ true → same_kind kind Keyring ≡ true
ring_content kind k (Payload bytes) is h = absurd (true≢false (sym h))
ring_content kind k (Links links) is h = is

ring_of : (k : ℕ) (o : Option Key) → ((key : Key) → o ≡ Some key → IsOfKind key.name.kind key.content)
    → is_in k (links_of_key (option_map seen o)) ≡ true → is_ring (option_map seen o) ≡ true
ring_of k None is h = absurd (true≢false (sym h))
ring_of k (Some key) is h = ring_content key.name.kind k key.content (is key refl) h

-- only keyrings link keys
pub only_rings : (es : Table Key) → AreOfKind es → OnlyRingsLink (shown es)
only_rings es kinds j k h =
    subst (λ (o : Option model.Key). is_ring o ≡ true) (sym (at_map seen es j))
    (ring_of k (at es j) (λ key there. kinds j key there) (subst (λ (o : Option model.Key). is_in k (links_of_key o)
    ≡ true) (at_map seen es j) h))
