-- Links keep the names of their keys.
use Rattle.std.proofs.Common.{[], ⊎_elim, ◌==◌, ◌||◌, ◌∙◌, ◌∷◌, ◌≡◌, ◌≢◌, ap, Bool, cond, eqb-true, false, filter, find}
use Rattle.std.proofs.Common.{None, not, Option, option_map, refl, remove, slice_get, Some, subst, suc, sym, true}
use Rattle.std.proofs.{Common.{true≢false, zero, ℕ}, lemmas.Option.{none-some, same_Some}}
use Rattle.krs_types.specs.{Name.same_name, declared.name.Name.Name}
use Rattle.krs_types.proofs.Names.{equal_names, other_way, same_name_equiv}
use Rattle.krs_model.specs.Table.{alter, at, put, Table}
use Rattle.krs_model.proofs.{Reach.Levels.{or_true, same_is}, Tables.Changes.at_alter_other}
use Rattle.krs_model.proofs.Tables.Changes.{at_alter_same, at_kept, at_or_apart, at_put_other, at_put_same}
use Rattle.krs_links.specs.Links.{has_link, link_put, LinkList, serial_named, serials, unlinked_key}
use Rattle.krs_links.proofs.LinksLemmas.{serial_named-linked_other}
use Rattle.krs_keys.specs.Keys.{AreFit, AreNamed, name_at, named_links_of_content, named_links_of_key}
use Rattle.krs_keys.specs.{Keys.named_links_of_key_at, declared.key.Key.Key}
use Rattle.krs_keys.proofs.TableLemmas.{mapped_some, was_there}

-- names that are there before are there after
abbrev pub NamesStay : (ℕ → Option Name) → (ℕ → Option Name) → Type 0
NamesStay before after = (k : ℕ) (name : Name) → before k ≡ Some name → after k ≡ Some name

pub named_on : (before after : ℕ → Option Name) → NamesStay before after → (links : LinkList) → AreNamed before links
    → AreNamed after links
named_on before after stay [] named = tt
named_on before after stay (link ∷ links) named =
    (stay link.1 link.0 named.0, named_on before after stay links named.1, named.2)

pub named_linked : (names : ℕ → Option Name) (name : Name) (serial : ℕ) (links : LinkList) → names serial ≡ Some name
    → AreNamed names links → AreNamed names (link_put links name serial)
named_linked names name serial [] there named = (there, tt, refl)
named_linked names name serial (link ∷ links) there named =
    elim (same_name name link.0) as (λ b. same_name name link.0 ≡ b
    → AreNamed names (cond b ((name, serial) ∷ links) (link ∷ link_put links name serial))) [
      | true ↦ λ same. (there, named.1, ap (serial_named links) (equal_names name link.0 same) ∙ named.2)
      | false ↦ λ apart. (
        named.0,
        named_linked names name serial links there named.1,
        serial_named-linked_other name link.0 serial links (other_way name link.0 apart) ∙ named.2,
      )
    ] refl

-- two keys of different names are two
other_serial : (names : ℕ → Option Name) (name : Name) (serial : ℕ) (link : Name × ℕ) → names serial ≡ Some name
    → names link.1 ≡ Some link.0 → same_name name link.0 ≡ false → (link.1 == serial) ≡ false
other_serial names name serial link there named other =
    elim (link.1 == serial) as (λ b. (link.1 == serial) ≡ b → b ≡ false) [
      | true ↦ λ t.
          let one : link.1 ≡ serial = eqb-true link.1 serial t in
          let same : name ≡ link.0 = same_Some name link.0 (sym there ∙ (ap names (sym one) ∙ named)) in
          absurd (true≢false (sym (same_name_equiv.refl name) ∙ (ap (same_name name) same ∙ other)))
      | false ↦ λ t. refl
    ] refl

not_first : (name : Name) (link : Name × ℕ) (links : LinkList) → serial_named (link ∷ links) name ≡ None
    → same_name name link.0 ≡ false
not_first name link links none =
    elim (same_name name link.0) as (λ b. option_map (λ (l : Name × ℕ). l.1)
    (cond b (Some link) (find (λ (l : Name × ℕ). same_name name l.0) links)) ≡ None → b ≡ false) [
      | true ↦ λ h. absurd (none-some link.1 (sym h))
      | false ↦ λ h. refl
    ] none

-- a key whose name is not linked is not linked
pub none_left : (names : ℕ → Option Name) (name : Name) (serial : ℕ) (links : LinkList) → names serial ≡ Some name
    → serial_named links name ≡ None → AreNamed names links
    → filter (λ k. not (k == serial)) (serials links) ≡ serials links
none_left names name serial [] there none named = refl
none_left names name serial (link ∷ links) there none named =
    let other : same_name name link.0 ≡ false = not_first name link links none in
    let rest : serial_named links name ≡ None = rw other at none in
    let apart : (link.1 == serial) ≡ false = other_serial names name serial link there named.0 other in
    rw apart (ap (λ zs. link.1 ∷ zs) (none_left names name serial links there rest named.1))

-- a key whose name is not linked is not linked
none_linked : (names : ℕ → Option Name) (name : Name) (serial : ℕ) (links : LinkList) → names serial ≡ Some name
    → serial_named links name ≡ None → AreNamed names links → has_link serial links ≡ false
none_linked names name serial [] there none named = refl
none_linked names name serial (link ∷ links) there none named =
    let other : same_name name link.0 ≡ false = not_first name link links none in
    let rest : serial_named links name ≡ None = rw other at none in
    let apart : (link.1 == serial) ≡ false = other_serial names name serial link there named.0 other in
    rw apart (none_linked names name serial links there rest named.1)

apart_in : (a b : ℕ) → (Some a ≢ Some b) → (a == b) ≡ false
apart_in a b other =
    elim (a == b) as (λ t. (a == b) ≡ t → t ≡ false) [
      | true ↦ λ same. absurd (other (ap (λ k. Some k) (eqb-true a b same)))
      | false ↦ λ apart. refl
    ] refl

-- nor is one whose name links another
pub other_linked : (names : ℕ → Option Name) (name : Name) (serial : ℕ) (links : LinkList) → names serial ≡ Some name
    → (serial_named links name ≢ Some serial) → AreNamed names links → has_link serial links ≡ false
other_linked names name serial [] there other named = refl
other_linked names name serial (link ∷ links) there other named =
    elim (same_name name link.0) as (λ b. same_name name link.0 ≡ b → (option_map (λ (l : Name × ℕ). l.1)
    (cond b (Some link) (find (λ (l : Name × ℕ). same_name name l.0) links)) ≢ Some serial)
    → ((link.1 == serial) || has_link serial links) ≡ false) [
      | true ↦ λ same h.
          let apart : (link.1 == serial) ≡ false = apart_in link.1 serial h in
          let none : serial_named links name ≡ None = ap (serial_named links)
          (equal_names name link.0 same) ∙ named.2 in
          rw apart (none_linked names name serial links there none named.1)
      | false ↦ λ two h.
          let apart : (link.1 == serial) ≡ false = other_serial names name serial link there named.0 two in
          rw apart (other_linked names name serial links there h named.1)
    ] refl other

-- what is no key is not linked
pub missing_linked : (names : ℕ → Option Name) (serial : ℕ) (links : LinkList) → names serial ≡ None
    → AreNamed names links → has_link serial links ≡ false
missing_linked names serial [] missing named = refl
missing_linked names serial (link ∷ links) missing named =
    elim (link.1 == serial) as (λ b. (link.1 == serial) ≡ b → (b || has_link serial links) ≡ false) [
      | true ↦ λ same. absurd (none-some link.0
          (sym missing ∙ (ap names (sym (eqb-true link.1 serial same)) ∙ named.0)))
      | false ↦ λ apart. missing_linked names serial links missing named.1
    ] refl

-- what stands at a place is linked
pub linked_at : (serial : ℕ) (links : LinkList) (place : ℕ) → slice_get (serials links) place ≡ Some serial
    → has_link serial links ≡ true
linked_at serial [] zero here = absurd (none-some serial here)
linked_at serial [] (suc place) here = absurd (none-some serial here)
linked_at serial (link ∷ links) zero here = rw (same_is link.1 serial (same_Some link.1 serial here)) refl
linked_at serial (link ∷ links) (suc place) here =
    or_true (link.1 == serial) (has_link serial links) (linked_at serial links place here)

-- where the key is not linked, nothing goes
pub others_stay : (serial : ℕ) (links : LinkList) → has_link serial links ≡ false → unlinked_key links serial ≡ links
others_stay serial [] none = refl
others_stay serial (link ∷ links) none =
    elim (link.1 == serial) as (λ b. (b || has_link serial links) ≡ false
    → cond (not b) (link ∷ unlinked_key links serial) (unlinked_key links serial) ≡ link ∷ links) [
      | true ↦ λ h. absurd (true≢false h)
      | false ↦ λ h. ap (λ zs. link ∷ zs) (others_stay serial links h)
    ] none

-- the one link of the key goes with its place
pub removed_at : (names : ℕ → Option Name) (serial : ℕ) (links : LinkList) (place : ℕ) → AreNamed names links
    → slice_get (serials links) place ≡ Some serial → remove links place ≡ unlinked_key links serial
removed_at names serial [] zero named here = absurd (none-some serial here)
removed_at names serial [] (suc place) named here = absurd (none-some serial here)
removed_at names serial (link ∷ links) zero named here =
    let one : link.1 ≡ serial = same_Some link.1 serial here in
    let there : names serial ≡ Some link.0 = subst (λ (k : ℕ). names k ≡ Some link.0) one named.0 in
    rw (same_is link.1 serial one)
    (sym (others_stay serial links (none_linked names link.0 serial links there named.2 named.1)))
removed_at names serial (link ∷ links) (suc place) named here =
    let apart : (link.1 == serial) ≡ false = elim (link.1 == serial) as (λ b. (link.1 == serial) ≡ b → b ≡ false) [
      | true ↦ λ same.
          let there : names serial ≡ Some link.0 =
          subst (λ (k : ℕ). names k ≡ Some link.0) (eqb-true link.1 serial same) named.0 in
          absurd (true≢false (sym (linked_at serial links place here)
          ∙ none_linked names link.0 serial links there named.2 named.1))
      | false ↦ λ other. refl
    ] refl in
    rw apart (ap (λ zs. link ∷ zs) (removed_at names serial links place named.1 here))

none_named : (names : ℕ → Option Name) (o : Option Key) → ((key : Key) → o ≡ Some key
    → AreNamed names (named_links_of_content key.content)) → AreNamed names (named_links_of_key o)
none_named names None h = tt
none_named names (Some key) h = h key refl

-- links have the names of their keys
pub ring_named : (es : Table Key) (ring : ℕ) → AreFit es → AreNamed (name_at es) (named_links_of_key_at es ring)
ring_named es ring fit = none_named (name_at es) (at es ring) (λ key there. fit ring key there)

map_name : (f : Key → Key) → ((v : Key) → (f v).name ≡ v.name) → (o : Option Key) (name : Name)
    → option_map (λ key. key.name) o ≡ Some name → option_map (λ key. key.name) (option_map f o) ≡ Some name
map_name f same None name h = h
map_name f same (Some key) name h = ap (λ n. Some n) (same key) ∙ h

pub names_alter : (keys : Table Key) (k : ℕ) (f : Key → Key) → ((v : Key) → (f v).name ≡ v.name)
    → NamesStay (name_at keys) (name_at (alter keys k f))
names_alter keys k f same q name h =
    ⊎_elim (λ (e : q ≡ k). subst (λ (z : ℕ). name_at (alter keys k f) z ≡ Some name) (sym e)
    (ap (option_map (λ key. key.name)) (at_alter_same keys k f)
    ∙ map_name f same (at keys k) name (subst (λ (z : ℕ). name_at keys z ≡ Some name) e h)))
    (λ apart. ap (option_map (λ key. key.name)) (at_alter_other keys k q f apart) ∙ h) (at_or_apart q k)

pub names_put : (keys : Table Key) (k : ℕ) (new : Key) → at keys k ≡ None
    → NamesStay (name_at keys) (name_at (put keys k new))
names_put keys k new none q name h =
    ⊎_elim (λ (e : q ≡ k). absurd
    (none-some name (sym (ap (option_map (λ key. key.name)) none)
    ∙ subst (λ (z : ℕ). name_at keys z ≡ Some name) e h)))
    (λ apart. ap (option_map (λ key. key.name)) (at_put_other keys k q new apart) ∙ h) (at_or_apart q k)

-- a change of one key that keeps its name and names its links
pub fit_alter : (keys : Table Key) (k : ℕ) (f : Key → Key) → ((v : Key) → (f v).name ≡ v.name)
    → ((v : Key) → at keys k ≡ Some v → AreNamed (name_at keys) (named_links_of_content (f v).content)) → AreFit keys
    → AreFit (alter keys k f)
fit_alter keys k f same new fit q key h =
    named_on (name_at keys) (name_at (alter keys k f)) (names_alter keys k f same) (named_links_of_content key.content)
    (⊎_elim (λ (e : q ≡ k). let is = mapped_some f (at keys k) key
    (sym (at_alter_same keys k f) ∙ subst (λ (z : ℕ). at (alter keys k f) z ≡ Some key) e h) in
    subst (λ (v : Key). AreNamed (name_at keys) (named_links_of_content v.content)) is.2 (new is.0 is.1))
    (λ apart. fit q key (sym (at_alter_other keys k q f apart) ∙ h)) (at_or_apart q k))

-- a new key that names its links
pub fit_put : (keys : Table Key) (k : ℕ) (new : Key) → at keys k ≡ None
    → AreNamed (name_at (put keys k new)) (named_links_of_content new.content) → AreFit keys → AreFit (put keys k new)
fit_put keys k new none is_fit fit q key h =
    ⊎_elim (λ (e : q ≡ k). subst (λ (v : Key). AreNamed (name_at (put keys k new)) (named_links_of_content v.content))
    (same_Some new key (sym (at_put_same keys k new) ∙ subst (λ (z : ℕ). at (put keys k new) z ≡ Some key) e h))
    is_fit)
    (λ apart. named_on (name_at keys) (name_at (put keys k new)) (names_put keys k new none)
    (named_links_of_content key.content) (fit q key (sym (at_put_other keys k q new apart) ∙ h))) (at_or_apart q k)

-- what the links of a list name is kept
abbrev pub LinksKept : (ℕ → Bool) → LinkList → Type 0
LinksKept kept [] = Unit {0}
LinksKept kept (link ∷ links) = (kept link.1 ≡ true) × LinksKept kept links

named_kept : (keys : Table Key) (kept : ℕ → Bool) (links : LinkList) → LinksKept kept links
    → AreNamed (name_at keys) links → AreNamed (name_at (filter (λ e. kept e.0) keys)) links
named_kept keys kept [] stay named = tt
named_kept keys kept (link ∷ links) stay named = (
  ap (option_map (λ key. key.name)) (at_kept kept keys link.1 ∙ ap (λ b. cond b (at keys link.1) None) stay.0)
      ∙ named.0,
  named_kept keys kept links stay.1 named.1,
  named.2,
)

-- the kept keys, whose links are kept
pub fit_kept : (keys : Table Key) (kept : ℕ → Bool)
    → ((j : ℕ) (key : Key) → at keys j ≡ Some key → kept j ≡ true → LinksKept kept (named_links_of_content key.content))
    → AreFit keys → AreFit (filter (λ e. kept e.0) keys)
fit_kept keys kept closed fit q key h =
    let was = was_there (kept q) (at keys q) key (sym (at_kept kept keys q) ∙ h) in
    named_kept keys kept (named_links_of_content key.content) (closed q key was.1 was.0) (fit q key was.1)
