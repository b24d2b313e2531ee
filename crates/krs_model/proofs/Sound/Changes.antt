-- What leaves a store sound but for the sweep: links fewer, a further key, a further link, a sweep.
use Rattle.std.proofs.Common.{⊎_elim, ◌∙◌, ◌≡◌, ◌≤◌, ◌⊎◌, ap, arith, Bool, cond, count_by, false, filter, inl, inr}
use Rattle.std.proofs.Common.{IsSome, List, None, Option, option_map, refl, Some, subst, sym, true, true≢false, ℕ}
use Rattle.std.proofs.lemmas.{Bool.Decides.nat_tests, Option.none-some}
use Rattle.krs_types.specs.declared.name.Name.{Name}
use Rattle.krs_model.specs.{Asks.Changing.changed, Levels.is_in, Linking.{is_named, linked_content}, Making.with_new}
use Rattle.krs_model.specs.{Possession.links_of_content, Reach.{Directly, Further, IsAcyclic, links_of_key_at}}
use Rattle.krs_model.specs.{Reach.Reaches, Sound.{AllAttached, AllFitting, AllLinked, AllPlaced, AreHoused}}
use Rattle.krs_model.specs.{Sound.{HasOneOfEach, IsFitting}, State.{Content, Key, Links, Payload, State}}
use Rattle.krs_model.specs.Sweep.{Attached, IsHeld, IsSweep, Linked, links_of_key, live_watches, PicksHeld, roots}
use Rattle.krs_model.specs.Table.{alter, at, IsBelow, map_values, put, Rises, Table}
use Rattle.krs_model.proofs.{Reach.Acyclic.{acyclic_adds, acyclic_fewer, AddsAtMost, From}, Sound.Contents.FitStays}
use Rattle.krs_model.proofs.{Sound.Contents.{form_stays, linked_form}, Sweep.Laws.linking_is_there}
use Rattle.krs_model.proofs.Tables.Changes.{at_alter_none, at_alter_other, at_alter_same, at_kept, at_map}
use Rattle.krs_model.proofs.Tables.Changes.{at_or_apart, at_put_other, at_put_same, below_filter, below_put}
use Rattle.krs_model.proofs.Tables.Counts.{count_on, in_with_link, IsPart, none_part, one_linked, part_in}
use Rattle.krs_model.proofs.Tables.{Each.{every_alter, every_kept, every_map, every_put}, Rising.alter_rises}
use Rattle.krs_model.proofs.Tables.Rising.{filter_rises, map_rises, put_rises}
use Rattle.std.proofs.lemmas.Grind.{common_steps}

-- sound but for the sweep
pub record Stands (s : State) : Type 0 where
  pub acyclic : IsAcyclic (links_of_key_at s.keys)
  pub linked : AllLinked s.keys
  pub attached : AllAttached s
  pub placed : AllPlaced s
  pub housed : AreHoused s.contexts s.processes s.uids s.next_context
  pub fitting : AllFitting s.keys
  pub rising : Rises s.keys
  pub once : HasOneOfEach s.keys
  pub unused : IsBelow s.keys s.next_serial

-- what may be at a number links a key, at most one of a sort, a part of a list
abbrev pub LinksTo : ℕ → Option Key → Type 0
LinksTo k o = is_in k (links_of_key o) ≡ true

abbrev HasOne : (ℕ → Bool) → Option Key → Type 0
HasOne p o = count_by p (links_of_key o) ≤ 1

abbrev HasPart : List ℕ → Option Key → Type 0
HasPart links o = IsPart (links_of_key o) links

-- the same keys, with attachments of keys that are there, and contexts of processes that are there
pub same_stands :
    (old new : State) → new.keys ≡ old.keys → new.next_serial ≡ old.next_serial → AllAttached new → AllPlaced new
    → AreHoused new.contexts new.processes new.uids new.next_context → Stands old → Stands new
same_stands old new keys next attached placed housed stands = record {
  acyclic = subst (λ (ks : Table Key). IsAcyclic (links_of_key_at ks)) (sym keys) stands.acyclic;
  linked = subst AllLinked (sym keys) stands.linked;
  attached = attached;
  placed = placed;
  housed = housed;
  fitting = subst AllFitting (sym keys) stands.fitting;
  rising = subst Rises (sym keys) stands.rising;
  once = subst HasOneOfEach (sym keys) stands.once;
  unused = rw (keys, next) stands.unused;
}

-- a table with fewer links, or as many, and no key of another name
pub record IsLess (old new : Table Key) : Type 0 where
  pub links : (j : ℕ) → IsPart (links_of_key_at new j) (links_of_key_at old j)
  pub names : (name : Name) (k : ℕ) → is_named name (at new k) ≡ true → is_named name (at old k) ≡ true

pub less_acyclic : (old new : Table Key) → IsLess old new → IsAcyclic (links_of_key_at old)
    → IsAcyclic (links_of_key_at new)
less_acyclic old new less acyclic =
    acyclic_fewer (links_of_key_at old) (links_of_key_at new)
    (λ j k i. part_in (links_of_key_at new j) (links_of_key_at old j) k (less.links j) i) acyclic

pub less_once : (old new : Table Key) → IsLess old new → HasOneOfEach old → HasOneOfEach new
less_once old new less once = λ ring name.
    let here = count_on (λ k. is_named name (at new k)) (λ k. is_named name (at old k)) (links_of_key_at new ring)
    (λ k i h. less.names name k h) in
    let there = less.links ring (λ k. is_named name (at old k)) in
    let few = once ring name in
    omega arith

-- at the number of a change, where its value is changed
abbrev pub IsChanged : {X : Type 0} → Table X → ℕ → (X → X) → ℕ → Type 0
IsChanged es n f k = (k ≡ n) × (at (alter es n f) k ≡ option_map f (at es k))

-- what is at a number after a change at one
pub at_change :
    {X : Type 0} (es : Table X) (n k : ℕ) (f : X → X) → (IsChanged es n f k) ⊎ (at (alter es n f) k ≡ at es k)
at_change es n k f = grind (arith, nat_tests, at_alter_same, at_alter_other, at_or_apart)

pub some_mapped : {X Y : Type 0} (f : X → Y) (o : Option X) → IsSome o → IsSome (option_map f o)
some_mapped f None h = absurd (true≢false (sym h))
some_mapped f (Some v) h = refl

pub was_mapped : {X Y : Type 0} (f : X → Y) (o : Option X) → IsSome (option_map f o) → IsSome o
was_mapped f None h = h
was_mapped f (Some v) h = refl

pub there_alter :
    {X : Type 0} (es : Table X) (n : ℕ) (f : X → X) (k : ℕ) → IsSome (at es k) → IsSome (at (alter es n f) k)
there_alter es n f k h = grind (arith, nat_tests, some_mapped, at_change)

-- the name of a key stays
abbrev pub NameStays : (Key → Key) → Type 0
NameStays f = (v : Key) (name : Name) → is_named name (Some (f v)) ≡ is_named name (Some v)

named_mapped :
    (f : Key → Key) (o : Option Key) (name : Name) → NameStays f → is_named name (option_map f o) ≡ is_named name o
named_mapped f None name stays = refl
named_mapped f (Some v) name stays = stays v name

named_alter :
    (es : Table Key) (n : ℕ) (f : Key → Key) (k : ℕ) (name : Name) → NameStays f
    → is_named name (at (alter es n f) k) ≡ is_named name (at es k)
named_alter es n f k name stays = grind (arith, nat_tests, named_mapped, at_change)

-- the links of a key become fewer, or stay, its name stays, and it fits its type
pub record Lessens (f : Key → Key) : Type 0 where
  pub links : (v : Key) → IsPart (links_of_content (f v).content) (links_of_content v.content)
  pub named : NameStays f
  pub fits : FitStays f

mapped_part : (f : Key → Key) (o : Option Key) → Lessens f → IsPart (links_of_key (option_map f o)) (links_of_key o)
mapped_part f None lessens = λ p. omega arith
mapped_part f (Some v) lessens = lessens.links v

less_alter : (es : Table Key) (n : ℕ) (f : Key → Key) → Lessens f → IsLess es (alter es n f)
less_alter es n f lessens = record {
  links = λ j. ⊎_elim (λ (r : IsChanged es n f j).
      subst (HasPart (links_of_key_at es j)) (sym r.1) (mapped_part f (at es j) lessens))
      (λ same. subst (HasPart (links_of_key_at es j)) (sym same) (λ p. omega arith)) (at_change es n j f);
  names = λ name k h. sym (named_alter es n f k name lessens.named) ∙ h;
}

-- a change of one key that leaves it no further link
pub changed_stands : (s : State) (serial : ℕ) (f : Key → Key) → Lessens f → Stands s → Stands (changed s serial f)
changed_stands s serial f lessens stands =
    let less = less_alter s.keys serial f lessens in
    record {
      acyclic = less_acyclic s.keys (alter s.keys serial f) less stands.acyclic;
      linked = λ j k i. there_alter s.keys serial f k
          (stands.linked j k (part_in _ (links_of_key_at s.keys j) k (less.links j) i));
      attached = λ k i. there_alter s.keys serial f k (stands.attached k i);
      placed = stands.placed;
      housed = stands.housed;
      fitting = every_alter IsFitting s.keys serial f (λ v _. lessens.fits v) stands.fitting;
      rising = alter_rises s.keys serial f stands.rising;
      once = less_once s.keys (alter s.keys serial f) less stands.once;
      unused = λ q le. at_alter_none s.keys serial q f (stands.unused q le);
    }

less_map : (es : Table Key) (f : Key → Key) → Lessens f → IsLess es (map_values f es)
less_map es f lessens = record {
  links = λ j. subst (HasPart (links_of_key_at es j)) (sym (at_map f es j)) (mapped_part f (at es j) lessens);
  names = grind (arith, nat_tests, named_mapped, at_map);
}

pub there_map : {X Y : Type 0} (f : X → Y) (es : Table X) (k : ℕ) → IsSome (at es k) → IsSome (at (map_values f es) k)
there_map f es k h = subst IsSome (sym (at_map f es k)) (some_mapped f (at es k) h)

-- a change of all keys that leaves none a further link
pub mapped_stands :
    (s : State) (f : Key → Key) → Lessens f → Stands s → Stands (record s { keys = map_values f s.keys })
mapped_stands s f lessens stands =
    let less = less_map s.keys f lessens in
    record {
      acyclic = less_acyclic s.keys (map_values f s.keys) less stands.acyclic;
      linked = λ j k i. there_map f s.keys k
          (stands.linked j k (part_in _ (links_of_key_at s.keys j) k (less.links j) i));
      attached = λ k i. there_map f s.keys k (stands.attached k i);
      placed = stands.placed;
      housed = stands.housed;
      fitting = every_map IsFitting s.keys f lessens.fits stands.fitting;
      rising = map_rises f s.keys stands.rising;
      once = less_once s.keys (map_values f s.keys) less stands.once;
      unused = λ q le. at_map f s.keys q ∙ ap (option_map f) (stands.unused q le);
    }

kept_part : (b : Bool) (o : Option Key) → IsPart (links_of_key (cond b o None)) (links_of_key o)
kept_part true o = λ p. omega arith
kept_part false o = none_part (links_of_key o)

kept_named : (b : Bool) (o : Option Key) (name : Name) → is_named name (cond b o None) ≡ true → is_named name o ≡ true
kept_named true o name h = h
kept_named false o name h = absurd (true≢false (sym h))

less_kept : (es : Table Key) (kept : ℕ → Bool) → IsLess es (filter (λ e. kept e.0) es)
less_kept es kept = record {
  links = λ j. subst (HasPart (links_of_key_at es j)) (sym (at_kept kept es j)) (kept_part (kept j) (at es j));
  names = λ name k h. kept_named (kept k) (at es k) name (ap (is_named name) (sym (at_kept kept es k)) ∙ h);
}

pub kept_some : {X : Type 0} (b : Bool) (o : Option X) → b ≡ true → IsSome o → IsSome (cond b o None)
kept_some true o e h = h
kept_some false o e h = absurd (true≢false (sym e))

linking_kept : (b : Bool) (o : Option Key) (k : ℕ) → is_in k (links_of_key (cond b o None)) ≡ true → b ≡ true
linking_kept true o k h = refl
linking_kept false o k h = absurd (true≢false (sym h))

-- the keys that a sweep keeps, with the watches at whatever keys
kept_stands :
    (s : State) (kept : ℕ → Bool) (watches : List ((ℕ × ℕ) × ℕ)) → PicksHeld s.keys (roots s) kept → Stands s
    → Stands (record s { keys = filter (λ e. kept e.0) s.keys; watches = watches })
kept_stands s kept watches picks stands =
    let keys : Table Key = filter (λ e. kept e.0) s.keys in
    let less : IsLess s.keys keys = less_kept s.keys kept in
    let stays : (k : ℕ) → IsHeld s.keys (roots s) k → IsSome (at s.keys k) → IsSome (at keys k) = λ k held there.
    subst IsSome (sym (at_kept kept s.keys k)) (kept_some (kept k) (at s.keys k) (picks.each k held there) there) in
    record {
      acyclic = less_acyclic s.keys keys less stands.acyclic;
      linked = λ j k i.
          let was : LinksTo k (at s.keys j) = part_in (links_of_key_at keys j) (links_of_key_at s.keys j)
          k (less.links j) i in
          let links : LinksTo k (cond (kept j) (at s.keys j) None) = subst (LinksTo k) (at_kept kept s.keys j) i in
          let still : kept j ≡ true = linking_kept (kept j) (at s.keys j) k links in
          let held = picks.only j (linking_is_there k (at s.keys j) was) still in
          stays k (Linked j k held was) (stands.linked j k was);
      attached = λ k i. stays k (Attached k i) (stands.attached k i);
      placed = stands.placed;
      housed = stands.housed;
      fitting = every_kept IsFitting s.keys kept stands.fitting;
      rising = filter_rises (λ e. kept e.0) s.keys stands.rising;
      once = less_once s.keys keys less stands.once;
      unused = below_filter (λ e. kept e.0) s.keys keys s.next_serial refl stands.unused;
    }

-- a sweep
pub sweep_stands : (old new : State) → IsSweep old new → Stands old → Stands new
sweep_stands old new s stands =
    let watches = live_watches new.keys old.watches in
    let is : new ≡ record old { keys = filter (λ e. s.kept e.0) old.keys; watches = watches } =
    s.rest ∙ ap (λ (ks : Table Key). record old { keys = ks; watches = watches }) s.keys in
    subst Stands (sym is) (kept_stands old s.kept watches s.picks stands)

-- what is reached is linked
reached_is :
    (links : ℕ → List ℕ) (P : ℕ → Type 0) (a b : ℕ) → ((j k : ℕ) → is_in k (links j) ≡ true → P k)
    → Reaches links a b → P b
reached_is links P _ _ to (Directly a b h) = to a b h
reached_is links P _ _ to (Further a j b p h) = to j b h

reaches_within :
    (old new : ℕ → List ℕ) (P : ℕ → Type 0) (a b : ℕ) → ((j k : ℕ) → is_in k (new j) ≡ true → P k)
    → ((j k : ℕ) → P j → is_in k (new j) ≡ true → is_in k (old j) ≡ true) → P a → Reaches new a b → Reaches old a b
reaches_within old new P _ _ to from start (Directly a b h) = Directly a b (from a b start h)
reaches_within old new P _ _ to from start (Further a j b p h) =
    Further a j b (reaches_within old new P a j to from start p) (from j b (reached_is new P a j to p) h)

-- further links, of none that is linked
pub acyclic_within :
    (old new : ℕ → List ℕ) (P : ℕ → Type 0) → ((j k : ℕ) → is_in k (new j) ≡ true → P k)
    → ((j k : ℕ) → P j → is_in k (new j) ≡ true → is_in k (old j) ≡ true) → IsAcyclic old → IsAcyclic new
acyclic_within old new P to from acyclic = λ a p.
    acyclic a (reaches_within old new P a a to from (reached_is new P a a to p) p)

-- at the number of a further key, where it is
abbrev pub IsPut : {X : Type 0} → Table X → ℕ → X → ℕ → Type 0
IsPut es n v k = (k ≡ n) × (at (put es n v) k ≡ Some v)

-- what is at a number after one was put
pub at_put : {X : Type 0} (es : Table X) (n k : ℕ) (v : X) → (IsPut es n v k) ⊎ (at (put es n v) k ≡ at es k)
at_put es n k v = grind (arith, nat_tests, at_put_same, at_put_other, at_or_apart)

-- a number where something is has it still, when something is put
pub there_put :
    {X : Type 0} (es : Table X) (n k : ℕ) (v : X) → IsSome (at es k) → IsSome (at (put es n v) k)
there_put es n k v h = grind (arith, common_steps, ⊎_elim, at_put)

pub not_there : {X : Type 0} (o : Option X) → IsSome o → o ≡ None → ⊥
not_there None h e = true≢false (sym h)
not_there (Some v) h e = none-some v (sym e)

-- a key that is there stays, when a further one is put
pub at_further :
    (es : Table Key) (n k : ℕ) (v : Key) → at es n ≡ None → IsSome (at es k) → at (put es n v) k ≡ at es k
at_further es n k v none there = grind (arith, nat_tests, not_there, at_put)

-- a further key, which links keys that are there, at most one of each name
pub key_stands :
    (s : State) (key : Key) → ((k : ℕ) → is_in k (links_of_content key.content) ≡ true → IsSome (at s.keys k))
    → ((name : Name) → count_by (λ k. is_named name (at s.keys k)) (links_of_content key.content) ≤ 1) → IsFitting key
    → Stands s → Stands (with_new s key)
key_stands s key linked few fits stands =
    let n = s.next_serial in
    let keys = put s.keys n key in
    let none : at s.keys n ≡ None = stands.unused n (omega arith) in
    let same : (k : ℕ) → IsSome (at s.keys k) → at keys k ≡ at s.keys k = λ k there.
    at_further s.keys n k key none there in
    let stays : (k : ℕ) → IsSome (at s.keys k) → IsSome (at keys k) = λ k there.
    subst IsSome (sym (same k there)) there in
    let target : (j k : ℕ) → is_in k (links_of_key_at keys j) ≡ true → IsSome (at s.keys k) = λ j k i.
    ⊎_elim (λ (r : IsPut s.keys n key j). linked k (subst (LinksTo k) r.1 i))
    (λ e. stands.linked j k (subst (LinksTo k) e i)) (at_put s.keys n j key) in
    record {
      acyclic = acyclic_within (links_of_key_at s.keys) (links_of_key_at keys) (λ k. IsSome (at s.keys k)) target
          (λ j k there i. subst (LinksTo k) (same j there) i) stands.acyclic;
      linked = λ j k i. stays k (target j k i);
      attached = λ k i. stays k (stands.attached k i);
      placed = stands.placed;
      housed = stands.housed;
      fitting = every_put IsFitting s.keys n key fits stands.fitting;
      rising = put_rises s.keys n key stands.rising;
      once = λ ring name.
          let p : ℕ → Bool = λ k. is_named name (at s.keys k) in
          let fewer = count_on (λ k. is_named name (at keys k)) p (links_of_key_at keys ring)
          (λ k i h. ap (is_named name) (sym (same k (target ring k i))) ∙ h) in
          let one : HasOne p (at keys ring) = ⊎_elim
          (λ (r : IsPut s.keys n key ring). subst (HasOne p) (sym r.1) (few name))
          (λ e. subst (HasOne p) (sym e) (stands.once ring name)) (at_put s.keys n ring key) in
          omega arith;
      unused = below_put s.keys keys n key refl stands.unused;
    }

pub in_linked_content :
    (displaced : ℕ → Bool) (serial : ℕ) (content : Content) (k : ℕ)
    → is_in k (links_of_content (linked_content displaced serial content)) ≡ true
    → (is_in k (links_of_content content) ≡ true) ⊎ (k ≡ serial)
in_linked_content displaced serial (Payload bytes) k i = inl i
in_linked_content displaced serial (Links links) k i = in_with_link displaced links serial k i

one_linked_content :
    (displaced p : ℕ → Bool) (serial : ℕ) (content : Content)
    → (p serial ≡ true → (k : ℕ) → is_in k (links_of_content content) ≡ true → p k ≡ displaced k)
    → count_by p (links_of_content content) ≤ 1 → count_by p
    (links_of_content (linked_content displaced serial content)) ≤ 1
one_linked_content displaced p serial (Payload bytes) alike few = few
one_linked_content displaced p serial (Links links) alike few = one_linked displaced p links serial alike few

-- the keyring with a further link
abbrev pub with_linked : (ℕ → Bool) → ℕ → Key → Key
with_linked displaced serial ring = record ring { content = linked_content displaced serial ring.content }

in_mapped :
    (displaced : ℕ → Bool) (serial : ℕ) (o : Option Key) (k : ℕ)
    → LinksTo k (option_map (with_linked displaced serial) o) → (LinksTo k o) ⊎ (k ≡ serial)
in_mapped displaced serial None k i = inl i
in_mapped displaced serial (Some ring) k i = in_linked_content displaced serial ring.content k i

one_mapped :
    (displaced p : ℕ → Bool) (serial : ℕ) (o : Option Key)
    → (p serial ≡ true → (k : ℕ) → LinksTo k o → p k ≡ displaced k) → HasOne p o
    → HasOne p (option_map (with_linked displaced serial) o)
one_mapped displaced p serial None alike few = few
one_mapped displaced p serial (Some ring) alike few = one_linked_content displaced p serial ring.content alike few

-- a further link, which closes no cycle and displaces the links of its name
pub linked_stands :
    (s : State) (ring serial : ℕ) (displaced : ℕ → Bool) → IsSome (at s.keys serial)
    → (From (links_of_key_at s.keys) serial ring → ⊥)
    → ((name : Name) → is_named name (at s.keys serial) ≡ true → (k : ℕ) → is_in k (links_of_key_at s.keys ring) ≡ true
    → is_named name (at s.keys k) ≡ displaced k)
    → Stands s → Stands (changed s ring (with_linked displaced serial))
linked_stands s ring serial displaced there opens alike stands =
    let f = with_linked displaced serial in
    let keys = alter s.keys ring f in
    let adds : AddsAtMost (links_of_key_at s.keys) (links_of_key_at keys) ring serial = λ j k i.
    ⊎_elim (λ (r : IsChanged s.keys ring f j).
    ⊎_elim (λ (was : is_in k (links_of_key_at s.keys j) ≡ true). inl was) (λ (e : k ≡ serial). inr (r.0, e))
    (in_mapped displaced serial (at s.keys j) k (subst (LinksTo k) r.1 i)))
    (λ e. inl (subst (LinksTo k) e i)) (at_change s.keys ring j f) in
    let stays : NameStays f = λ v name. refl in
    record {
      acyclic = acyclic_adds (links_of_key_at s.keys) (links_of_key_at keys) ring serial adds opens stands.acyclic;
      linked = grind (arith, nat_tests, there_alter);
      attached = λ k i. there_alter s.keys ring f k (stands.attached k i);
      placed = stands.placed;
      housed = stands.housed;
      fitting = every_alter IsFitting s.keys ring f
          (λ v _. form_stays f (λ w. linked_form displaced serial w.content) (λ w. refl) v) stands.fitting;
      rising = alter_rises s.keys ring f stands.rising;
      once = λ q name.
          let p : ℕ → Bool = λ k. is_named name (at s.keys k) in
          let fewer = count_on (λ k. is_named name (at keys k)) p (links_of_key_at keys q)
          (λ k i h. sym (named_alter s.keys ring f k name stays) ∙ h) in
          let one : HasOne p (at keys q) = ⊎_elim (λ (r : IsChanged s.keys ring f q).
          subst (HasOne p) (sym r.1) (one_mapped displaced p serial (at s.keys q)
          (λ mine k i. alike name mine k (subst (λ (z : ℕ). is_in k (links_of_key_at s.keys z) ≡ true) r.0 i))
          (stands.once q name)))
          (λ e. subst (HasOne p) (sym e) (stands.once q name)) (at_change s.keys ring q f) in
          omega arith;
      unused = λ q le. at_alter_none s.keys ring q f (stands.unused q le);
    }
