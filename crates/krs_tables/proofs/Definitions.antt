-- What the store's own steps come to in the definitions.
use Rattle.std.proofs.Common.{[], ⊎_elim, ◌+◌, ◌==◌, ◌∙◌, ◌∷◌, ◌≡◌, ◌≤◌, ap, arith, Bool, codes, cond, false, IsSome}
use Rattle.std.proofs.Common.{List, None, Ok, Option, option_map, refl, Some, subst, sym, true, ℕ, ℤ}
use Rattle.std.specs.Cmp.{unsigned_tied}
use Rattle.std.proofs.lemmas.{Bool.Decides.nat_tests, Option.{none-some, same_Some}}
use Rattle.krs_types.specs.{Kind.same_kind, Rights.WRITE, declared.caller.Caller.Caller}
use Rattle.krs_types.specs.declared.{context.Context.Context, kind.Kind.{Kind, TheVariants.Keyring}}
use Rattle.krs_types.specs.declared.{name.Name.Name, rights.Want.TheVariants.Granted}
use Rattle.krs_model.specs.Asks.{Adding.{by_match, IsKeyringAt, made, new_key, place_of}, Hello.{uid_ring, with_uid}}
use Rattle.krs_model.specs.{Levels.is_in, Linking.{link_named, linking}, Lookup.look_up, Possession.links_of_content}
use Rattle.krs_model.specs.Sweep.{IsHeld, IsSweep, Linked, live_watches, PicksHeld, roots}
use Rattle.krs_model.specs.Table.{alter, at, IsBelow, put, Table}
use Rattle.krs_model.proofs.{Reach.Levels.{or_true, same_is}, Tables.Changes.{alter_map, at_map, at_or_apart}}
use Rattle.krs_model.proofs.Tables.Changes.{at_put_other, at_put_same, below_put, filter_map_keys, put_map}
use Rattle.krs_links.specs.Links.{LinkList, serial_named, serials}
use Rattle.krs_keys.specs.Kept.{Sweeps}
use Rattle.krs_keys.specs.Keys.{AreFit, AreNamed, AreOfKind, displaced_at, displaced_by, entered, FindsByName, IsOfKind}
use Rattle.krs_keys.specs.Keys.{name_at, named_links_of_content, seen, seen_content, shown, with_entry}
use Rattle.krs_keys.specs.Table.{Keys, with_key}
use Rattle.krs_keys.specs.declared.key.{Content.{Content, TheVariants.{Links, Payload}}, Key.Key}
use Rattle.krs_keys.proofs.KeysLemmas.{found_named, seen-with_entry, serials-content}
use Rattle.krs_keys.proofs.KindsLemmas.{kinds_alter, kinds_kept, kinds_put, linked_kind}
use Rattle.krs_keys.proofs.LinkNames.{fit_alter, fit_kept, fit_put, LinksKept, named_linked}
use Rattle.krs_tables.specs.Making.{first_content, maker_key, uid_key}
use Rattle.krs_tables.specs.{View.{IsConsistent, state_of}, declared.tables.Tables.TheInside.Inside}
use Rattle.krs_model.specs.State as model

key_shown : (o : Option Key) (x : model.Key) → option_map seen o ≡ Some x
    → (key : Key) × (o ≡ Some key) × (seen key ≡ x)
key_shown None x h = absurd (none-some x h)
key_shown (Some key) x h = (key, refl, same_Some (seen key) x h)

-- a new key that a keyring links
pub record IsMade (s : Inside) (new : Keys) (ring : ℕ) (name : Name) (key : Key) : Type 0 where
  pub fit : AreFit new.keys
  pub kinds : AreOfKind new.keys
  pub is : record (state_of s) { keys = shown new.keys; next_serial = new.next }
      ≡ made (state_of s) ring name (seen key)

entry_named : (names : ℕ → Option Name) (name : Name) (n : ℕ) (content : Content) → names n ≡ Some name
    → AreNamed names (named_links_of_content content) → AreNamed names (named_links_of_content (entered name n content))
entry_named names name n (Payload bytes) there named = named
entry_named names name n (Links links) there named = named_linked names name n links there named

first_named : (names : ℕ → Option Name) (ring : Bool) (payload : List ℕ)
    → AreNamed names (named_links_of_content (cond ring (Links []) (Payload payload)))
first_named names true payload = tt
first_named names false payload = tt

of_kind : (kind : Kind) (payload : List ℕ) (ring : Bool) → same_kind kind Keyring ≡ ring
    → IsOfKind kind (cond ring (Links []) (Payload payload))
of_kind kind payload true is = is
of_kind kind payload false is = tt

pub first_kind : (kind : Kind) (payload : List ℕ) → IsOfKind kind (first_content kind payload)
first_kind kind payload = of_kind kind payload (same_kind kind Keyring) refl

first_seen : (key : Key) (ring : Bool) (payload : List ℕ)
    → seen (record key { content = cond ring (Links []) (Payload payload) })
    ≡ record (seen key) { content = cond ring (model.Links []) (model.Payload payload) }
first_seen key true payload = refl
first_seen key false payload = refl

-- a new key, as the definitions see it
pub seen-maker_key : (name : Name) (payload : List ℕ) (uid gid : ℕ)
    → seen (maker_key name payload uid gid) ≡ new_key name payload uid gid
seen-maker_key name payload uid gid = first_seen (maker_key name payload uid gid) (same_kind name.kind Keyring) payload

pub made_told : (s : Inside) (new : Keys) (ring : ℕ) (name : Name) (payload : List ℕ) (uid gid : ℕ) → IsConsistent s
    → IsBelow s.keys.keys s.keys.next → IsKeyringAt (state_of s) ring
    → new ≡ record {
      keys = alter (put s.keys.keys s.keys.next (maker_key name payload uid gid)) ring
          (with_entry name s.keys.next);
      next = s.keys.next + 1;
    } → IsMade s new ring name (maker_key name payload uid gid)
made_told s new ring name payload uid gid sound unused keyring e =
    let es = s.keys.keys in
    let n = s.keys.next in
    let key = maker_key name payload uid gid in
    let one = put es n key in
    let f = with_entry name n in
    let none : at es n ≡ None = unused n (omega arith) in
    let fit_one : AreFit one =
    fit_put es n key none (first_named (name_at one) (same_kind name.kind Keyring) payload) sound.fit in
    let name_there : name_at one n ≡ Some name = ap (option_map (λ (k : Key). k.name)) (at_put_same es n key) in
    let is = key_shown (at es ring) keyring.0 (sym (at_map seen es ring) ∙ keyring.1) in
    let ring_in_one : at one ring ≡ Some is.0 =
    ⊎_elim (λ (q : ring ≡ n). absurd (none-some is.0 (sym none ∙ subst (λ (z : ℕ). at es z ≡ Some is.0) q is.1)))
    (λ apart. at_put_other es n ring key apart ∙ is.1) (at_or_apart ring n) in
    let ring_fit : AreNamed (name_at es) (named_links_of_content is.0.content) = sound.fit ring is.0 is.1 in
    let seen_as : shown (alter one ring f) ≡ alter (put (shown es) n (seen key)) ring (linking (shown es) name n) =
    alter_map seen one ring f (linking (shown es) name n) (λ v there. let same : v
    ≡ is.0 = same_Some v is.0 (sym there ∙ ring_in_one) in seen-with_entry es name n v
    (subst (λ (k : Key). AreNamed (name_at es) (named_links_of_content k.content)) (sym same) ring_fit))
    ∙ ap (λ zs. alter zs ring (linking (shown es) name n)) (put_map seen es n key) in
    let links : seen_content is.0.content ≡ model.Links keyring.2 =
    ap (λ (x : model.Key). x.content) is.2 ∙ keyring.3 in
    let found : displaced_at one ring name ≡ link_named (shown es) name keyring.2 =
    ap (displaced_by name) ring_in_one ∙ (sym (found_named es name (named_links_of_content is.0.content) ring_fit)
    ∙ (ap (link_named (shown es) name) (serials-content is.0.content ∙ ap links_of_content links))) in
    rw e (record {
      fit = fit_alter one ring f (λ v. refl) (λ v there. entry_named (name_at one) name n v.content name_there
          (fit_one ring v there)) fit_one;
      kinds = kinds_alter one ring f (linked_kind name n) (kinds_put es n key (first_kind name.kind payload)
          sound.kinds);
      is = ap (λ zs. record (state_of s) { keys = zs; next_serial = n + 1 }) seen_as;
    })

-- the first context of a uid, with the uid's keyrings
pub record IsFirst (s : Inside) (new : Keys) (c : Caller) : Type 0 where
  pub fit : AreFit new.keys
  pub kinds : AreOfKind new.keys
  pub is : shown new.keys ≡ (with_uid (state_of s) c None).keys
  pub next : new.next ≡ s.keys.next + 2

pub first_told : (s : Inside) (new : Keys) (c : Caller) (a b : Key) → IsConsistent s → IsBelow s.keys.keys s.keys.next
    → a ≡ uid_key (codes "_uid.") [] c → b ≡ uid_key (codes "_uid_ses.") ((a.name, s.keys.next) ∷ []) c
    → new ≡ with_key (with_key s.keys a) b → IsFirst s new c
first_told s new c a b sound unused ea eb e =
    let es = s.keys.keys in
    let n = s.keys.next in
    let one = put es n a in
    let none : at es n ≡ None = unused n (omega arith) in
    let below : IsBelow one (n + 1) = below_put es one n a refl unused in
    let none_next : at one (n + 1) ≡ None = below (n + 1) (omega arith) in
    let fit_a : AreNamed (name_at one) (named_links_of_content a.content) =
    subst (λ (k : Key). AreNamed (name_at one) (named_links_of_content k.content)) (sym ea) tt in
    let fit_one : AreFit one = fit_put es n a none fit_a sound.fit in
    let stays : name_at (put one (n + 1) b) n ≡ Some a.name =
    ap (option_map (λ (k : Key). k.name)) (at_put_other one (n + 1) n b
    (grind (arith, nat_tests, unsigned_tied n (n + 1))) ∙ at_put_same es n a) in
    let fit_b : AreNamed (name_at (put one (n + 1) b)) (named_links_of_content b.content) =
    subst (λ (k : Key). AreNamed (name_at (put one (n + 1) b)) (named_links_of_content k.content)) (sym eb)
    (stays, tt, refl) in
    rw e (record {
      next = omega arith;
      fit = fit_put one (n + 1) b none_next fit_b fit_one;
      kinds = kinds_put one (n + 1) b (subst (λ (k : Key). IsOfKind k.name.kind k.content) (sym eb) refl)
          (kinds_put es n a (subst (λ (k : Key). IsOfKind k.name.kind k.content) (sym ea) refl) sound.kinds);
      is = put_map seen one (n + 1) b ∙ (ap (λ zs. put zs (n + 1) (seen b)) (put_map seen es n a)
          ∙ (ap (λ (k : Key). put (put (shown es) n (seen k)) (n + 1) (seen b)) ea
          ∙ ap (λ (k : Key). put (put (shown es) n (uid_ring (codes "_uid.") [] c)) (n + 1) (seen k)) eb));
    })

-- with these keys, and the watches at them
abbrev pub swept_state : Inside → Table Key → model.State
swept_state s new =
    record (state_of s) { keys = shown new; watches = live_watches (shown new) s.queues.watches }

-- after a sweep
pub record IsSweptTable (s : Inside) (new : Table Key) : Type 0 where
  pub fit : AreFit new
  pub kinds : AreOfKind new
  pub sweep : IsSweep (state_of s) (swept_state s new)

some_there : (link : Name) (o : Option Key) → option_map (λ key. key.name) o ≡ Some link → IsSome (option_map seen o)
some_there link None h = absurd (none-some link h)
some_there link (Some key) h = refl

named_there : (es : Table Key) (link : Name) (k : ℕ) → name_at es k ≡ Some link → IsSome (at (shown es) k)
named_there es link k h = subst IsSome (sym (at_map seen es k)) (some_there link (at es k) h)

links_kept : (es : Table Key) (rs : List ℕ) (kept : ℕ → Bool) → PicksHeld (shown es) rs kept → (links : LinkList)
    → AreNamed (name_at es) links → ((k : ℕ) → is_in k (serials links) ≡ true → IsHeld (shown es) rs k)
    → LinksKept kept links
links_kept es rs kept picks [] named held = tt
links_kept es rs kept picks (link ∷ links) named held = (
  picks.each link.1 (held link.1 (rw (same_is link.1 link.1 refl) refl)) (named_there es link.0 link.1 named.0),
  links_kept es rs kept picks links named.1 (λ k i. held k (or_true (link.1 == k) (is_in k (serials links)) i)),
)

pub sweep_told : (s : Inside) (new : Table Key) → IsConsistent s → Sweeps (roots (state_of s)) s.keys.keys new
    → IsSweptTable s new
sweep_told s new sound sweeps =
    let es = s.keys.keys in
    let kept = sweeps.kept in
    let rs = roots (state_of s) in
    let closed : (j : ℕ) (key : Key) → at es j ≡ Some key → kept j ≡ true
    → LinksKept kept (named_links_of_content key.content) =
    λ j key there k.
    let shown_there : at (shown es) j ≡ Some (seen key) = at_map seen es j ∙ ap (option_map seen) there in
    let held : IsHeld (shown es) rs j = sweeps.picks.only j (rw shown_there refl) k in
    links_kept es rs kept sweeps.picks (named_links_of_content key.content) (sound.fit j key there)
    (λ q i. Linked j q held (rw shown_there (subst (λ (zs : List ℕ). is_in q zs ≡ true)
    (serials-content key.content) i))) in
    rw sweeps.keys (record {
      fit = fit_kept es kept closed sound.fit;
      kinds = kinds_kept es kept sound.kinds;
      sweep = record { kept = kept; picks = sweeps.picks; keys = filter_map_keys seen es kept; rest = refl };
    })

-- where an added key goes is told by the name that the links have
pub place_told : (s : model.State) (c : Context) (name : Name) (id : ℤ) (ring : ℕ) (key : Key) (links : LinkList)
    → look_up s c id (Granted WRITE) ≡ Ok (ring, seen key) → key.content ≡ Links links → FindsByName s.keys key
    → place_of s c name id ≡ by_match s c (ring, seen key) (serials links) (serial_named links name)
unfolding place_of
place_told s c name id ring key links found is named =
    let by_name : link_named s.keys name (serials links) ≡ serial_named links name = rw is at (named name) in
    rw (found, is, by_name) refl
