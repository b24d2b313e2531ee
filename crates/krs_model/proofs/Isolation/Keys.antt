-- What changes of keys leave a uid to itself, and that no context of another uid has a right on such a key.
use Rattle.std.proofs.Common.{⊎_elim, ◌∙◌, ◌≡◌, ◌≢◌, ◌⊎◌, ap, arith, Bool, cond, false, filter, inl, List, None, Ok}
use Rattle.std.proofs.Common.{Option, option_map, refl, Some, subst, suc, sym, true, true≢false, zero, ℕ, ℤ}
use Rattle.std.proofs.lemmas.Bool.Decides.{nat_tests}
use Rattle.krs_types.specs.declared.{caller.Caller.Caller, context.Context.Context, rights.Want.Want}
use Rattle.krs_types.specs.{Perm.{group_byte, other_byte}, Rights.allows}
use Rattle.krs_model.specs.{Access.rights_on, Confidentiality.{AreEnclosed, is_own}, Levels.{is_in, level}}
use Rattle.krs_model.specs.{Levels.search_depth, Lookup.look_up, Possession.{attached, followed, followed_at}}
use Rattle.krs_model.specs.{Possession.{links_of_content, possessed}, State.{Key, State}, Table.{alter, at}}
use Rattle.krs_model.specs.Table.{map_values, put, Table}
use Rattle.krs_model.proofs.{Lookups.{Laws.look_up_usable, Rights.one_byte}, Reach.Levels.{in_flat, in_level}}
use Rattle.krs_model.proofs.{Sound.Changes.{at_change, at_put, IsChanged, LinksTo}, Tables.Changes.{at_kept, at_map}}
use Rattle.krs_model.proofs.Tables.Each.{kept_is}
use Rattle.std.proofs.lemmas.Grind.{common_steps}

-- a change of a key of its own leaves it its own, where the key may be one of these
pub record KeepsOwn (uid : ℕ) (private : ℕ → Bool) (n : ℕ) (f : Key → Key) : Type 0 where
  pub own : (v : Key) → private n ≡ true → is_own uid v ≡ true → is_own uid (f v) ≡ true
  pub links : (v : Key) (k : ℕ) → private k ≡ true → is_in k (links_of_content (f v).content) ≡ true
      → (is_in k (links_of_content v.content) ≡ true) ⊎ (private n ≡ true)

own_mapped :
    (uid : ℕ) (f : Key → Key) (o : Option Key) (key : Key)
    → ((v : Key) → is_own uid v ≡ true → is_own uid (f v) ≡ true)
    → ((v : Key) → o ≡ Some v → is_own uid v ≡ true) → option_map f o ≡ Some key → is_own uid key ≡ true
own_mapped uid f None key keeps was h = cc
own_mapped uid f (Some v) key keeps was h = grind (arith, common_steps)

links_mapped :
    (P : Type 0) (f : Key → Key) (o : Option Key) (k : ℕ)
    → ((v : Key) → is_in k (links_of_content (f v).content) ≡ true → (is_in k (links_of_content v.content) ≡ true) ⊎ P)
    → LinksTo k (option_map f o) → (LinksTo k o) ⊎ P
links_mapped P f None k less i = inl i
links_mapped P f (Some v) k less i = less v i

-- one key changed
pub changed_enclosed :
    (uid : ℕ) (private : ℕ → Bool) (es : Table Key) (n : ℕ) (f : Key → Key) → KeepsOwn uid private n f
    → AreEnclosed uid private es → AreEnclosed uid private (alter es n f)
changed_enclosed uid private es n f keeps alone = record {
  own = grind (arith, nat_tests, own_mapped, at_change);
  linked = λ j k m i. ⊎_elim
      (λ (r : IsChanged es n f j). ⊎_elim (λ (was : LinksTo k (at es j)). alone.linked j k m was)
      (λ (here : private n ≡ true). subst (λ (z : ℕ). private z ≡ true) (sym r.0) here)
      (links_mapped (private n ≡ true) f (at es j) k (λ v h. keeps.links v k m h) (subst (LinksTo k) r.1 i)))
      (λ same. alone.linked j k m (subst (LinksTo k) same i)) (at_change es n j f);
}

-- all keys changed
pub mapped_enclosed :
    (uid : ℕ) (private : ℕ → Bool) (es : Table Key) (f : Key → Key)
    → ((v : Key) → is_own uid v ≡ true → is_own uid (f v) ≡ true)
    → ((v : Key) (k : ℕ) → is_in k (links_of_content (f v).content) ≡ true
    → is_in k (links_of_content v.content) ≡ true)
    → AreEnclosed uid private es → AreEnclosed uid private (map_values f es)
mapped_enclosed uid private es f keeps less alone = record {
  own = grind (arith, common_steps, own_mapped, at_map);
  linked = λ j k m i. ⊎_elim (λ (was : LinksTo k (at es j)). alone.linked j k m was) (λ (no : ⊥). absurd no)
      (links_mapped ⊥ f (at es j) k (λ v h. inl (less v k h)) (subst (LinksTo k) (at_map f es j) i));
}

-- a further key that is none of these, and links none of them
pub put_enclosed :
    (uid : ℕ) (private : ℕ → Bool) (es : Table Key) (n : ℕ) (key : Key) → (private n ≡ true → ⊥)
    → ((k : ℕ) → private k ≡ true → is_in k (links_of_content key.content) ≡ true → ⊥)
    → AreEnclosed uid private es → AreEnclosed uid private (put es n key)
put_enclosed uid private es n key fresh none alone = grind (arith, nat_tests, at_put)

pub kept_links : (b : Bool) (o : Option Key) (k : ℕ) → LinksTo k (cond b o None) → LinksTo k o
kept_links true o k h = h
kept_links false o k h = absurd (true≢false (sym h))

-- fewer keys
pub kept_enclosed :
    (uid : ℕ) (private : ℕ → Bool) (es : Table Key) (kept : ℕ → Bool) → AreEnclosed uid private es
    → AreEnclosed uid private (filter (λ e. kept e.0) es)
kept_enclosed uid private es kept alone = grind (arith, nat_tests, kept_is, at_kept, kept_links)

-- none of these keys is attached by the context
abbrev pub AttachesNone : (ℕ → Bool) → State → Context → Type 0
AttachesNone private s c = (k : ℕ) → private k ≡ true → is_in k (attached s c) ≡ true → ⊥

unreached :
    (private : ℕ → Bool) (links : ℕ → List ℕ) (heads : List ℕ) (n k : ℕ)
    → ((q : ℕ) → private q ≡ true → is_in q heads ≡ true → ⊥)
    → ((j q : ℕ) → private q ≡ true → is_in q (links j) ≡ true → private j ≡ true) → private k ≡ true
    → is_in k (level links heads n) ≡ true → ⊥
unfolding level
unreached private links heads zero k start steps m i = start k m i
unreached private links heads (suc n) k start steps m i =
    grind (arith, nat_tests, in_flat, unreached private links heads n)

followed_links :
    (clock : ℕ) (caller : Caller) (o : Option Key) (k : ℕ) → is_in k (followed clock caller o) ≡ true → LinksTo k o
followed_links clock caller None k i = i
followed_links clock caller (Some key) k i = grind (arith, nat_tests, true≢false)

-- nor is it possessed
pub not_possessed :
    (uid : ℕ) (private : ℕ → Bool) (s : State) (c : Context) (k : ℕ) → AreEnclosed uid private s.keys
    → AttachesNone private s c → private k ≡ true → possessed s c k ≡ true → ⊥
unfolding possessed
not_possessed uid private s c k alone none m h =
    let links : ℕ → List ℕ = followed_at s.keys s.clock c.caller in
    let r = in_level links (attached s c) k (suc search_depth) h in
    unreached private links (attached s c) r.0 k none
    (λ j q mq i. alone.linked j q mq (followed_links s.clock c.caller (at s.keys j) q i)) m r.2

own_parts : (uid : ℕ) (key : Key) → is_own uid key ≡ true
    → (key.uid ≡ uid) × (group_byte key.perm ≡ 0) × (other_byte key.perm ≡ 0)
own_parts uid key h = (grind (arith, nat_tests), grind (arith, nat_tests), grind (arith, nat_tests))

pub no_class :
    (uid : ℕ) (key : Key) (caller : Caller) → is_own uid key ≡ true → caller.uid ≢ uid → rights_on key caller false ≡ 0
no_class uid key caller own other = grind (arith, nat_tests, own_parts, one_byte)

pub false_where : (b : Bool) → (b ≡ true → ⊥) → b ≡ false
false_where true h = absurd (h refl)
false_where false h = refl

-- a context of another uid, which attaches none of these keys, has no right on any of them
pub no_rights :
    (uid : ℕ) (private : ℕ → Bool) (s : State) (c : Context) (k : ℕ) (key : Key) → AreEnclosed uid private s.keys
    → AttachesNone private s c → c.caller.uid ≢ uid → private k ≡ true → at s.keys k ≡ Some key
    → (possessed s c k ≡ false) × (rights_on key c.caller (possessed s c k) ≡ 0)
no_rights uid private s c k key alone none other m there =
    let apart = false_where (possessed s c k) (not_possessed uid private s c k alone none m) in
    (apart, ap (rights_on key c.caller) apart ∙ no_class uid key c.caller (alone.own k key m there) other)

-- so none of its look-ups that want a right finds one
pub not_found :
    (uid : ℕ) (private : ℕ → Bool) (s : State) (c : Context) (id : ℤ) (want : Want) (found : ℕ × Key)
    → AreEnclosed uid private s.keys → AttachesNone private s c → c.caller.uid ≢ uid → allows want 0 false ≡ false
    → look_up s c id want ≡ Ok found → private found.0 ≡ true → ⊥
not_found uid private s c id want found alone none other wants is m =
    let usable = look_up_usable s c id want found is in grind (arith, common_steps, no_rights, true≢false)
