-- What keys come to in a search, one by one and joined.
use Rattle.std.proofs.Common.{[], ◌&&◌, ◌||◌, ◌∙◌, ◌∷◌, ◌≡◌, ap, arith, Bool, cond, Err, false, find, nat_lt, None, not}
use Rattle.std.proofs.{Common.{Ok, Option, option_map, refl, Result, Some, sym, true, ℕ}, lemmas.Bool.Decides.nat_tests}
use Rattle.krs_types.specs.Name.{same_name}
use Rattle.krs_types.specs.{Refusing.or_refuse, declared.{errno.Errno.{Errno, TheVariants.ENOKEY}, name.Name.Name}}
use Rattle.krs_types.proofs.Names.{equal_names}
use Rattle.krs_model.specs.{Access.is_over, Linking.is_named, Search.{fault, grants_search, is_match, or_next}}
use Rattle.krs_model.specs.{Search.{Searcher, sought, weightier}, Table.{at, Table}}
use Rattle.krs_model.proofs.{Reach.Searches.sought_append, Tables.Changes.at_map}
use Rattle.krs_links.specs.Links.{LinkList, serial_named, serials}
use Rattle.krs_keys.specs.{Keys.{AreNamed, name_at, seen, shown}, declared.key.Key.Key}
use Rattle.krs_keys.proofs.KeysLemmas.{named_at}
use Rattle.krs_model.specs.State as model
use Rattle.std.proofs.lemmas.Grind.{common_steps}

-- behind a search that finds no match
pub next_none : (r : Result ℕ Errno) → or_next r (Err ENOKEY) ≡ r
next_none (Ok k) = refl
next_none (Err e) = grind (arith, common_steps, nat_lt, nat_tests)

less_on : (m n k : ℕ) → nat_lt m n ≡ true → nat_lt n k ≡ true → nat_lt m k ≡ true
less_on m n k h i = grind (arith, nat_tests)

no_less : (m n k : ℕ) → nat_lt m n ≡ false → nat_lt n k ≡ false → nat_lt m k ≡ false
no_less m n k h i = grind (arith, nat_tests)

weightiest : (e f g : Errno) → weightier (weightier e f) g ≡ weightier e (weightier f g)
weightiest e f g = grind (arith, common_steps, nat_lt, less_on, no_less)

pub next_next : (a b c : Result ℕ Errno) → or_next (or_next a b) c ≡ or_next a (or_next b c)
next_next (Ok k) b c = refl
next_next (Err e) (Ok k) c = refl
next_next (Err e) (Err f) (Ok k) = refl
next_next (Err e) (Err f) (Err g) = ap Err (weightiest e f g)

-- what a key comes to: it has the name, was revoked, is over, grants SEARCH
abbrev pub verdict : Bool → Bool → Bool → Bool → ℕ → Result ℕ Errno
verdict named revoked over granted serial =
    or_refuse (fault ((named && revoked) || false) ((named && over) || false) ((named && not granted) || false))
    (cond (named && ((not revoked && not over) && granted)) (Some serial) None)

one_key : (by : Searcher) (name : Name) (serial : ℕ) (key : model.Key) → at by.keys serial ≡ Some key →
    sought by name (serial ∷ []) ≡ verdict (is_named name (Some key)) key.revoked (is_over by.clock key.expiry)
    (grants_search by serial key) serial
one_key by name serial key there = grind (arith, common_steps)

pub key_comes_to : (by : Searcher) (name : Name) (serial : ℕ) (key : model.Key) (named revoked over granted : Bool)
    → at by.keys serial ≡ Some key →
    is_named name (Some key) ≡ named → key.revoked ≡ revoked → is_over by.clock key.expiry ≡ over
    → grants_search by serial key ≡ granted →
    sought by name (serial ∷ []) ≡ verdict named revoked over granted serial
key_comes_to by name serial key named revoked over granted there a b c d = one_key by name serial key there ∙ cc

unnamed_matches : (name : Name) (holds : model.Key → Bool) (o : Option model.Key) → is_named name o ≡ false
    → is_match name holds o ≡ false
unnamed_matches name holds None h = refl
unnamed_matches name holds (Some key) h = ap (λ b. b && holds key) h

-- a key of another name, or none
pub unnamed_comes_to : (by : Searcher) (name : Name) (serial : ℕ) → is_named name (at by.keys serial) ≡ false
    → sought by name (serial ∷ []) ≡ Err ENOKEY
unnamed_comes_to by name serial h = grind (arith, common_steps, unnamed_matches)

-- a key that is there is seen there
pub seen_there : (keys : Table Key) (serial : ℕ) (key : Key) → at keys serial ≡ Some key
    → at (shown keys) serial ≡ Some (seen key)
seen_there keys serial key there = at_map seen keys serial ∙ ap (option_map seen) there

pub unseen : (keys : Table Key) (serial : ℕ) → at keys serial ≡ None → at (shown keys) serial ≡ None
unseen keys serial none = at_map seen keys serial ∙ ap (option_map seen) none

-- what a link of a name comes to
abbrev pub sought_link : Searcher → Name → Option ℕ → Result ℕ Errno
sought_link by name None = Err ENOKEY
sought_link by name (Some serial) = sought by name (serial ∷ [])

-- among the links of a keyring no other than that of the name counts
pub links_come_to : (keys : Table Key) (by : Searcher) (name : Name) (links : LinkList) → by.keys ≡ shown keys
    → AreNamed (name_at keys) links → sought by name (serials links) ≡ sought_link by name (serial_named links name)
links_come_to keys by name [] same named = refl
links_come_to keys by name (link ∷ links) same named =
    sought_append by name (link.1 ∷ []) (serials links)
    ∙ (elim (same_name name link.0) as (λ b. same_name name link.0 ≡ b
    → or_next (sought by name (link.1 ∷ [])) (sought by name (serials links))
    ≡ sought_link by name (option_map (λ (l : Name × ℕ). l.1)
    (cond b (Some link) (find (λ (l : Name × ℕ). same_name name l.0) links)))) [
      | true ↦ λ t. ap (or_next (sought by name (link.1 ∷ [])))
          (links_come_to keys by name links same named.1 ∙ ap (sought_link by name)
          (ap (serial_named links) (equal_names name link.0 t) ∙ named.2))
          ∙ next_none (sought by name (link.1 ∷ []))
      | false ↦ λ t. ap (λ r. or_next r (sought by name (serials links)))
          (unnamed_comes_to by name link.1 (ap (λ (ks : Table model.Key). is_named name (at ks link.1)) same
          ∙ (named_at keys name link.0 link.1 named.0 ∙ t)))
          ∙ (sym (sought_append by name [] (serials links)) ∙ links_come_to keys by name links same named.1)
    ] refl)
