-- What is possessed and what a look-up meets where a thread or process keyring is made.
use Rattle.std.proofs.Common.{[], ⊎_elim, ◌&&◌, ◌++◌, ◌==◌, ◌∙◌, ◌∷◌, ◌≡◌, ◌≢◌, ◌⊎◌, ap, arith, Bool, cond, Err}
use Rattle.std.proofs.Common.{false, flat_map, inr, List, None, Ok, Option, refl, Result, Some, suc, sym, true}
use Rattle.std.proofs.{Common.{zero, ℕ, ℤ}, lemmas.{Bool.Decides.nat_tests, Grind.flat_map-append}}
use Rattle.std.proofs.lemmas.List.Folds.{list_any-append}
use Rattle.krs_types.specs.declared.{caller.Caller.Caller, context.Context.Context, errno.Errno.Errno}
use Rattle.krs_types.specs.declared.{errno.Errno.TheVariants.ENOKEY, key_id.KeyId.KeyId, rights.Rights.Rights}
use Rattle.krs_types.specs.{declared.rights.Want.{Want, TheVariants.Granted}, KeyId.key_id_of, Refusing.◌>>=◌}
use Rattle.krs_types.specs.{Refusing.or_refuse, Rights.{has_all, SEARCH}}
use Rattle.krs_model.specs.{Access.{is_alive, rights_on}, Levels.{is_in, level, levels, search_depth}}
use Rattle.krs_model.specs.{Lookup.{attachment, if_usable, look_up, serial_of}, Making.special_ring}
use Rattle.krs_model.specs.{Possession.{followed, followed_in, links_of_content, possessed}, State.{Key, State}}
use Rattle.krs_model.specs.Table.{at, put, Table}
use Rattle.krs_model.proofs.{MadeKeyring.State.{at_other, either_at, HasMade, StandsFor}, Reach.Acyclic.heads_first}
use Rattle.krs_model.proofs.{Reach.Levels.{in_right, same_is}, Tables.Changes.at_put_same}
use Rattle.std.proofs.lemmas.Grind.{common_steps}

pub none_followed : (b : Bool) (links : List ℕ) → links ≡ [] → cond b links [] ≡ []
none_followed true links empty = empty
none_followed false links empty = refl

-- an empty keyring has no links to follow
followed_put :
    (clock : ℕ) (caller : Caller) (es : Table Key) (n k : ℕ) (v : Key) → at es n ≡ None
    → links_of_content v.content ≡ []
    → followed clock caller (at (put es n v) k) ≡ followed clock caller (at es k)
followed_put clock caller es n k v none empty =
    let entered = is_alive clock v && has_all (rights_on v caller true) SEARCH in
    either_at (λ (o was : Option Key). followed clock caller o ≡ followed clock caller was) es n k v none
    (λ e. none_followed entered (links_of_content v.content) empty) (λ o. refl)

-- the same links are followed
pub same_followed :
    (s t : State) (c d : Context) (desc before after : List ℕ) → HasMade s c t d desc before after
    → at s.keys s.next_serial ≡ None → followed_in t d ≡ followed_in s c
same_followed s t c d desc before after made none = grind (arith, nat_tests, followed_put)

-- a further head that links nothing is in the first level alone
level_further :
    (links : ℕ → List ℕ) (before after : List ℕ) (n m : ℕ) → links n ≡ []
    → level links (before ++ (n ∷ after)) (suc m) ≡ level links (before ++ after) (suc m)
unfolding level
level_further links before after n zero empty = grind (arith, nat_tests, flat_map-append)
level_further links before after n (suc m) empty = ap (flat_map links) (level_further links before after n m empty)

in_further :
    (before after : List ℕ) (n k : ℕ) → (n == k) ≡ false → is_in k (before ++ (n ∷ after)) ≡ is_in k (before ++ after)
in_further before after n k apart = grind (arith, nat_tests, list_any-append)

levels_further :
    (links : ℕ → List ℕ) (before after : List ℕ) (n k m : ℕ) → links n ≡ [] → (n == k) ≡ false
    → is_in k (levels links (before ++ (n ∷ after)) m) ≡ is_in k (levels links (before ++ after) m)
unfolding level levels
levels_further links before after n k zero empty apart = refl
levels_further links before after n k (suc zero) empty apart = in_further before after n k apart
levels_further links before after n k (suc (suc m)) empty apart =
    grind (
      arith,
      nat_tests,
      list_any-append,
      level_further,
      levels_further links before after n k (suc m) empty
          apart,
    )

not_equal : (n k : ℕ) → k ≢ n → (n == k) ≡ false
not_equal n k other = let turned : n ≢ k = λ e. other (sym e) in grind (arith, nat_tests)

-- other keys are possessed as they were
pub possessed_other :
    (s t : State) (c d : Context) (desc before after : List ℕ) (k : ℕ) → HasMade s c t d desc before after
    → at s.keys s.next_serial ≡ None → k ≢ s.next_serial → possessed t d k ≡ possessed s c k
unfolding possessed
possessed_other s t c d desc before after k made none other =
    let n = s.next_serial in
    let empty : followed_in s c n ≡ [] = ap (followed s.clock c.caller) none in
    rw (
      same_followed s t c d desc before after made none,
      made.is,
      levels_further (followed_in s c) before after n
          k (suc search_depth) empty (not_equal n k other),
      ← made.was,
    )

-- the new keyring is possessed
pub possessed_new :
    (s t : State) (c d : Context) (desc before after : List ℕ) → HasMade s c t d desc before after
    → possessed t d s.next_serial ≡ true
unfolding possessed
possessed_new s t c d desc before after made = grind (arith, nat_tests, same_is, in_right, heads_first)

serial_by :
    (s t : State) (c d : Context) (named : Result KeyId Errno) → ((id : KeyId) → StandsFor s c t d id)
    → ((named >>= (λ x. or_refuse ENOKEY (attachment t d x))) ≡ Ok s.next_serial) ⊎
    ((named >>= (λ x. or_refuse ENOKEY (attachment t d x))) ≡ (named >>= (λ x. or_refuse ENOKEY (attachment s c x))))
serial_by s t c d (Err e) stands_for = inr refl
serial_by s t c d (Ok id) stands_for = grind (arith, common_steps, ⊎_elim)

-- an id stands for the new keyring, or for what it stood for
pub serial_either :
    (s t : State) (c d : Context) (desc before after : List ℕ) (id : ℤ) → HasMade s c t d desc before after
    → (serial_of t d id ≡ Ok s.next_serial) ⊎ (serial_of t d id ≡ serial_of s c id)
unfolding serial_of
serial_either s t c d desc before after id made = serial_by s t c d (key_id_of id) made.stands_for

abbrev looked_at : State → Context → Want → ℕ → Result (ℕ × Key) Errno
looked_at s c want serial = or_refuse ENOKEY (at s.keys serial) >>= (λ key. if_usable s c want serial key)

looked_at_other :
    (s t : State) (c d : Context) (desc before after : List ℕ) (want : Want) (k : ℕ)
    → HasMade s c t d desc before after → at s.keys s.next_serial ≡ None → k ≢ s.next_serial
    → looked_at t d want k ≡ looked_at s c want k
looked_at_other s t c d desc before after want k made none other = grind (arith, nat_tests, possessed_other, at_other)

look_up_by :
    (s t : State) (c d : Context) (want : Want) (n : ℕ) (serial : Result ℕ Errno)
    → ((k : ℕ) → k ≢ n → looked_at t d want k ≡ looked_at s c want k) → (serial ≡ Ok n → ⊥)
    → (serial >>= looked_at t d want) ≡ (serial >>= looked_at s c want)
look_up_by s t c d want n (Err e) same other = refl
look_up_by s t c d want n (Ok k) same other = same k (λ e. other (ap Ok e))

-- another key is looked up as it was
pub look_up_other :
    (s t : State) (c d : Context) (desc before after : List ℕ) (id : ℤ) (want : Want)
    → HasMade s c t d desc before after → at s.keys s.next_serial ≡ None
    → (serial_of t d id ≡ Ok s.next_serial → ⊥) → look_up t d id want ≡ look_up s c id want
unfolding look_up
look_up_other s t c d desc before after id want made none other =
    let n = s.next_serial in
    let same : (k : ℕ) → k ≢ n → looked_at t d want k ≡ looked_at s c want k = λ k apart.
    looked_at_other s t c d desc before after want k made none apart in
    ⊎_elim (λ (e : serial_of t d id ≡ Ok n). absurd (other e))
    (λ (e : serial_of t d id ≡ serial_of s c id).
    ap (λ (serial : Result ℕ Errno). serial >>= looked_at t d want) e
    ∙ look_up_by s t c d want n (serial_of s c id) same (λ (h : serial_of s c id ≡ Ok n). other (e ∙ h)))
    (serial_either s t c d desc before after id made)

-- its maker possesses a thread or process keyring with all rights
pub own_rights : (desc : List ℕ) (c : Caller) → rights_on (special_ring desc c) c true ≡ 63
own_rights desc c = search same_is depth 8

-- the new keyring is there, and its maker has all rights on it
pub there_new :
    (s t : State) (c d : Context) (desc before after : List ℕ) → HasMade s c t d desc before after
    → at t.keys s.next_serial ≡ Some (special_ring desc c.caller)
there_new s t c d desc before after made = grind (arith, nat_tests, at_put_same)

pub rights_new :
    (s t : State) (c d : Context) (desc before after : List ℕ) → HasMade s c t d desc before after
    → rights_on (special_ring desc c.caller) d.caller (possessed t d s.next_serial) ≡ 63
rights_new s t c d desc before after made = grind (arith, nat_tests, possessed_new, own_rights)

-- the new keyring is looked up for any right
pub look_up_new :
    (s t : State) (c d : Context) (desc before after : List ℕ) (id : ℤ) (wanted : Rights)
    → HasMade s c t d desc before after → serial_of t d id ≡ Ok s.next_serial → has_all 63 wanted ≡ true
    → look_up t d id (Granted wanted) ≡ Ok (s.next_serial, special_ring desc c.caller)
unfolding look_up
look_up_new s t c d desc before after id wanted made named all = grind (arith, nat_tests, there_new, rights_new)
