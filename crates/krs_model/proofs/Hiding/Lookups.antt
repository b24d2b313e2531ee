-- What is possessed, and what an id names, with the payloads hidden.
use Rattle.std.proofs.{Common.{[], ◌≡◌, ap, arith, cond, List, refl, ℕ, ℤ}, lemmas.Bool.Decides.nat_tests}
use Rattle.krs_types.specs.declared.{context.Context.Context, errno.Errno.Errno, rights.Want.Want}
use Rattle.krs_types.specs.Refusing.{or_refuse}
use Rattle.krs_model.specs.{Hiding.{blind, blind_content, blind_key, blind_keys, Hiding, over}, Levels.is_in}
use Rattle.krs_model.specs.{Levels.levels, Lookup.{if_usable, look_up, serial_of}, Possession.{attached, followed}}
use Rattle.krs_model.specs.{Possession.{followed_in, is_followed, links_of_content, possessed}, State.{Content, Key}}
use Rattle.krs_model.specs.{State.{Links, Payload, State}, Table.{at, Table}}
use Rattle.krs_model.proofs.Hiding.{Keys.{at_blind, seen}, Over.{after, bound, either}}

-- a content links what it did
pub same_links : (h : List ℕ → List ℕ) (content : Content)
    → links_of_content (blind_content h content) ≡ links_of_content content
same_links h (Payload bytes) = refl
same_links h (Links serials) = refl

pub same_followed : (hide : Hiding) (s : State) (c : Context) → followed_in (blind hide s) c ≡ followed_in s c
same_followed hide s c =
    let each : (k : ℕ) → followed_in (blind hide s) c k ≡ followed_in s c k = λ k.
    seen hide s.keys (followed s.clock c.caller) k (λ v.
    ap (λ (links : List ℕ). cond (is_followed s.clock c.caller v) links []) (same_links (hide k) v.content)) in
    λ i k. each k i

-- what is possessed is what was
pub same_possessed : (hide : Hiding) (s : State) (c : Context) (k : ℕ) → possessed (blind hide s) c k ≡ possessed s c k
unfolding possessed
same_possessed hide s c k =
    ap (λ (links : ℕ → List ℕ). is_in k (levels links (attached s c) 8)) (same_followed hide s c)

-- a serial and the key there, with its payload hidden
abbrev pub blind_found : Hiding → ℕ × Key → ℕ × Key
blind_found hide found = (found.0, blind_key (hide found.0) found.1)

same_usable :
    (hide : Hiding) (s : State) (c : Context) (want : Want) (n : ℕ) (key : Key)
    → if_usable (blind hide s) c want n (blind_key (hide n) key) ≡ over (blind_found hide) (if_usable s c want n key)
same_usable hide s c want n key = search (same_possessed, either) depth 8

pub there_blind : (hide : Hiding) (keys : Table Key) (e : Errno) (k : ℕ)
    → or_refuse e (at (blind_keys hide keys) k) ≡ over (blind_key (hide k)) (or_refuse e (at keys k))
there_blind hide keys e k = grind (arith, nat_tests, at_blind)

-- what an id names is found, with its payload hidden
pub look_up_blind :
    (hide : Hiding) (s : State) (c : Context) (id : ℤ) (want : Want)
    → look_up (blind hide s) c id want ≡ over (blind_found hide) (look_up s c id want)
unfolding look_up serial_of
look_up_blind hide s c id want = search (after, there_blind, bound, same_usable) depth 8
