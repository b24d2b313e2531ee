-- What a search finds with the payloads hidden.
use Rattle.std.proofs.Common.{[], ◌∙◌, ◌∷◌, ◌≡◌, ap, arith, cond, find, flat_map, List, not, refl, ℕ}
use Rattle.std.specs.List.{list_any}
use Rattle.krs_types.specs.{declared.{context.Context.Context, name.Name.Name}, Refusing.or_refuse}
use Rattle.krs_model.specs.{Access.is_over, Hiding.{blind, blind_keys, Hiding}, Levels.levels, Possession.possessed}
use Rattle.krs_model.specs.{Possession.process_ring, Search.{entered, fault, found, found_by, grants_search}}
use Rattle.krs_model.specs.Search.{is_answer, is_denied, is_expired, is_match, is_open, is_revoked, open_links}
use Rattle.krs_model.specs.{Search.{requested, requested_by, searched, Searcher, searcher_with, sought}, State.State}
use Rattle.krs_model.proofs.Hiding.{Keys.seen, Lookups.{same_links, same_possessed}}
use Rattle.std.proofs.lemmas.Grind.{common_steps}

-- one who searches keys with their payloads hidden
abbrev hid : Hiding → Searcher → Searcher
hid hide by = record by { keys = blind_keys hide by.keys }

same_entered : (hide : Hiding) (by : Searcher) (k : ℕ) → entered (hid hide by) k ≡ entered by k
same_entered hide by k =
    seen hide by.keys (open_links by k) k (λ v.
    ap (λ (links : List ℕ). cond (is_open by k v) links []) (same_links (hide k) v.content))

same_searched : (hide : Hiding) (by : Searcher) (head : ℕ) → searched (hid hide by) head ≡ searched by head
unfolding searched
same_searched hide by head = λ i. levels (λ k. same_entered hide by k i) (head ∷ []) 8

same_sought : (hide : Hiding) (by : Searcher) (name : Name) (serials : List ℕ)
    → sought (hid hide by) name serials ≡ sought by name serials
same_sought hide by name serials =
    let revoked : (k : ℕ) → is_revoked (hid hide by) name k ≡ is_revoked by name k = λ k.
    seen hide by.keys (is_match name (λ key. key.revoked)) k (λ v. refl) in
    let expired : (k : ℕ) → is_expired (hid hide by) name k ≡ is_expired by name k = λ k.
    seen hide by.keys (is_match name (λ key. is_over by.clock key.expiry)) k (λ v. refl) in
    let denied : (k : ℕ) → is_denied (hid hide by) name k ≡ is_denied by name k = λ k.
    seen hide by.keys (is_match name (λ key. not (grants_search by k key))) k (λ v. refl) in
    let answers : (k : ℕ) → is_answer (hid hide by) name k ≡ is_answer by name k = λ k.
    seen hide by.keys (is_match name (is_open by k)) k (λ v. refl) in
    λ i. or_refuse
    (fault (list_any (λ k. revoked k i) serials) (list_any (λ k. expired k i) serials)
    (list_any (λ k. denied k i) serials))
    (find (λ k. answers k i) serials)

same_found_by : (hide : Hiding) (by : Searcher) (head : ℕ) (name : Name)
    → found_by (hid hide by) head name ≡ found_by by head name
same_found_by hide by head name = grind (arith, common_steps, same_sought, same_searched)

same_requested_by : (hide : Hiding) (by : Searcher) (heads : List ℕ) (name : Name)
    → requested_by (hid hide by) heads name ≡ requested_by by heads name
same_requested_by hide by heads name =
    same_sought hide by name (flat_map (searched (hid hide by)) heads)
    ∙ (λ i. sought by name (flat_map (λ head. same_searched hide by head i) heads))

same_searcher :
    (hide : Hiding) (s : State) (c : Context)
    → searcher_with (blind_keys hide s.keys) s.clock c (process_ring s c.process)
    ≡ hid hide (searcher_with s.keys s.clock c (process_ring s c.process))
unfolding possessed
same_searcher hide s c = λ i. record {
  keys = blind_keys hide s.keys;
  clock = s.clock;
  caller = c.caller;
  possesses = λ k. same_possessed hide s c k i;
}

-- a search finds what it did
pub same_found : (hide : Hiding) (s : State) (c : Context) (head : ℕ) (name : Name)
    → found (blind hide s) c head name ≡ found s c head name
unfolding found
same_found hide s c head name = search (same_searcher, same_found_by) depth 8

-- and so does a request
pub same_requested : (hide : Hiding) (s : State) (c : Context) (name : Name)
    → requested (blind hide s) c name ≡ requested s c name
unfolding requested
same_requested hide s c name = search (same_searcher, same_requested_by) depth 8
