-- What a keyring's links come to in a search, and those of a level.
use Rattle.std.proofs.Common.{[], ◌&&◌, ◌∙◌, ◌∷◌, ◌≡◌, ap, Bool, cond, Err, false, filter, List, None, refl, Some, sym}
use Rattle.std.proofs.Common.{arith, true, true≢false, ℕ}
use Rattle.krs_types.specs.declared.errno.Errno.{Errno}
use Rattle.krs_model.specs.{Levels.is_in, Possession.links_of_content, Reach.is_ring}
use Rattle.krs_model.specs.{Search.{entered, is_open, open_links, or_next}, Sweep.links_of_key, Table.{at, Table}}
use Rattle.krs_links.specs.Links.{nested, serials}
use Rattle.krs_keys.specs.Changes.{links_some}
use Rattle.krs_keys.specs.Keys.{AreFit, named_links_of_content, OnlyRingsLink, seen, seen_content, shown}
use Rattle.krs_keys.specs.declared.key.{Content.{Content, TheVariants.{Links, Payload}}, Key.Key}
use Rattle.krs_walk.specs.Lists.{join}
use Rattle.krs_walk.specs.{Searching.{entered_rings, searcher_for, sought_in}, declared.search.Search.Search}
use Rattle.krs_walk.proofs.KeyringsLemmas.{nested_serials}
use Rattle.krs_walk.proofs.{SoughtLemmas.{next_none, seen_there, unseen}}
use Rattle.krs_walk.proofs.ListsLemmas.{in_head}
use Rattle.std.proofs.lemmas.Grind.{common_steps}

a_link : (content : Content) → links_some content ≡ true → (k : ℕ)
    × (is_in k (links_of_content (seen_content content)) ≡ true)
a_link (Payload bytes) h = absurd (true≢false (sym h))
a_link (Links []) h = absurd (true≢false (sym h))
a_link (Links (link ∷ links)) h = (link.1, in_head link.1 (serials links))

-- what links is a keyring
pub linking_ring : (keys : Table Key) (ring : ℕ) (key : Key) → OnlyRingsLink (shown keys) → at keys ring ≡ Some key
    → links_some key.content ≡ true → is_ring (at (shown keys) ring) ≡ true
linking_ring keys ring key only there h =
    let k = a_link key.content h in
    only ring k.0 (ap (λ o. is_in k.0 (links_of_key o)) (seen_there keys ring key there) ∙ k.1)

opened : (content : Content) (b : Bool) → cond b (links_of_content (seen_content content)) []
    ≡ cond (links_some content && b) (serials (named_links_of_content content)) []
opened (Payload bytes) true = refl
opened (Payload bytes) false = refl
opened (Links []) true = refl
opened (Links []) false = refl
opened (Links (link ∷ links)) b = refl

-- the links that are examined of a key that is there
pub entered_there : (s : Search) (ring : ℕ) (key : Key) (b : Bool) → at s.keys.now.keys ring ≡ Some key
    → (links_some key.content && is_open (searcher_for s) ring (seen key)) ≡ b →
    entered (searcher_for s) ring ≡ cond b (serials (named_links_of_content key.content)) []
entered_there s ring key b there h =
    ap (open_links (searcher_for s) ring) (seen_there s.keys.now.keys ring key there)
    ∙ (opened key.content (is_open (searcher_for s) ring (seen key))
    ∙ ap (λ (d : Bool). cond d (serials (named_links_of_content key.content)) []) h)

pub entered_absent : (s : Search) (ring : ℕ) → at s.keys.now.keys ring ≡ None → entered (searcher_for s) ring ≡ []
entered_absent s ring none = ap (open_links (searcher_for s) ring) (unseen s.keys.now.keys ring none)

pub rings_entered : (s : Search) (ring : ℕ) (key : Key) → AreFit s.keys.now.keys → at s.keys.now.keys ring ≡ Some key
    → (links_some key.content && is_open (searcher_for s) ring (seen key)) ≡ true →
    entered_rings (searcher_for s) ring ≡ serials (nested (named_links_of_content key.content))
rings_entered s ring key fit there h =
    let passes = λ (k : ℕ). is_ring (at (shown s.keys.now.keys) k) in
    ap (filter passes) (entered_there s ring key true there h)
    ∙ sym (nested_serials s.keys.now.keys (named_links_of_content key.content) (fit ring key there))

-- a keyring of which nothing is examined
pub nothing_sought : (s : Search) (ring : ℕ) (fault : Errno) → entered (searcher_for s) ring ≡ []
    → Err fault ≡ or_next (Err fault) (sought_in s (entered (searcher_for s) ring))
nothing_sought s ring fault h = grind (arith, common_steps, next_none)

pub nothing_joined : (s : Search) (ring : ℕ) (all : List ℕ) → entered (searcher_for s) ring ≡ []
    → all ≡ join all (entered_rings (searcher_for s) ring)
nothing_joined s ring all h = grind (arith, common_steps)
