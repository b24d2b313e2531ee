-- The keys of a name that possessed keyrings link.
use Rattle.std.proofs.Common.{[], ◌+◌, ◌<◌, ◌==◌, ◌||◌, ◌∙◌, ◌∷◌, ◌≡◌, ap, append-nil, Bool, cond, false}
use Rattle.std.proofs.Common.{flat_map, get_or, length, List, None, Option, option_to_list, refl, Some, sym, take}
use Rattle.std.proofs.Common.{arith, true, ℕ}
use Rattle.std.specs.List.{list_any}
use Rattle.std.proofs.lemmas.{Grind.flat_map-append, List.take_more}
use Rattle.krs_types.specs.declared.{caller.Caller.Caller, name.Name.Name}
use Rattle.krs_model.specs.{Levels.{is_in, search_depth}, Possession.{attached_with, followed_at, is_followed}}
use Rattle.krs_model.specs.Table.{at, Table}
use Rattle.krs_links.specs.Links.{serial_named}
use Rattle.krs_keys.specs.Keys.{AreFit, name_at, named_links_of_content, OnlyRingsLink, seen, shown}
use Rattle.krs_keys.specs.declared.key.Key.{Key}
use Rattle.krs_walk.specs.{Lists.join, Searching.{AreMatches, held_to, is_held, match_by, match_followed, matches_by}}
use Rattle.krs_walk.specs.{Walks.{follows_link_to, is_found, is_linked}, declared.search.Search.Search}
use Rattle.krs_walk.proofs.{HeldLemmas.in_joined, ListsLemmas.{any_join, in_append, join_append}}
use Rattle.krs_walk.proofs.PossessionLemmas.{followed_absent, followed_there, found_linked, possession_splits}
use Rattle.std.proofs.lemmas.Grind.{common_steps}

any_same : (p q : ℕ → Bool) (xs : List ℕ) → ((j : ℕ) → p j ≡ q j) → list_any p xs ≡ list_any q xs
any_same p q [] h = refl
any_same p q (x ∷ xs) h = ap (λ b. b || list_any p xs) (h x) ∙ ap (λ b. q x || b) (any_same p q xs h)

in_flat_any : (k : ℕ) (f : ℕ → List ℕ) (xs : List ℕ) → is_in k (flat_map f xs) ≡ list_any (λ j. is_in k (f j)) xs
in_flat_any k f [] = refl
in_flat_any k f (x ∷ xs) = in_append k (f x) (flat_map f xs) ∙ ap (λ b. is_in k (f x) || b) (in_flat_any k f xs)

or_none : (b : Bool) → (b || false) ≡ b
or_none true = refl
or_none false = refl

in_option : (k : ℕ) (o : Option ℕ) → is_in k (option_to_list o) ≡ is_found k o
in_option k None = refl
in_option k (Some j) = or_none (j == k)

-- a keyring links a key of the name, and its possessor follows that, where its match is that key
match_links : (keys : Table Key) (clock : ℕ) (caller : Caller) (name : Name) (ring serial : ℕ) (o : Option Key)
    → at keys ring ≡ o → AreFit keys → name_at keys serial ≡ Some name
    → is_found serial (match_followed clock caller name o) ≡ is_in serial (followed_at (shown keys) clock caller ring)
match_links keys clock caller name ring serial None there fit named = grind (arith, common_steps, followed_absent)
match_links keys clock caller name ring serial (Some key) there fit named =
    elim (is_followed clock caller (seen key)) as (λ b. is_followed clock caller (seen key) ≡ b
    → is_found serial (cond b (serial_named (named_links_of_content key.content) name) None)
    ≡ is_in serial (followed_at (shown keys) clock caller ring)) [
      | true ↦ λ t. found_linked (name_at keys) (named_links_of_content key.content) name serial
          (fit ring key there) named
          ∙ ap (is_in serial) (sym (followed_there keys clock caller ring key true there t))
      | false ↦ λ t. ap (is_in serial) (sym (followed_there keys clock caller ring key false there t))
    ] refl

-- what the keyrings whose links are possessed have as matches is what is linked
pub are_matches : (s : Search) (rings found : List ℕ) → AreFit s.keys.now.keys
    → rings ≡ join [] (held_to s search_depth) → found ≡ join [] (flat_map (matches_by s) rings) → AreMatches s found
are_matches s rings found fit whole e = λ serial named.
    let keys = s.keys.now.keys in
    let links = follows_link_to (shown keys) s.clock s.context.now.caller serial in
    in_joined found (flat_map (matches_by s) rings) serial e
    ∙ (in_flat_any serial (matches_by s) rings
    ∙ (any_same (λ j. is_in serial (matches_by s j)) links rings (λ ring. in_option serial (match_by s ring)
    ∙ match_links keys s.clock s.context.now.caller s.name.now ring serial (at keys ring) refl fit named)
    ∙ (ap (list_any links) whole ∙ any_join links [] (held_to s search_depth))))

-- besides what is attached, what is linked is possessed
pub linked_held : (s : Search) (serial : ℕ) → OnlyRingsLink (shown s.keys.now.keys)
    → is_in serial (attached_with s.context.now s.process_ring) ≡ false
    → is_linked (shown s.keys.now.keys) s.clock s.context.now s.process_ring serial ≡ is_held s serial
linked_held s serial only e = grind (arith, common_steps, possession_splits)

-- one keyring more
pub matches_more : (f : ℕ → List ℕ) (xs old all next : List ℕ) (place here : ℕ)
    → all ≡ join old (flat_map f (take place xs)) → place < length xs → here ≡ get_or xs place 0
    → next ≡ join all (f here) → next ≡ join old (flat_map f (take (place + 1) xs))
matches_more f xs old all next place here before lt h e =
    grind (arith, common_steps, get_or, flat_map, take_more, flat_map-append, append-nil, join_append)
