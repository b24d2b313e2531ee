-- What each call of a key table owes the numbers: for whoever keeps a key table and its numbers together.
use Rattle.std.proofs.Common.{[], ◌++◌, ◌+◌, ◌==◌, ◌||◌, ◌∙◌, ◌∷◌, ◌≡◌, ap, arith, cond, eqb-true, false, find, IsSome}
use Rattle.std.proofs.Common.{List, None, not, Option, option_map, option_to_list, refl, Some, subst, sym, true}
use Rattle.std.proofs.{Common.{true≢false, ℕ}, lemmas.Option.same_Some}
use Rattle.krs_types.specs.{declared.name.Name.Name}
use Rattle.krs_model.specs.{Levels.is_in, Possession.links_of_content, Table.{alter, at, put, Table}}
use Rattle.krs_model.proofs.Tables.Changes.{alter_map, at_map, put_map}
use Rattle.krs_links.specs.Links.{link_put, LinkList, serial_named, serials, unlinked_key}
use Rattle.krs_links.proofs.KeyLinks.{serials-unlinked_key}
use Rattle.krs_keys.specs.{Changes.{changed, cleared_content, emptied, paid_with}, Keys.{AreNamed, displaced_at}}
use Rattle.krs_keys.specs.Keys.{displaced_by, entered, named_links_of_content, seen, shown, with_entry, without_key}
use Rattle.krs_keys.specs.declared.key.{Change.Change, Content.{Content, TheVariants.{Links, Payload}}, Key.Key}
use Rattle.krs_keys.proofs.{KeysLemmas.serials-content, LinkNames.none_left, Unlinking.links-keyless}
use Rattle.krs_hold.specs.{Taken.taken_by, Tally.{all_less, IsTallied, one_less, one_more, times}}
use Rattle.krs_hold.proofs.Tallies.{tallied_hold, tallied_let_go, tallied_let_go_all, tallied_put, tallied_relinked}
use Rattle.krs_hold.proofs.Times.{times-append, times-cons}
use Rattle.krs_keys.specs.declared.key.Change.TheVariants as change
use Rattle.krs_model.specs.State as model
use Rattle.std.proofs.lemmas.Grind.{common_steps}

-- a link more: of its own serial one more, and of what it displaces one less
times-linked :
    (links : LinkList) (name : Name) (serial q : ℕ)
    → times q (serials (link_put links name serial)) + times q (option_to_list (serial_named links name))
    ≡ times q (serial ∷ []) + times q (serials links)
times-linked [] name serial q = refl
times-linked (link ∷ links) name serial q =
    grind (arith, common_steps, times-cons, cond, option_to_list, option_map, find, times-linked links name serial q)

-- a link less: a key is linked once
times-keyless :
    (names : ℕ → Option Name) (serial q : ℕ) (links : LinkList) → AreNamed names links
    → is_in serial (serials links) ≡ true
    → times q (serials (unlinked_key links serial)) + times q (serial ∷ []) ≡ times q (serials links)
times-keyless names serial q [] named there = absurd (true≢false (sym there))
times-keyless names serial q (link ∷ links) named there =
    let rest = unlinked_key links serial in
    let was = times-cons q link.1 (serials links) in
    elim (link.1 == serial) as (λ b. (link.1 == serial) ≡ b → (b || is_in serial (serials links)) ≡ true
    → times q (serials (cond (not b) (link ∷ rest) rest)) + times q (serial ∷ []) ≡ times q (link.1 ∷ serials links)) [
      | true ↦ λ t i.
          let one : link.1 ≡ serial = eqb-true link.1 serial t in
          let own : names serial ≡ Some link.0 = ap names (sym one) ∙ named.0 in
          let others : serials rest ≡ serials links =
          serials-unlinked_key serial links ∙ none_left names link.0 serial links own named.2 named.1 in
          let same = ap (times q) others in
          let single = times-cons q link.1 [] in
          let gone = ap (λ k. times q (k ∷ [])) one in
          omega (arith, was, same, single, gone)
      | false ↦ λ t i.
          let now = times-cons q link.1 (serials rest) in
          let later = times-keyless names serial q links named.1 i in
          omega (arith, was, now, later)
    ] refl there

shown_alter :
    (keys : Table Key) (k : ℕ) (f : Key → Key) (v : Key) → at keys k ≡ Some v
    → shown (alter keys k f) ≡ alter (shown keys) k (λ x. seen (f v))
shown_alter keys k f v there = grind (arith, common_steps, alter_map, same_Some)

-- a key that is changed: what it links less is owed, and what it links more was
pub tallied_alter :
    (keys : Table Key) (attached due owed : List ℕ) (numbers : Table ℕ) (k : ℕ) (f : Key → Key) (v : Key)
    → at keys k ≡ Some v
    → ((q : ℕ) → times q due + times q (serials (named_links_of_content v.content))
    ≡ times q owed + times q (serials (named_links_of_content (f v).content)))
    → IsTallied (shown keys) attached due numbers → IsTallied (shown (alter keys k f)) attached owed numbers
tallied_alter keys attached due owed numbers k f v there same h =
    let found : at (shown keys) k ≡ Some (seen v) = at_map seen keys k ∙ ap (option_map seen) there in
    subst (λ (zs : Table model.Key). IsTallied zs attached owed numbers) (sym (shown_alter keys k f v there))
    (tallied_relinked (shown keys) attached due owed numbers k (λ x. seen (f v)) (seen v) found
    (λ q.
    let both = same q in
    let before : times q (serials (named_links_of_content v.content)) ≡ times q (links_of_content (seen v).content) =
    ap (times q) (serials-content v.content) in
    let after : times q (serials (named_links_of_content (f v).content))
    ≡ times q (links_of_content (seen (f v)).content) =
    ap (times q) (serials-content (f v).content) in
    omega (arith, both, before, after)) h)

-- `hold` of the key, `link`, and `let_go` of what that displaced
pub tallied_link :
    (keys : Table Key) (attached : List ℕ) (numbers : Table ℕ) (ring : ℕ) (name : Name) (serial : ℕ) (v : Key)
    (links : LinkList) → at keys ring ≡ Some v → v.content ≡ Links links → IsSome (at numbers serial)
    → IsTallied (shown keys) attached [] numbers
    → IsTallied (shown (alter keys ring (with_entry name serial))) attached []
    (all_less (option_to_list (displaced_at keys ring name)) (one_more serial numbers))
tallied_link keys attached numbers ring name serial v links there is counted h =
    let displaced = option_to_list (displaced_at keys ring name) in
    let same : displaced ≡ option_to_list (serial_named links name) =
    ap (λ o. option_to_list (displaced_by name o)) there
    ∙ ap (λ c. option_to_list (serial_named (named_links_of_content c) name)) is in
    let after = alter keys ring (with_entry name serial) in
    let held = tallied_hold (shown keys) attached [] numbers serial counted h in
    tallied_let_go_all (shown after) attached displaced [] (one_more serial numbers)
    (tallied_alter keys attached (serial ∷ []) (displaced ++ []) (one_more serial numbers) ring
    (with_entry name serial) v
    there
    (λ q.
    let counts = times-linked links name serial q in
    let gone : times q (displaced ++ []) ≡ times q (option_to_list (serial_named links name)) + 0 =
    times-append q displaced [] ∙ ap (λ xs. times q xs + 0) same in
    let before : times q (serials (named_links_of_content v.content)) ≡ times q (serials links) =
    ap (λ c. times q (serials (named_links_of_content c))) is in
    let new : times q (serials (named_links_of_content (with_entry name serial v).content))
    ≡ times q (serials (link_put links name serial)) =
    ap (λ c. times q (serials (named_links_of_content (entered name serial c)))) is in
    omega (arith, counts, gone, before, new)) held)

-- `unlink`, and `let_go` of the key that was linked
pub tallied_unlink :
    (keys : Table Key) (attached : List ℕ) (numbers : Table ℕ) (names : ℕ → Option Name) (ring serial : ℕ) (v : Key)
    → at keys ring ≡ Some v → AreNamed names (named_links_of_content v.content)
    → is_in serial (serials (named_links_of_content v.content)) ≡ true → IsTallied (shown keys) attached [] numbers
    → IsTallied (shown (alter keys ring (without_key serial))) attached [] (one_less serial numbers)
tallied_unlink keys attached numbers names ring serial v there named link_put h =
    grind (arith, common_steps, tallied_let_go, tallied_alter, times-keyless, links-keyless)

paid_links :
    (payload : List ℕ) (content : Content) → named_links_of_content (paid_with payload content)
    ≡ named_links_of_content content
paid_links payload (Payload old) = refl
paid_links payload (Links links) = refl

emptied_links : (content : Content) → named_links_of_content (emptied content) ≡ []
emptied_links (Payload old) = refl
emptied_links (Links links) = refl

cleared_links : (content : Content) → named_links_of_content (cleared_content content) ≡ []
cleared_links (Payload old) = refl
cleared_links (Links links) = refl

times-changed :
    (c : Change) (v : Key) (q : ℕ)
    → times q (serials (named_links_of_content v.content))
    ≡ times q (taken_by c v.content) + times q (serials (named_links_of_content (changed c v).content))
times-changed (change.Payload payload) v q = grind (arith, common_steps, paid_links)
times-changed (change.Mask mask) v q = omega arith
times-changed (change.Owner uid gid) v q = omega arith
times-changed (change.Expiry expiry) v q = omega arith
times-changed change.Revoked v q = grind (arith, common_steps, emptied_links)
times-changed change.Cleared v q = grind (arith, common_steps, cleared_links)
times-changed change.Closed v q = omega arith

-- `let_go_all` of what the change takes out, and `set`
pub tallied_change :
    (keys : Table Key) (attached : List ℕ) (numbers : Table ℕ) (k : ℕ) (c : Change) (v : Key) → at keys k ≡ Some v
    → IsTallied (shown keys) attached [] numbers
    → IsTallied (shown (alter keys k (changed c))) attached [] (all_less (taken_by c v.content) numbers)
tallied_change keys attached numbers k c v there h =
    let taken = taken_by c v.content in
    let after = alter keys k (changed c) in
    tallied_let_go_all (shown after) attached taken [] numbers
    (tallied_alter keys attached [] (taken ++ []) numbers k (changed c) v there
    (λ q.
    let both = times-changed c v q in
    let all : times q (taken ++ []) ≡ times q taken + 0 = times-append q taken [] in
    omega (arith, both, all)) h)

-- `made`, and `insert` of a key: what it links was counted before
pub tallied_insert :
    (keys : Table Key) (attached due owed : List ℕ) (numbers : Table ℕ) (k : ℕ) (key : Key) → at keys k ≡ None
    → IsSome (at numbers k)
    → ((q : ℕ) → times q due ≡ times q owed + times q (serials (named_links_of_content key.content)))
    → IsTallied (shown keys) attached due numbers → IsTallied (shown (put keys k key)) attached owed numbers
tallied_insert keys attached due owed numbers k key absent there same h =
    subst (λ (zs : Table model.Key). IsTallied zs attached owed numbers) (sym (put_map seen keys k key))
    (tallied_put (shown keys) attached due owed numbers k (seen key)
    (at_map seen keys k ∙ ap (option_map seen) absent) there
    (λ q.
    let both = same q in
    let links : times q (serials (named_links_of_content key.content)) ≡ times q (links_of_content (seen key).content) =
    ap (times q) (serials-content key.content) in
    omega (arith, both, links)) h)
