-- A link to a key that holds a payload, which links nothing.
use Rattle.std.proofs.Common.{[], ⊎_elim, ◌++◌, ◌∙◌, ◌∷◌, ◌≡◌, ◌≢◌, ap, arith, false, flat_map, List, Ok}
use Rattle.std.proofs.{Common.{Some, suc, sym, true, true≢false, zero, ℕ}, lemmas.Option.same_Some}
use Rattle.krs_model.specs.Asks.Adding.{IsKeyringAt}
use Rattle.krs_model.specs.{Asks.Linked.nestable, Levels.{is_in, level, levels}, Possession.links_of_content}
use Rattle.krs_model.specs.Reach.{closes, has_chain, links_of_key_at, nesting_depth}
use Rattle.krs_model.specs.{State.{Key, Payload, State}, Sweep.links_of_key, Table.{at, Table}}
use Rattle.krs_model.proofs.Reach.Levels.{in_one, only_in}
use Rattle.std.proofs.lemmas.Grind.{common_steps}

-- below a key that links nothing there are no levels
no_level : (links : ℕ → List ℕ) (k n : ℕ) → links k ≡ [] → level links (k ∷ []) (suc n) ≡ []
unfolding level
no_level links k zero leaf = ap (λ (zs : List ℕ). zs ++ []) leaf
no_level links k (suc n) leaf = ap (flat_map links) (no_level links k n leaf)

at_level : (links : ℕ → List ℕ) (k j n : ℕ) → links k ≡ [] → j ≢ k → is_in j (level links (k ∷ []) n) ≡ true → ⊥
unfolding level
at_level links k j zero leaf apart h = apart (only_in j k h)
at_level links k j (suc n) leaf apart h = grind (arith, common_steps, true≢false, no_level)

-- so it reaches no other key
reaches_none : (links : ℕ → List ℕ) (k j n : ℕ) → links k ≡ [] → j ≢ k → is_in j (levels links (k ∷ []) n) ≡ true → ⊥
unfolding levels
reaches_none links k j zero leaf apart h = true≢false (sym h)
reaches_none links k j (suc n) leaf apart h =
    ⊎_elim (λ (before : is_in j (levels links (k ∷ []) n) ≡ true). reaches_none links k j n leaf apart before)
    (λ (last : is_in j (level links (k ∷ []) n) ≡ true). at_level links k j n leaf apart last)
    (in_one j (levels links (k ∷ []) n) (level links (k ∷ []) n) h)

payload_alone : (keys : Table Key) (serial : ℕ) (key : Key) (bytes : List ℕ) → at keys serial ≡ Some key
    → key.content ≡ Payload bytes → links_of_key_at keys serial ≡ []
payload_alone keys serial key bytes there is = ap links_of_key there ∙ ap links_of_content is

-- it is no keyring
payload_apart : (s : State) (ring serial : ℕ) (key : Key) (bytes : List ℕ) → IsKeyringAt s ring
    → at s.keys serial ≡ Some key → key.content ≡ Payload bytes → ring ≢ serial
payload_apart s ring serial key bytes keyring there is = grind (arith, common_steps, same_Some)

payload_closes_none : (s : State) (ring serial : ℕ) (key : Key) (bytes : List ℕ) → IsKeyringAt s ring
    → at s.keys serial ≡ Some key → key.content ≡ Payload bytes → closes s.keys serial ring ≡ false
unfolding closes
payload_closes_none s ring serial key bytes keyring there is =
    grind (arith, common_steps, reaches_none, payload_alone, payload_apart)

payload_has_no_chain : (keys : Table Key) (serial : ℕ) (key : Key) (bytes : List ℕ) → at keys serial ≡ Some key
    → key.content ≡ Payload bytes → has_chain keys serial nesting_depth ≡ false
unfolding has_chain
payload_has_no_chain keys serial key bytes there is = grind (arith, common_steps, no_level, payload_alone)

-- a keyring may link it, however deep that is nested
pub payload_nests : (s : State) (ring serial : ℕ) (key : Key) (bytes : List ℕ) → IsKeyringAt s ring
    → at s.keys serial ≡ Some key → key.content ≡ Payload bytes → nestable s.keys ring serial ≡ Ok (tt {0})
unfolding nestable
payload_nests s ring serial key bytes keyring there is =
    grind (arith, common_steps, payload_closes_none, payload_has_no_chain)
