-- Names by place, and how many nested keyrings stand before a place.
use Rattle.std.proofs.Common.{[], ◌&&◌, ◌+◌, ◌<◌, ◌∷◌, ◌≡◌, ap, arith, Bool, cond, false, get_or, length, None, refl}
use Rattle.std.proofs.{Common.{slice_get, Some, suc, sym, take, true, unwrap_or, zero, ℕ}, lemmas.Option.none-some}
use Rattle.krs_types.specs.declared.name.Name.{Name}
use Rattle.krs_links.specs.Links.{is_ring, LinkList, names, nested}
use Rattle.std.proofs.lemmas.Grind.{common_steps}

-- the link at a place has the name there
pub link_named_at :
    (links : LinkList) (place : ℕ) (name : Name) → slice_get (names links) place ≡ Some name
    → slice_get links place ≡ Some (name, (get_or links place (name, 0)).1)
link_named_at [] place name here = absurd (none-some name here)
link_named_at (x ∷ xs) zero name here = ap (λ o. Some (unwrap_or o name, x.1)) here
link_named_at (x ∷ xs) (suc place) name here = link_named_at xs place name here

-- where no name stands, no link does
pub no_link_at :
    (links : LinkList) (place : ℕ) → slice_get (names links) place ≡ None → slice_get links place ≡ None
no_link_at [] place none = refl
no_link_at (x ∷ xs) zero none = absurd (none-some x.0 (sym none))
no_link_at (x ∷ xs) (suc place) none = no_link_at xs place none

-- where links stand, names do
pub names_within :
    (links : LinkList) (place : ℕ) → place < length links → slice_get (names links) place ≡ None → ⊥
names_within [] place lt none = absurd (omega arith)
names_within (x ∷ xs) zero lt none = absurd (none-some x.0 (sym none))
names_within (x ∷ xs) (suc place) lt none = names_within xs place (omega arith) none

one_more : (r : Bool) (m n : ℕ) → m ≡ cond r (n + 1) n → suc m ≡ cond r (suc n + 1) (suc n)
one_more true m n h = let more : suc m ≡ suc (n + 1) = ap (λ k. suc k) h in omega (arith, more)
one_more false m n h = ap (λ k. suc k) h

rings_next :
    (links : LinkList) (place : ℕ) (link : Name × ℕ) → slice_get links place ≡ Some link
    → length (nested (take (suc place) links)) ≡ cond (is_ring link.0) (length (nested (take place links)) + 1)
    (length (nested (take place links)))
rings_next [] place link here = absurd (none-some link here)
rings_next (x ∷ xs) zero link here = grind (arith, common_steps, unwrap_or)
rings_next (x ∷ xs) (suc place) link here = grind (arith, common_steps, one_more, rings_next xs place link here)

-- one place further stands one nested keyring more, where the link there is one to a keyring
pub rings_one_more :
    (links : LinkList) (place : ℕ) (link : Name × ℕ) → slice_get links place ≡ Some link
    → length (nested (take (place + 1) links)) ≡ cond (is_ring link.0) (length (nested (take place links)) + 1)
    (length (nested (take place links)))
rings_one_more links place link here = grind (arith, common_steps, rings_next)

pub never_both : (b : Bool) → (b && false) ≡ false
never_both true = refl
never_both false = refl
