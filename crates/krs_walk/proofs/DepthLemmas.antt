-- The levels below one key, by what it links.
use Rattle.std.proofs.Common.{[], ◌++◌, ◌-◌, ◌||◌, ◌∙◌, ◌∷◌, ◌≡◌, ap, append-nil, append_assoc, arith, Bool, false}
use Rattle.std.proofs.Common.{flat_map, List, refl, suc, sym, true, zero, ℕ}
use Rattle.std.specs.List.{list_any}
use Rattle.std.proofs.lemmas.{Grind.flat_map-append, List.Folds.list_any-append}
use Rattle.krs_model.specs.{Levels.{level, levels}, Reach.{has_chain, is_some_in, nested_in}, State.Key, Table.Table}
use Rattle.std.proofs.lemmas.Grind.{common_steps}

-- the levels are the heads, and what the levels above link
pub levels_unrolled : (f : ℕ → List ℕ) (heads : List ℕ) (n : ℕ)
    → levels f heads (suc n) ≡ heads ++ flat_map f (levels f heads n)
unfolding level levels
levels_unrolled f heads zero = sym (append-nil heads)
levels_unrolled f heads (suc n) =
    grind (arith, common_steps, append_assoc, flat_map, flat_map-append, levels_unrolled f heads n)

level_below : (f : ℕ → List ℕ) (heads : List ℕ) (n : ℕ) → level f heads (suc n) ≡ level f (flat_map f heads) n
unfolding level
level_below f heads zero = refl
level_below f heads (suc n) = ap (flat_map f) (level_below f heads n)

-- and the heads, and the levels of what they link
pub levels_below : (f : ℕ → List ℕ) (heads : List ℕ) (n : ℕ) → levels f heads (suc n)
    ≡ heads ++ levels f (flat_map f heads) n
unfolding level levels
levels_below f heads zero = sym (append-nil heads)
levels_below f heads (suc n) = grind (arith, common_steps, append_assoc, flat_map, level_below, levels_below f heads n)

pub flat_flat : (f g : ℕ → List ℕ) (xs : List ℕ) → flat_map f (flat_map g xs) ≡ flat_map (λ x. flat_map f (g x)) xs
flat_flat f g [] = refl
flat_flat f g (x ∷ xs) =
    flat_map-append f (g x) (flat_map g xs) ∙ ap (λ zs. flat_map f (g x) ++ zs) (flat_flat f g xs)

level_cons : (f : ℕ → List ℕ) (x : ℕ) (xs : List ℕ) (n : ℕ)
    → level f (x ∷ xs) n ≡ level f (x ∷ []) n ++ level f xs n
unfolding level
level_cons f x xs zero = refl
level_cons f x xs (suc n) = grind (arith, common_steps, flat_map, flat_map-append, level_cons f x xs n)

level_none : (f : ℕ → List ℕ) (n : ℕ) → level f [] n ≡ []
unfolding level
level_none f zero = refl
level_none f (suc n) = ap (flat_map f) (level_none f n)

-- a level is that of each head
level_heads : (f : ℕ → List ℕ) (xs : List ℕ) (n : ℕ) → level f xs n ≡ flat_map (λ j. level f (j ∷ []) n) xs
level_heads f [] n = level_none f n
level_heads f (x ∷ xs) n = level_cons f x xs n ∙ ap (λ (zs : List ℕ). level f (x ∷ []) n ++ zs) (level_heads f xs n)

-- the next level below a key is that level below each that it links
pub level_links : (f : ℕ → List ℕ) (k n : ℕ)
    → level f (k ∷ []) (suc n) ≡ flat_map (λ j. level f (j ∷ []) n) (f k)
level_links f k n = grind (arith, common_steps, level_below, append-nil, level_heads)

-- and so are the links of that level
pub links_deeper : (f e : ℕ → List ℕ) (k n : ℕ)
    → flat_map e (level f (k ∷ []) (suc n)) ≡ flat_map (λ j. flat_map e (level f (j ∷ []) n)) (f k)
links_deeper f e k n = ap (flat_map e) (level_links f k n) ∙ flat_flat e (λ (j : ℕ). level f (j ∷ []) n) (f k)

levels_none : (f : ℕ → List ℕ) (n : ℕ) → levels f [] n ≡ []
unfolding levels
levels_none f zero = refl
levels_none f (suc n) = ap (λ (zs : List ℕ). zs ++ level f [] n) (levels_none f n) ∙ level_none f n

or_four : (a b c d : Bool) → ((a || b) || (c || d)) ≡ ((a || c) || (b || d))
or_four true b c d = refl
or_four false true true d = refl
or_four false true false d = refl
or_four false false c d = refl

any_cons : (p : ℕ → Bool) (f : ℕ → List ℕ) (x : ℕ) (xs : List ℕ) (n : ℕ)
    → list_any p (levels f (x ∷ xs) n) ≡ (list_any p (levels f (x ∷ []) n) || list_any p (levels f xs n))
unfolding levels
any_cons p f x xs zero = refl
any_cons p f x xs (suc n) =
    list_any-append p (levels f (x ∷ xs) n) (level f (x ∷ xs) n)
    ∙ (ap (λ b. b || list_any p (level f (x ∷ xs) n)) (any_cons p f x xs n)
    ∙ (ap (λ b. (list_any p (levels f (x ∷ []) n) || list_any p (levels f xs n)) || b)
    (ap (list_any p) (level_cons f x xs n) ∙ list_any-append p (level f (x ∷ []) n) (level f xs n))
    ∙ (or_four (list_any p (levels f (x ∷ []) n)) (list_any p (levels f xs n)) (list_any p (level f (x ∷ []) n))
    (list_any p (level f xs n))
    ∙ (ap (λ b. b || (list_any p (levels f xs n) || list_any p (level f xs n)))
    (sym (list_any-append p (levels f (x ∷ []) n) (level f (x ∷ []) n)))
    ∙ ap (λ b. list_any p (levels f (x ∷ []) n ++ level f (x ∷ []) n) || b)
    (sym (list_any-append p (levels f xs n) (level f xs n)))))))

-- one of the levels passes where one below some head does
pub any_heads : (p : ℕ → Bool) (f : ℕ → List ℕ) (xs : List ℕ) (n : ℕ)
    → list_any p (levels f xs n) ≡ list_any (λ j. list_any p (levels f (j ∷ []) n)) xs
any_heads p f [] n = ap (list_any p) (levels_none f n)
any_heads p f (x ∷ xs) n =
    any_cons p f x xs n ∙ ap (λ b. list_any p (levels f (x ∷ []) n) || b) (any_heads p f xs n)

-- one of the levels below a key passes: the key, or one below those that it links
pub any_deeper : (p : ℕ → Bool) (f : ℕ → List ℕ) (k n : ℕ)
    → list_any p (levels f (k ∷ []) (suc n)) ≡ (p k || list_any (λ j. list_any p (levels f (j ∷ []) n)) (f k))
any_deeper p f k n = grind (arith, common_steps, levels_below, append-nil, any_heads)

or_none : (b : Bool) → (b || false) ≡ b
or_none true = refl
or_none false = refl

any_ones : (p : ℕ → Bool) (f : ℕ → List ℕ) (xs : List ℕ)
    → list_any (λ j. list_any p (levels f (j ∷ []) (suc zero))) xs ≡ list_any p xs
unfolding level levels
any_ones p f [] = refl
any_ones p f (x ∷ xs) = grind (arith, common_steps, or_none, any_ones p f xs)

-- two levels are the key, and what it links
pub any_near : (p : ℕ → Bool) (f : ℕ → List ℕ) (k : ℕ)
    → list_any p (levels f (k ∷ []) 2) ≡ (p k || list_any p (f k))
any_near p f k = any_deeper p f k (suc zero) ∙ ap (λ b. p k || b) (any_ones p f (f k))

-- no level, so none that passes
pub any_none : (p : ℕ → Bool) (f : ℕ → List ℕ) (k depth : ℕ) → depth ≡ 0
    → list_any p (levels f (k ∷ []) depth) ≡ false
unfolding levels
any_none p f k depth e = ap (λ (z : ℕ). list_any p (levels f (k ∷ []) z)) e

-- the key passes
pub any_first : (p : ℕ → Bool) (f : ℕ → List ℕ) (k depth : ℕ) → (depth ≡ 0 → ⊥) → p k ≡ true
    → list_any p (levels f (k ∷ []) depth) ≡ true
any_first p f k depth some passes =
    let e : depth ≡ suc (depth - 1) = omega arith in
    ap (λ (z : ℕ). list_any p (levels f (k ∷ []) z)) e
    ∙ (any_deeper p f k (depth - 1)
    ∙ ap (λ b. b || list_any (λ j. list_any p (levels f (j ∷ []) (depth - 1))) (f k)) passes)

-- it does not, and one below those that it links may
pub any_below : (p : ℕ → Bool) (f : ℕ → List ℕ) (k depth : ℕ) (linked : List ℕ) → (depth ≡ 0 → ⊥) → p k ≡ false
    → linked ≡ f k → list_any (λ j. list_any p (levels f (j ∷ []) (depth - 1))) linked
    ≡ list_any p (levels f (k ∷ []) depth)
any_below p f k depth linked some fails is =
    let e : depth ≡ suc (depth - 1) = omega arith in
    ap (list_any (λ j. list_any p (levels f (j ∷ []) (depth - 1)))) is
    ∙ sym (ap (λ (z : ℕ). list_any p (levels f (k ∷ []) z)) e
    ∙ (any_deeper p f k (depth - 1)
    ∙ ap (λ b. b || list_any (λ j. list_any p (levels f (j ∷ []) (depth - 1))) (f k)) fails))

some_append : (xs ys : List ℕ) → is_some_in (xs ++ ys) ≡ (is_some_in xs || is_some_in ys)
some_append [] ys = refl
some_append (x ∷ xs) ys = refl

some_flat : (g : ℕ → List ℕ) (xs : List ℕ) → is_some_in (flat_map g xs) ≡ list_any (λ j. is_some_in (g j)) xs
some_flat g [] = refl
some_flat g (x ∷ xs) = some_append (g x) (flat_map g xs) ∙ ap (λ b. is_some_in (g x) || b) (some_flat g xs)

-- a chain of one link more hangs down where a nested keyring has a chain
pub chain_deeper : (keys : Table Key) (key n : ℕ)
    → has_chain keys key (suc n) ≡ list_any (λ j. has_chain keys j n) (nested_in keys key)
unfolding has_chain
chain_deeper keys key n = grind (arith, common_steps, level_links, some_flat)

pub no_chain : (keys : Table Key) (key count : ℕ) → count ≡ 0 → has_chain keys key count ≡ true
unfolding has_chain level
no_chain keys key count e = ap (has_chain keys key) e

pub chain_below : (keys : Table Key) (key count : ℕ) (nested : List ℕ) → (count ≡ 0 → ⊥) → nested ≡ nested_in keys key
    → list_any (λ j. has_chain keys j (count - 1)) nested ≡ has_chain keys key count
chain_below keys key count nested some is =
    let e : count ≡ suc (count - 1) = omega arith in
    ap (list_any (λ j. has_chain keys j (count - 1))) is
    ∙ sym (ap (has_chain keys key) e ∙ chain_deeper keys key (count - 1))
