-- The keys with their payloads hidden: what is at a serial, and what a change of them is.
use Rattle.std.proofs.Common.{[], ◌∷◌, ◌≡◌, arith, Bool, filter, Option, option_map, refl, Some, ℕ}
use Rattle.std.proofs.lemmas.Bool.Decides.{nat_tests}
use Rattle.krs_model.specs.{Hiding.{blind_key, blind_keys, Hiding}, State.Key, Table.{alter, at, map_values, put}}
use Rattle.krs_model.specs.Table.{Table}
use Rattle.krs_model.proofs.Tables.Changes.{same_at}

pub at_blind : (hide : Hiding) (es : Table Key) (k : ℕ)
    → at (blind_keys hide es) k ≡ option_map (blind_key (hide k)) (at es k)
at_blind hide [] k = refl
at_blind hide (e ∷ es) k = grind (arith, nat_tests, same_at, at_blind hide es k)

pub alter_blind :
    (hide : Hiding) (es : Table Key) (k : ℕ) (f g : Key → Key)
    → ((v : Key) → g (blind_key (hide k) v) ≡ blind_key (hide k) (f v))
    → alter (blind_keys hide es) k g ≡ blind_keys hide (alter es k f)
alter_blind hide [] k f g same = refl
alter_blind hide (e ∷ es) k f g same = grind (arith, nat_tests, same_at, alter_blind hide es k f g same)

pub put_blind :
    (hide : Hiding) (es : Table Key) (k : ℕ) (v : Key)
    → put (blind_keys hide es) k (blind_key (hide k) v) ≡ blind_keys hide (put es k v)
put_blind hide [] k v = refl
put_blind hide (e ∷ es) k v = grind (arith, nat_tests, put_blind hide es k v)

-- what picks by serials picks the same
pub filter_blind :
    (hide : Hiding) (kept : ℕ → Bool) (es : Table Key)
    → filter (λ e. kept e.0) (blind_keys hide es) ≡ blind_keys hide (filter (λ e. kept e.0) es)
filter_blind hide kept [] = refl
filter_blind hide kept (e ∷ es) = grind (arith, nat_tests, filter_blind hide kept es)

-- a change of each key
pub map_blind :
    (hide : Hiding) (f : Key → Key) (es : Table Key)
    → ((n : ℕ) (v : Key) → f (blind_key (hide n) v) ≡ blind_key (hide n) (f v))
    → map_values f (blind_keys hide es) ≡ blind_keys hide (map_values f es)
map_blind hide f [] same = refl
map_blind hide f (e ∷ es) same = rw (same e.0 e.1, map_blind hide f es same)

-- what does not look at a payload sees the same at each serial
pub seen :
    {A : Type 0} (hide : Hiding) (es : Table Key) (f : Option Key → A) (k : ℕ)
    → ((v : Key) → f (Some (blind_key (hide k) v)) ≡ f (Some v))
    → f (at (blind_keys hide es) k) ≡ f (at es k)
seen {A} hide es f k same = grind (arith, nat_tests, at_blind)
