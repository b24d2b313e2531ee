-- The test of LINK for cycles says what is reached.
use Rattle.std.proofs.Common.{[], ◌∷◌, ◌≡◌, arith, Bool, false, IsSome, length, Ok, refl, Result, sym, true}
use Rattle.std.proofs.{Common.{true≢false, ℕ}, lemmas.{Bool.Decides.nat_tests, List.length-map}}
use Rattle.std.specs.Map.{keys_of}
use Rattle.krs_types.specs.{declared.errno.Errno.{Errno, TheVariants.{EDEADLK}}, Refusing.◌>>=◌}
use Rattle.krs_model.specs.{Asks.Linked.{nestable, unless}, Levels.{is_in}, Reach.{closes}}
use Rattle.krs_model.specs.{Reach.{links_of_key_at}, Sound.AllLinked, State.Key, Table.{at, Table}}
use Rattle.krs_model.proofs.Reach.{Acyclic.{closed_levels, From, IsClosed, levels_reached}, Levels.{or_true, same_is}}
use Rattle.krs_model.proofs.Tables.Changes.{same_at}
use Rattle.std.proofs.lemmas.Grind.{common_steps}

-- a key that is there is in the list of serials
pub there_in : (keys : Table Key) (k : ℕ) → IsSome (at keys k) → is_in k (keys_of keys) ≡ true
there_in [] k h = absurd (true≢false (sym h))
there_in (e ∷ keys) k h = grind (arith, nat_tests, same_is, same_at, or_true, there_in keys k)

-- where the test of cycles refuses, the keyring is the key, or reached from it
pub closes_from : (keys : Table Key) (key ring : ℕ) → closes keys key ring ≡ true → From (links_of_key_at keys) key ring
unfolding closes
closes_from keys key ring h = levels_reached (links_of_key_at keys) key ring (length keys) h

-- and it refuses wherever it is
pub from_closes :
    (keys : Table Key) (key ring : ℕ) → AllLinked keys → IsSome (at keys key) → From (links_of_key_at keys) key ring
    → closes keys key ring ≡ true
unfolding closes
from_closes keys key ring linked there reached =
    let closed : IsClosed (links_of_key_at keys) (keys_of keys) = λ j k i h. there_in keys k (linked j k h) in
    let found = closed_levels (links_of_key_at keys) (keys_of keys) key ring (there_in keys key there) closed reached in
    grind (arith, common_steps, length-map)

-- a link that may be nested closes no cycle
opens :
    (bad : Bool) (next : Result (Unit {0}) Errno) (x : Unit {0}) → (unless bad EDEADLK >>= (λ y. next)) ≡ Ok x
    → bad ≡ false
opens true next x h = cc
opens false next x h = refl

pub nests_opens :
    (keys : Table Key) (ring serial : ℕ) (x : Unit {0}) → nestable keys ring serial ≡ Ok x
    → closes keys serial ring ≡ false
unfolding nestable
nests_opens keys ring serial x h = grind (arith, common_steps, opens)
