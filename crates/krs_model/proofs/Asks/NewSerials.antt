-- No serial above 2147483647 is given.
use Rattle.std.proofs.Common.{◌&&◌, ◌<◌, ◌^◌, ◌≡◌, ◌≤◌, ◌⊎◌, arith, Bool, Err, false, inl, inr, IsSome, List}
use Rattle.std.proofs.{Common.{ltb-false, None, Ok, Option, refl, Some, true, true≢false, ℕ, ℤ}, lemmas.Bool.cases_lt}
use Rattle.std.proofs.lemmas.Bool.Decides.{nat_tests}
use Rattle.krs_types.specs.declared.{ask.Answer.Answer, context.Context.Context, name.Name.Name}
use Rattle.krs_model.specs.Asks.Adding.{by_match, if_room, Made, over_match, Place, place_of, Updated}
use Rattle.krs_model.specs.{Making.within_serials, Outcome.Outcome, State.{Key, State}, Table.{at, IsBelow, Table}}
use Rattle.krs_model.proofs.Asks.Later.{bind_ok, Follows, same_ok}

-- no serial was given, or none above the last
abbrev pub IsWithin : State → State → Type 0
IsWithin s new = (new.next_serial ≤ s.next_serial) ⊎ (new.next_serial ≤ 2147483648)

-- keys have serials up to the last
pub few_follow :
    (s new : State) → Follows s new → IsWithin s new → IsBelow s.keys s.next_serial → IsBelow s.keys 2147483648
    → IsBelow new.keys 2147483648
few_follow s new follows within below few = grind (arith, nat_tests, cases_lt)

pub small_there : (keys : Table Key) (n : ℕ) → IsBelow keys 2147483648 → IsSome (at keys n) → n < 2 ^ 32
small_there keys n few there = grind (arith, nat_tests, true≢false, cases_lt)

-- what an ask comes to gives no serial above the last
pub record Counts (s : State) (meant : Outcome) : Type 0 where
  pub within : (new : State) (answer : Answer) → meant ≡ Ok (new, answer) → IsWithin s new

pub same_counts : (s new : State) → new.next_serial ≡ s.next_serial → IsWithin s new
same_counts s new same = inl (omega arith)

both_false : (a b : Bool) → (a && b) ≡ false → (a ≡ false) ⊎ (b ≡ false)
both_false true b h = inr h
both_false false b h = inl refl

pub counts_within : (s : State) (r : Outcome) → Counts s (within_serials s r)
counts_within s (Err e) = record { within = λ t a no. cc }
counts_within s (Ok y) = grind (arith, nat_tests, same_ok, ltb-false, both_false)

-- where an added key goes there is room for it, or the key is there
abbrev pub IsPlace : State → Place → Type 0
IsPlace s (Updated serial) = IsSome (at s.keys serial)
IsPlace s (Made ring) = s.next_serial ≤ 2147483647

room_is :
    (s : State) (ring : ℕ × Key) (links : List ℕ) (displaced : Option ℕ) (place : Place)
    → if_room s ring links displaced ≡ Ok place → IsPlace s place
room_is s ring links displaced place h = grind (arith, nat_tests, bind_ok, same_ok, ltb-false)

match_is :
    (s : State) (c : Context) (ring : ℕ × Key) (links : List ℕ) (k : ℕ) (o : Option Key)
    (place : Place) → at s.keys k ≡ o
    → over_match s c ring links k o ≡ Ok place → IsPlace s place
match_is s c ring links k None place there h = room_is s ring links None place h
match_is s c ring links k (Some key) place there h = grind (arith, nat_tests, same_ok, room_is)

by_match_is :
    (s : State) (c : Context) (ring : ℕ × Key) (links : List ℕ) (k : Option ℕ) (place : Place)
    → by_match s c ring links k ≡ Ok place → IsPlace s place
by_match_is s c ring links None place h = room_is s ring links None place h
by_match_is s c ring links (Some k) place h = match_is s c ring links k (at s.keys k) place refl h

pub place_is :
    (s : State) (c : Context) (name : Name) (id : ℤ) (place : Place) → place_of s c name id ≡ Ok place
    → IsPlace s place
unfolding place_of
place_is s c name id place h = grind (arith, nat_tests, bind_ok, by_match_is)
