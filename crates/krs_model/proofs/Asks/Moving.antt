-- What is proved of MOVE.
use Rattle.std.proofs.Common.{[], ◌&&◌, ◌++◌, ◌<◌, ◌==◌, ◌^◌, ◌∷◌, ◌≡◌, arith, Bool, inl, is_some, IsSome, List}
use Rattle.std.proofs.{Common.{nat_lt, Ok, refl, Result, Some, subst, true, ℕ, ℤ}, lemmas.Bool.Decides.nat_tests}
use Rattle.krs_types.specs.declared.{ask.{Answer.Answer, Op.{Op, TheVariants.Move}}, errno.Errno.Errno}
use Rattle.krs_types.specs.declared.{errno.Errno.TheVariants.{EEXIST, EINVAL}, name.Name.Name}
use Rattle.krs_types.specs.{declared.rights.Want.TheVariants.Granted, Refusing.◌>>=◌, Rights.{LINK, WRITE}}
use Rattle.krs_model.specs.Asks.{Changing.changed, Linked.{linked, unless, without_link}, Moving.{move_link, moved}}
use Rattle.krs_model.specs.{Confidentiality.HasToItself, Hiding.{blind_keys, Hiding}, Linking.link_named}
use Rattle.krs_model.specs.{Lookup.{context_of, look_up, serial_of}, Making.made_for, Notes.Posting.Note}
use Rattle.krs_model.specs.{Notes.Telling.{about_moved, named}, Search.found, State.{Key, State}, Table.{alter, at}}
use Rattle.krs_model.specs.Table.{Table}
use Rattle.krs_model.proofs.Asks.{Fares.{Fares, fares_within}, Houses.{HousesIn, linked_houses, made_houses}}
use Rattle.krs_model.proofs.Asks.Later.{bind_ok, changed_comes, Comes, comes_trans, same_comes, same_ok}
use Rattle.krs_model.proofs.Asks.LaterByAsk.{IsMoved, linked_into_comes, made_for_comes, moved_is, Moves, Stays}
use Rattle.krs_model.proofs.Asks.{Lawful.IsLawful, NewSerials.small_there, NotedKeys.about_link_small, Outcomes.Meets}
use Rattle.krs_model.proofs.{Asks.{Outcomes.{meets_after, meets_ok}, Plain.plains}, Hiding.Accepted.blind_done}
use Rattle.krs_model.proofs.Hiding.{Links.{made_blind, same_link_named, without_blind}, Seen.{is_seen, IsSeen}}
use Rattle.krs_model.proofs.{Hiding.Seen.{seen_after, steps}, Isolation.Attachments.same_unattached}
use Rattle.krs_model.proofs.Isolation.Guarded.{alone_guarded, Guarded, lessens_keeps, none_found}
use Rattle.krs_model.proofs.Isolation.{Keys.changed_enclosed, Links.{linked_guarded, made_alone}, Untouched.AreSame}
use Rattle.krs_model.proofs.Isolation.Untouched.{linked_same, made_same, not_into, other_same, same_trans}
use Rattle.krs_model.proofs.{Lookups.{Laws.look_up_usable, Serials.found_serial}, Notes.Fitting.AllSmall}
use Rattle.krs_model.proofs.Sound.{Changes.{changed_stands, Stands}, KeyChanges.unlinked_lessens}
use Rattle.krs_model.proofs.Sound.{Links.linked_into_stands, NewContexts.{made_for_stands, made_for_there}}
use Rattle.std.proofs.lemmas.Grind.{common_steps}

is_moved_comes :
    (s : State) (found from into : ℕ × Key) (new : State) → IsMoved s found from into new → Comes s new
is_moved_comes s found from into _ Stays = same_comes s s refl refl refl refl
is_moved_comes s found from into _ (Moves mid linked) = search (comes_trans, linked_into_comes, changed_comes) depth 8

all_small : (notes more : List Note) → AllSmall notes → AllSmall more → AllSmall (notes ++ more)
all_small [] more h k = k
all_small (note ∷ notes) more h k = (h.0, all_small notes more h.1 k)

about_moved_small :
    (from into key : Result ℕ Errno) → ((k : ℕ) → key ≡ Ok k → k < 2 ^ 32) → AllSmall (about_moved from into key)
about_moved_small from into key small = grind (arith, nat_tests, all_small, about_link_small)

moved_houses :
    (s t : State) (client context : ℕ) (op : Op) (found from into : ℕ × Key) (new : State)
    → IsMoved t found from into new → HousesIn s client context op t → HousesIn s client context op new
moved_houses s t client context op found from into _ Stays h = h
moved_houses s t client context op found from into _ (Moves mid linked) h = grind (arith, common_steps, linked_houses)

-- an accepted move links as LINK does, and takes a link out
is_moved_stands :
    (s : State) (found from into : ℕ × Key) (new : State) → at s.keys found.0 ≡ Some found.1
    → IsMoved s found from into new → Stands s → Stands new
is_moved_stands s found from into _ there Stays stands = stands
is_moved_stands s found from into _ there (Moves mid linked) stands =
    search (changed_stands, unlinked_lessens, linked_into_stands) depth 8

seen_free : {C D : Type 0} {h : C → D} (hide : Hiding) (keys : Table Key) (b : Bool) (name : Name) (links : List ℕ)
    (f : Unit {0} → Result C Errno) (k : Unit {0} → Result D Errno) → ((x : Unit {0}) → IsSeen h (k x) (f x))
    → IsSeen h (unless (b && is_some (link_named (blind_keys hide keys) name links)) EEXIST >>= k)
    (unless (b && is_some (link_named keys name links)) EEXIST >>= f)
seen_free {h = h} hide keys b name links f k each = search (same_link_named, seen_after) depth 8

-- a link less
less_guarded :
    (uid : ℕ) (private : ℕ → Bool) (P : Type 0) (s : State) (from serial : ℕ) → Guarded uid private P s
    → Guarded uid private P (changed s from (without_link serial))
less_guarded uid private P s from serial g = record {
  made = g.made;
  enclosed = λ p. changed_enclosed uid private s.keys from (without_link serial)
      (lessens_keeps uid private from (without_link serial) (unlinked_lessens serial) (λ v m h. h)) (g.enclosed p);
  unattached = same_unattached uid private s (changed s from (without_link serial)) refl refl refl g.unattached;
}

is_moved_guarded :
    (uid : ℕ) (private : ℕ → Bool) (P : Type 0) (s : State) (found from into : ℕ × Key) (new : State)
    → (P → private found.0 ≡ true → ⊥) → IsMoved s found from into new → HasToItself uid private s
    → Guarded uid private P new
is_moved_guarded uid private P s found from into _ apart Stays alone = alone_guarded uid private P s alone
is_moved_guarded uid private P s found from into _ apart (Moves mid linked) alone =
    less_guarded uid private P mid from.0 found.0 (linked_guarded uid private P s into found mid apart linked alone)

moved_same :
    (private : ℕ → Bool) (s : State) (found from into : ℕ × Key) (new : State) → (private from.0 ≡ true → ⊥)
    → (private into.0 ≡ true → ⊥) → IsMoved s found from into new → AreSame private s.keys new.keys
moved_same private s found from into _ out apart Stays = λ k m. refl
moved_same private s found from into _ out apart (Moves mid linked) =
    same_trans private s.keys mid.keys (alter mid.keys from.0 (without_link found.0))
    (linked_same private s into found mid apart linked)
    (other_same private mid.keys from.0 (without_link found.0) out)

move_fares :
    (s : State) (client context : ℕ) (key from to : ℤ) (flags : ℕ)
    → Meets (Fares s client context (Move key from to flags)) (move_link s client context key from to flags)
unfolding move_link
move_fares s client context key from to flags =
    meets_after (context_of s client context) _ (λ c own.
    meets_after (unless (nat_lt 1 flags) EINVAL) _ (λ known _.
    meets_after (look_up s c key (Granted LINK)) _ (λ found is.
    meets_after (look_up s c from (Granted WRITE)) _ (λ first out.
    let made = made_for s context c to in
    fares_within s _ (
    meets_after (look_up made.0 made.1 to (Granted WRITE)) _ (λ into goes.
    meets_after (moved made.0 (flags == 1) found first into) _ (λ new moves.
    let is_moved = moved_is made.0 (flags == 1) found first into new moves in
    meets_ok (λ within. record {
      comes = λ other. comes_trans s made.0 new (made_for_comes s context c to)
          (is_moved_comes made.0 found first into new is_moved);
      counts = λ placed. within;
      houses = grind (arith, common_steps, moved_houses, made_houses);
      stands = λ stands.
          let there = made_for_there s context c to found.0 found.1 stands.unused
          (look_up_usable s c key (Granted LINK) found is).there in
          is_moved_stands made.0 found first into new there is_moved (made_for_stands s context c to stands);
      guards = λ uid private stands alone. is_moved_guarded uid private _ made.0 found first into new
          (λ holds m. none_found uid private s client context c key (Granted LINK) found alone own
          (holds refl) refl is m)
          is_moved (made_alone uid private s context c to alone);
      keeps = λ uid private stands alone other.
          inl (same_trans private s.keys made.0.keys new.keys (made_same uid private s context c to alone)
          (moved_same private made.0 found first into new
          (λ m. none_found uid private s client context c from (Granted WRITE) first alone own other refl out m)
          (not_into uid private s client context c to into stands alone own other goes) is_moved));
    }))))))))

-- the key that MOVE moves
move_there :
    (s new : State) (client context : ℕ) (key from to : ℤ) (flags : ℕ) (answer : Answer) (k : ℕ)
    → move_link s client context key from to flags ≡ Ok (new, answer) → named s client context key ≡ Ok k
    → IsSome (at new.keys k)
unfolding move_link
move_there s new client context key from to flags answer k h names =
    let a = bind_ok (context_of s client context) _ (new, answer) h in
    let own = bind_ok (context_of s client context) _ k names in
    let here : serial_of s a.0 key ≡ Ok k = search same_ok depth 8 in
    let b = bind_ok (unless (nat_lt 1 flags) EINVAL) _ (new, answer) a.2 in
    let d = bind_ok (look_up s a.0 key (Granted LINK)) _ (new, answer) b.2 in
    let found = found_serial s a.0 key (Granted LINK) d.0 d.1 in
    let same : d.0.0 ≡ k = same_ok (serial_of s a.0 key) d.0.0 k found here in
    let there : IsSome (at s.keys d.0.0) = rw (look_up_usable s a.0 key (Granted LINK) d.0 d.1).there refl in
    let comes = ((move_fares s client context key from to flags).meets new answer h).comes refl in
    comes.there k (subst (λ (n : ℕ). IsSome (at s.keys n)) same there)

pub move_law :
    (s : State) (client context : ℕ) (key from to : ℤ) (flags : ℕ) → IsLawful s client context (Move key from to flags)
unfolding move_link
move_law s client context key from to flags = record {
  small = search (about_moved_small, small_there, move_there) depth 8;
  plain = search plains depth 24;
  blind = λ hide hides.
      is_seen (blind_done hide) (simp made_blind (search (seen_free, steps, without_blind) depth 24));
  fares = move_fares s client context key from to flags;
}
