-- Words of which each says something.
use Rattle.std.proofs.Common.{[], ◌++◌, ◌+◌, ◌<◌, ◌∷◌, ◌≡◌, ap, Err, false, filter_map, get_or, is_some, length, List}
use Rattle.std.proofs.Common.{map, None, Option, refl, Some, take, true, ℕ}
use Rattle.std.specs.List.{list_all}
use Rattle.std.proofs.lemmas.List.{take_more, Elements.filter_map-append}
use Rattle.std.proofs.lemmas.List.Folds.{list_all-append, list_all-map, list_all_at}
use Rattle.krs_words.specs.Parsed.{each_of, Reads}
use Rattle.krs_words.specs.declared.no_command.NoCommand.{NoCommand, TheVariants.{Memory, Usage}}
use Rattle.krs_words.proofs.WordsLemmas.{filter_map-map}

module _ {X Y : Type 0} (f : X → Option Y) where
  -- one more word that says something
  pub all_more : (xs : List X) (i : ℕ) (d : X) (y : Y) → i < length xs → f (get_or xs i d) ≡ Some y
      → list_all (λ x. is_some (f x)) (take i xs) ≡ true → list_all (λ x. is_some (f x)) (take (i + 1) xs) ≡ true
  all_more xs i d y low is all = rw (take_more xs i d low, list_all-append (λ x. is_some (f x)), all, is) refl

  pub said_more : (xs : List X) (i : ℕ) (d : X) (y : Y) → i < length xs → f (get_or xs i d) ≡ Some y
      → filter_map f (take (i + 1) xs) ≡ filter_map f (take i xs) ++ y ∷ []
  said_more xs i d y low is = rw (take_more xs i d low, filter_map-append f, is) refl

  -- a word that says nothing
  pub not_all_at : (xs : List X) (i : ℕ) (d : X) → i < length xs → f (get_or xs i d) ≡ None
      → list_all (λ x. is_some (f x)) xs ≡ false
  not_all_at xs i d low is = list_all_at (λ x. is_some (f x)) xs i d low (ap is_some is)

module _ {X Y : Type 0} (f : List ℕ → Option Y) (h : X → List ℕ) (xs : List X) where
  -- words that all say something, read through h
  pub each-some : list_all (λ x. is_some (f (h x))) xs ≡ true
      → each_of f (map h xs) ≡ Some (filter_map (λ x. f (h x)) xs)
  each-some all = rw (list_all-map (λ w. is_some (f w)) h xs, filter_map-map h f xs, all) refl

  pub each-none : list_all (λ x. is_some (f (h x))) xs ≡ false → each_of f (map h xs) ≡ None
  each-none not_all = rw (list_all-map (λ w. is_some (f w)) h xs, not_all) refl

  -- why one of them gives nothing is why all of them do
  pub each-refused : (i : ℕ) (d : X) (cause : NoCommand) → i < length xs
      → Reads {A = Y} (Err cause) (f (h (get_or xs i d))) → Reads {A = List Y} (Err cause) (each_of f (map h xs))
  each-refused i d Usage low none = each-none (not_all_at (λ x. f (h x)) xs i d low none)
  each-refused i d Memory low none = tt
