-- What `rlist` shows of the keys of a store: keyretain(1), "Commands"; profile, hidden describe.
use Rattle.std.specs.{Prelude.{◌<◌, ◌^◌, ◌≡◌, ◌≢◌, List, Ok, ℕ}, List.AllByRecursion}
use Rattle.krs_types.specs.declared.{ask.Answer.TheVariants.Bytes, kind.Kind.TheVariants.Keyring}
use Rattle.krs_model.specs.{Asks.Reading.{description, readable}, State.{Key, Links}}
use Rattle.krs_words.specs.Printing.{shown, shown_bytes, shown_serials}
use Rattle.krs_script.specs.Listing.{listing}

-- what READ gives of a keyring, with what DESCRIBE tells of it, is shown as the keyring's links in their order
abbrev pub LinksAreListed : Type 0
LinksAreListed =
    (ring : Key) (serials bytes : List ℕ) → ring.content ≡ Links serials → AllByRecursion (λ n. n < 2 ^ 32) serials
    → ring.kind ≡ Keyring → readable ring.kind ring.content ≡ Ok bytes
    → shown (listing bytes (Ok (Bytes (description ring)))) ≡ shown_serials serials

-- what READ gives of another key is shown as `print` shows it, whatever the bytes are
abbrev pub OthersAreShown : Type 0
OthersAreShown =
    (key : Key) (bytes : List ℕ) → key.kind ≢ Keyring
    → shown (listing bytes (Ok (Bytes (description key)))) ≡ shown_bytes bytes
