-- What a program's outputs hold, and whether they took all that it said.
use Rattle.std.specs.{Prelude.{◌≡◌, ◌⊎◌, Bool, List, Option, true, ℕ}, Io.KnownBytes.Appends}
use Rattle.krs_words.specs.{Writing.WritesFront, declared.voice.Voice.Voice}

-- what an output holds, where that is known, and whether it ever failed to take a text whole
abbrev pub Heard : Type 0
Heard = Option (List ℕ) × Bool

-- that of a voice, by what its writer holds
abbrev pub heard : {W : Type 0} → (W → Option (List ℕ)) → Voice W → Heard
heard contents voice = (contents voice.writer, voice.has_failed)

-- the text was said: it was written whole, or the output has failed and a beginning of it was written
abbrev pub Says : Heard → Heard → List ℕ → Type 0
Says old new text =
    (Appends old.0 new.0 text × (new.1 ≡ old.1)) ⊎ (WritesFront old.0 new.0 text × (new.1 ≡ true))
