-- The entries of a filter as words spell them: keyretain(1), "Commands".
use Rattle.std.specs.{Prelude.{[], ◌==◌, ◌∷◌, List, None, Option, Some, ℕ}, List.slice_split}
use Rattle.krs_types.specs.declared.note.FilterEntry.{FilterEntry}
use Rattle.krs_words.specs.{Number.hexadecimal_of, Parsed.{◌>>=◌, each_of}}

-- type, info filter, info mask and subtype word 0, in hexadecimal; the other seven words are 0
abbrev pub entry_in : List (List ℕ) → Option FilterEntry
entry_in (note_type ∷ (info_filter ∷ (info_mask ∷ (subtypes ∷ [])))) = do
  t ← hexadecimal_of note_type
  f ← hexadecimal_of info_filter
  m ← hexadecimal_of info_mask
  s ← hexadecimal_of subtypes
  Some (record { note_type = t; info_filter = f; info_mask = m; subtypes = s ∷ 0 ∷ 0 ∷ 0 ∷ 0 ∷ 0 ∷ 0 ∷ 0 ∷ [] })
entry_in _ = None

-- an entry: these four, with a colon (byte 58) between each two
abbrev pub entry_of : List ℕ → Option FilterEntry
entry_of word = entry_in (slice_split (λ b. b == 58) word)

-- every word is an entry
abbrev pub entries_of : List (List ℕ) → Option (List FilterEntry)
entries_of = each_of entry_of
