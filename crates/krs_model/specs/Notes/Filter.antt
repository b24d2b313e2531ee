-- Which records the filter of a watch queue lets pass: core-api/watch_queue.rst, "Event Filtering"; uapi
-- linux/watch_queue.h, struct watch_notification_filter.
use Rattle.std.specs.Prelude.{◌%◌, ◌&&◌, ◌/◌, ◌==◌, ◌^◌, bit_and, Bool, Err, if◌then◌else◌, length, List, nat_le, None}
use Rattle.std.specs.Prelude.{Ok, Option, Result, slice_index, Some, true, ℕ}
use Rattle.std.specs.{Int.{bit_not, w32}, List.{list_all, list_any}}
use Rattle.krs_types.specs.declared.errno.Errno.{Errno, TheVariants.EINVAL}
use Rattle.krs_types.specs.declared.note.{FilterEntry.FilterEntry, Record.{Record, TheVariants.{Key, Loss, Removal}}}
use Rattle.krs_model.specs.Notes.Bytes.{info_of, subtype_of, type_of}

-- it asks for no bit of info outside its mask, and the mask has none of the length's bits, WATCH_INFO_LENGTH
abbrev pub is_good_entry : FilterEntry → Bool
is_good_entry entry =
    (bit_and entry.info_filter (bit_not w32 entry.info_mask) == 0) && (bit_and entry.info_mask 127 == 0)

-- 1 to 16 such entries
abbrev pub is_good_filter : List FilterEntry → Bool
is_good_filter entries = nat_le 1 (length entries) && (nat_le (length entries) 16 && list_all is_good_entry entries)

-- the filter that these entries make
abbrev pub filter_of : List FilterEntry → Result (List FilterEntry) Errno
filter_of entries = if is_good_filter entries then Ok entries else Err EINVAL

-- the bit of a subtype: bit s % 32 of word s / 32
abbrev pub has_subtype : FilterEntry → ℕ → Bool
has_subtype entry s = slice_index entry.subtypes (s / 32) / 2 ^ (s % 32) % 2 == 1

-- it asks for this type, of which all 32 bits count, for this subtype, and for these bits of info under its mask
abbrev pub asks_for : FilterEntry → ℕ → ℕ → ℕ → Bool
asks_for entry note_type subtype info =
    (entry.note_type == note_type) &&
    (has_subtype entry subtype && (bit_and info entry.info_mask == entry.info_filter))

-- it asks for this record; one that asks for a type that no record has matches nothing: profile, unknown note types
abbrev pub matches : FilterEntry → Record → Bool
matches entry note = asks_for entry (type_of note) (subtype_of note) (info_of note)

-- a key note passes where an entry matches it; a removal or a loss passes every filter: profile, meta records pass
abbrev pub passes : List FilterEntry → Record → Bool
passes entries (Key subtype watch key aux) = list_any (λ entry. matches entry (Key subtype watch key aux)) entries
passes entries (Removal watch id) = true
passes entries Loss = true

-- without a filter all pass
abbrev pub passes_if_any : Option (List FilterEntry) → Record → Bool
passes_if_any None note = true
passes_if_any (Some entries) note = passes entries note
