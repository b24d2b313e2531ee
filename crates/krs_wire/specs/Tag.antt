-- The tag of a frame: a frame of version 2 has one, which the client chose, and a frame of version 1 has none.
-- docs/FORMAT.md, "Frames".
use Rattle.std.specs.Prelude.{[], ◌<◌, ◌^◌, ◌≡◌, Bool, if◌then◌else◌, is_some, List, None, Option, option_and_then}
use Rattle.std.specs.{Prelude.{Some, ℕ}, Int.{to_le_bytes, w64}}
use Rattle.krs_wire.specs.Field.{Field, number}

-- the version of a frame with this tag
abbrev pub version_of : Option ℕ → ℕ
version_of None = 1
version_of (Some tag) = 2

-- its 64 bits, little-endian
abbrev pub tag_text : Option ℕ → List ℕ
tag_text None = []
tag_text (Some tag) = to_le_bytes w64 tag

abbrev pub FitsTag : Option ℕ → Type 0
FitsTag None = Unit {0}
FitsTag (Some tag) = tag < 256 ^ 8

-- the tag where frames have one, and nothing where they have none
abbrev pub tag_field : (is_tagged : Bool) → Field (Option ℕ)
tag_field is_tagged = record {
  Fits = λ tag. (is_some tag ≡ is_tagged) × FitsTag tag;
  encode = tag_text;
  read = λ bytes. if is_tagged then option_and_then (λ n. Some (Some n.0, n.1)) ((number w64).read bytes)
      else Some (None, bytes);
}

-- how many bytes it takes
abbrev pub tag_size : (is_tagged : Bool) → ℕ
tag_size is_tagged = if is_tagged then 8 else 0
