-- The frame of an ask, with a tag or with none: docs/FORMAT.md, "An ask's frame".
use Rattle.std.specs.{Prelude.{◌++◌, ◌<◌, ◌^◌, ◌≡◌, ◌≢◌, ◌≤◌, length, List, Ok, Option, slice_index, Some, ℕ}, Int.w32}
use Rattle.krs_types.specs.declared.ask.Ask.{Ask}
use Rattle.krs_wire.specs.Bodies.{body_of_op, FitsOp, number_of_op}
use Rattle.krs_wire.specs.{Field.sized, Frame.{End, Frames, front_of, head_fields}, Tag.{FitsTag, tag_text, version_of}}
use Rattle.krs_wire.specs.declared.{fault.WireFault.{WireFault, TheVariants.{BadLength, Memory}}, framed.Framed.Framed}

abbrev pub framed : (tag : Option ℕ) → Ask → Framed
framed tag ask = record { ask = ask; tag = tag }

-- what stands behind the length: version, operation, context, the tag where there is one, body
abbrev pub ask_text : (tag : Option ℕ) → Ask → List ℕ
ask_text tag ask =
    head_fields.encode (version_of tag, (number_of_op ask.op, ask.context)) ++ (tag_text tag ++ body_of_op ask.op)

abbrev pub ask_frame : (tag : Option ℕ) → Ask → List ℕ
ask_frame tag ask = (sized w32).encode (ask_text tag ask)

-- a refusal for another cause than memory is BadLength, of at least so many bytes
abbrev pub IsTooLong : ℕ → List ℕ → WireFault → Type 0
IsTooLong least bytes fault = fault ≢ Memory → (fault ≡ BadLength) × (least ≤ length bytes)

-- what has a frame
pub record FitsAsk (tag : Option ℕ) (ask : Ask) : Type 0 where
  pub tagged : FitsTag tag
  pub context : ask.context < 256 ^ 4
  pub op : FitsOp ask.op
  pub size : length (ask_text tag ask) ≤ 65536

-- each frame that is cut is that of its ask, with its tag
abbrev pub EachCutIsEncoded : Type 0
EachCutIsEncoded =
    (bytes : List ℕ) (framed : Framed) (more : List ℕ) → ((i : ℕ) → slice_index bytes i < 256)
    → front_of bytes ≡ Ok (Some (framed, more)) →
    (bytes ≡ ask_frame framed.tag framed.ask ++ more) × FitsAsk framed.tag framed.ask

-- the frame of each ask is cut as that ask, with that tag, whatever follows it
abbrev pub EachEncodingIsCut : Type 0
EachEncodingIsCut =
    (framed : Framed) (more : List ℕ) → FitsAsk framed.tag framed.ask
    → front_of (ask_frame framed.tag framed.ask ++ more) ≡ Ok (Some (framed, more))

-- each stream is cut in some way
abbrev pub EachStreamIsCut : Type 0
EachStreamIsCut = (bytes : List ℕ) → (frames : List Framed) × (end : End) × Frames bytes frames end

-- two cuts of one stream are the same
abbrev pub CutsAgree : Type 0
CutsAgree =
    (bytes : List ℕ) (frames others : List Framed) (end other : End) → Frames bytes frames end
    → Frames bytes others other →
    (frames ≡ others) × (end ≡ other)
