-- What a session holds of its replies.
use Rattle.std.specs.Prelude.{◌++◌, ◌≡◌, List, None, Ok, Option, Some, ℕ}
use Rattle.krs_types.specs.declared.ask.Answer.TheVariants.{Bytes}
use Rattle.krs_wire.specs.Reply.{reply_frame}
use Rattle.krs_session.specs.declared.replies.Replies.{Replies}

-- behind what was held the frame of a reply that is these bytes, with the tag of its ask; or nothing
abbrev pub HoldsFrame : Replies → Option (List ℕ) → Replies → Type 0
HoldsFrame old None new = new.bytes.items ≡ old.bytes.items
HoldsFrame old (Some bytes) new = new.bytes.items ≡ old.bytes.items ++ reply_frame old.tag (Ok (Bytes bytes))
