use Rattle.std.proofs.Common.{◌++◌, ◌∙◌, ◌≡◌, ap, drop, false, length, List, refl, Some, sym, true, true≢false, ℕ}
use Rattle.std.proofs.lemmas.{Bool.Decides.Decides-eqb, Option.none-some, Slice.Eq.starts_is}
use Rattle.krs_model.specs.Notes.Bytes.{bytes_of}
use Rattle.krs_notes.proofs.Guessing.{guess-begins}
use Rattle.krs_notes.proofs.codec.decode.Goals as goal

pub returns-then-starts_with-clause-begins : goal.returns-then-starts_with-clause-begins
returns-then-starts_with-clause-begins c =
    let bytes = c.args.bytes.now in
    let front = c.as_slice-own.result.now in
    let own : front ≡ bytes_of c.in_ok-note.note = c.as_slice-own.ensures ∙ c.encode-encoded.ensures in
    let starts = starts_is Decides-eqb bytes front true c.if-starts_with.ensures.value in (
      (drop (length front) bytes, sym (starts.0 refl ∙ ap (λ (xs : List ℕ). xs ++ drop (length front) bytes) own)),
      ap length own,
    )

pub returns-else-starts_with-clause-each : goal.returns-else-starts_with-clause-each
returns-else-starts_with-clause-each c = λ r h b.
    let bytes = c.args.bytes.now in
    let front = c.as_slice-own.result.now in
    let same : Some c.in_ok-note.note ≡ Some r = c.in_ok-note.ensures ∙ guess-begins r bytes h b in
    let is : c.in_ok-note.note ≡ r = cc in
    let own : front ≡ bytes_of r = c.as_slice-own.ensures ∙ (c.encode-encoded.ensures ∙ ap bytes_of is) in
    let starts = starts_is Decides-eqb bytes front false c.if-starts_with.ensures.value in
    absurd (true≢false (sym (starts.1 b.0 (sym b.1 ∙ ap (λ (xs : List ℕ). xs ++ b.0) (sym own)))))

pub returns-in_err-note-clause-each : goal.returns-in_err-note-clause-each
returns-in_err-note-clause-each c = λ r h b. absurd
    (none-some _ (c.in_err-note.ensures ∙ guess-begins r c.args.bytes.now h b))

pub returns-then-starts_with-clause-each : goal.returns-then-starts_with-clause-each
returns-then-starts_with-clause-each c = λ r h b.
    let front = c.as_slice-own.result.now in
    let same : Some c.in_ok-note.note ≡ Some r = c.in_ok-note.ensures ∙ guess-begins r c.args.bytes.now h b in
    let is : c.in_ok-note.note ≡ r = cc in
    let own : front ≡ bytes_of r = c.as_slice-own.ensures ∙ (c.encode-encoded.ensures ∙ ap bytes_of is) in
    let long : length front ≡ length (bytes_of r) = ap length own in
    cc
