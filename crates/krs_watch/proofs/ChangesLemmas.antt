-- What the asks of queues come to, once their refusals are out of the way.
use Rattle.std.proofs.Common.{[], ◌∙◌, ◌∷◌, ◌≡◌, ap, Err, IsOk, List, nat_cmp, Ok, refl, Result, Some, ℕ}
use Rattle.std.specs.{BTreeMap.is_at, Map.set_value}
use Rattle.std.proofs.lemmas.Map.Steps.{set_value_same}
use Rattle.krs_types.specs.Refusing.{◌>>=◌}
use Rattle.krs_types.specs.declared.{errno.Errno.Errno, fault.Fault.Fault, note.Record.TheVariants.Removal}
use Rattle.krs_model.specs.{Asks.Watching.{after_read, unwatched}, Notes.Posting.posted}
use Rattle.krs_model.specs.{Queues.{queue_of, Queues, watch_at, without_watch}, State.Queue, Table.{at, Table}}
use Rattle.krs_model.proofs.Tables.Changes.{alter_some}
use Rattle.krs_watch.specs.{Changes.watch_ended, Reads.{ReadsAt, ReadsQueue}}

past : {A B : Type 0} (m : Result A Errno) (k : Result B Errno) → IsOk m → (m >>= (λ x. k)) ≡ k
past (Ok x) k h = refl
past (Err e) k h = absurd cc

-- a watch of a client's queue ends
pub ends_watch : (s : Queues) (client number key id : ℕ) → IsOk (queue_of s.queues client number) →
    watch_at s.watches key number ≡ Some id →
    watch_ended s client number key ≡ Ok (
      posted ((number, Removal id key) ∷ [])
          (record s { watches = without_watch s.watches key number }),
      tt,
    )
ends_watch s client number key id own there =
    let same : unwatched s client number key ≡ Ok (record s { watches = without_watch s.watches key number }, id) =
    unfold unwatched in past (queue_of s.queues client number) _ own ∙ rw there refl in
    rw same refl

-- a read of the queue at a number
pub reads_at : (number room : ℕ) (es : Table Queue) (found : Queue) (result : Result (List ℕ) Fault) (new : Queue)
    (after : Table Queue) →
    at es number ≡ Some found → ReadsQueue room found result new → after ≡ set_value (is_at (nat_cmp number)) es new
    → ReadsAt number room es result after
reads_at number room es found (Ok bytes) new after there r set = λ q h.
    let same : found ≡ q = cc in (
      rw (← same) r.0,
      rw (← same) r.1,
      set ∙ (ap (λ z. set_value (is_at (nat_cmp number)) es z) r.2
          ∙ alter_some es number (after_read room) found there),
    )
reads_at number room es found (Err e) new after there r set = (
  λ q h. let same : found ≡ q = cc in rw (← same) r.0,
  set ∙ (ap (λ z. set_value (is_at (nat_cmp number)) es z) r.1
      ∙ set_value_same (is_at (nat_cmp number)) es found there),
)
