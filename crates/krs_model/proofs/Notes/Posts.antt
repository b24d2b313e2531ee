-- What posts do to each queue.
use Rattle.std.proofs.Common.{[], ◌++◌, ◌∷◌, ◌≡◌, arith, List, None, Option, option_map, refl, Some, ℕ}
use Rattle.std.proofs.lemmas.Bool.Decides.{nat_tests}
use Rattle.krs_types.specs.declared.note.Record.{Record}
use Rattle.krs_model.specs.{Notes.Posting.{after_note, after_notes, Post, post_all, records_for}, State.Queue}
use Rattle.krs_model.specs.Table.{alter, at, Table}
use Rattle.krs_model.proofs.Tables.Distinct.{at_alter}

none_came : (o : Option Queue) → o ≡ option_map (after_notes []) o
none_came None = refl
none_came (Some queue) = refl

one_more :
    (note : Record) (notes : List Record) (o : Option Queue)
    → option_map (after_notes notes) (option_map (after_note note) o) ≡ option_map (after_notes (note ∷ notes)) o
one_more note notes None = refl
one_more note notes (Some queue) = refl

-- posts change each queue by the records that are for it, in order, and in no other way
pub at_post_all :
    (ps : List Post) (queues : Table Queue) (q : ℕ)
    → at (post_all ps queues) q ≡ option_map (after_notes (records_for q ps)) (at queues q)
at_post_all [] queues q = none_came (at queues q)
at_post_all (p ∷ ps) queues q =
    grind (arith, nat_tests, at_alter, one_more, at_post_all ps (alter queues p.0 (after_note p.1)) q)

-- posts one list after the other
pub post_all-append :
    (ps qs : List Post) (queues : Table Queue) → post_all (ps ++ qs) queues ≡ post_all qs (post_all ps queues)
post_all-append [] qs queues = refl
post_all-append (p ∷ ps) qs queues = post_all-append ps qs (alter queues p.0 (after_note p.1))

pub records_for-append :
    (q : ℕ) (ps qs : List Post) → records_for q (ps ++ qs) ≡ records_for q ps ++ records_for q qs
records_for-append q [] qs = refl
records_for-append q (p ∷ ps) qs = grind (arith, nat_tests, records_for-append q ps qs)
