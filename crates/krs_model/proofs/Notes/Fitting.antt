-- Records whose numbers fit their fields, and which are no losses.
use Rattle.std.proofs.Common.{[], ◌++◌, ◌-◌, ◌<◌, ◌^◌, ◌∷◌, ◌≡◌, arith, Bool, eqb-true, false, filter, flat_map}
use Rattle.std.proofs.{Common.{length, List, map, nat_le, ℕ}, lemmas.Bool.Decides.nat_tests}
use Rattle.krs_types.specs.declared.note.Record.{Record}
use Rattle.krs_model.specs.Notes.{Bytes.{AllFit, bytes_of, Fits, is_loss}, Front.{behind, front}, Posting.after_note}
use Rattle.krs_model.specs.Notes.Posting.{after_notes, Note, note_for, Post, posts, posts_of, records_for}
use Rattle.krs_model.specs.{Notes.{Posting.{removal_for, watches_at}, Waiting.after_post}, Orderly.{Each, IsQueue}}
use Rattle.krs_model.specs.{Orderly.IsWatch, Queues.{Queues, Watch}, State.Queue, Table.Table}
use Rattle.std.proofs.lemmas.Grind.{common_steps}

pub each_filter : (P : Watch → Type 0) (p : Watch → Bool) (ws : List Watch) → Each P ws → Each P (filter p ws)
each_filter P p [] h = tt
each_filter P p (w ∷ ws) h = grind (arith, nat_tests, each_filter P p ws h.1)

pub each_on : (P Q : Watch → Type 0) (ws : List Watch) → ((w : Watch) → P w → Q w) → Each P ws → Each Q ws
each_on P Q [] f h = tt
each_on P Q (w ∷ ws) f h = (f w h.0, each_on P Q ws f h.1)

-- a record that may be posted
pub record IsPost (note : Record) : Type 0 where
  pub fits : Fits note
  pub told : is_loss note ≡ false

abbrev pub AllPost : List Record → Type 0
AllPost [] = Unit {0}
AllPost (note ∷ notes) = IsPost note × AllPost notes

-- of a list of posts
abbrev pub ArePosts : List Post → Type 0
ArePosts [] = Unit {0}
ArePosts (p ∷ ps) = IsPost p.1 × ArePosts ps

pub posts_append : (ps qs : List Post) → ArePosts ps → ArePosts qs → ArePosts (ps ++ qs)
posts_append [] qs f g = g
posts_append (p ∷ ps) qs f g = (f.0, posts_append ps qs f.1 g)

posts_filter : (p : Post → Bool) (ps : List Post) → ArePosts ps → ArePosts (filter p ps)
posts_filter p [] h = tt
posts_filter p (x ∷ ps) h = grind (arith, nat_tests, posts_filter p ps h.1)

pub posts_for : (q : ℕ) (ps : List Post) → ArePosts ps → AllPost (records_for q ps)
posts_for q [] h = tt
posts_for q (p ∷ ps) h = grind (arith, nat_tests, posts_for q ps h.1)

-- the notes of a key go out by watches, whose numbers fit
told_fit :
    (queues : Table Queue) (note : Note) (ws : List Watch) → note.aux < 2 ^ 32 → Each (IsWatch queues) ws
    → ArePosts (map (note_for note) (watches_at note.key ws))
told_fit queues note [] small h = tt
told_fit queues note (w ∷ ws) small h = grind (arith, nat_tests, eqb-true, told_fit queues note ws small h.1)

-- the other keys of notes fit
abbrev pub AllSmall : List Note → Type 0
AllSmall [] = Unit {0}
AllSmall (note ∷ notes) = (note.aux < 2 ^ 32) × AllSmall notes

-- the numbers of a watch fit the fields of records
pub record FitsRecord (w : Watch) : Type 0 where
  pub key : w.0.0 < 2 ^ 32
  pub id : w.1 < 2 ^ 8

removals_fit : (ws : List Watch) → Each FitsRecord ws → ArePosts (map removal_for ws)
removals_fit [] h = tt
removals_fit (w ∷ ws) h = grind (arith, nat_tests, removals_fit ws h.1)

notes_fit : (s : Queues) (notes : List Note) → Each (IsWatch s.queues) s.watches → AllSmall notes
    → ArePosts (flat_map (posts_of s) notes)
notes_fit s [] h small = tt
notes_fit s (note ∷ notes) h small =
    search (posts_append, posts_filter, told_fit, notes_fit s notes h small.1) depth 8

pub posts_fit :
    (s : Queues) (notes : List Note) (ended : List Watch) → Each (IsWatch s.queues) s.watches → AllSmall notes
    → Each FitsRecord ended → ArePosts (posts s notes ended)
posts_fit s notes ended h small gone = search (posts_append, notes_fit, removals_fit) depth 8

fit_append : (a b : List Record) → AllFit a → AllFit b → AllFit (a ++ b)
fit_append [] b f g = g
fit_append (r ∷ a) b f g = (f.0, fit_append a b f.1 g)

after_post_fit :
    (capacity : ℕ) (note : Record) (waiting : List Record) → Fits note → AllFit waiting
    → AllFit (after_post capacity note waiting)
after_post_fit capacity note waiting f g = grind (arith, nat_tests, fit_append)

-- a queue stays one when records come
pub after_notes_fit :
    (notes : List Record) (queue : Queue) → AllPost notes → IsQueue queue → IsQueue (after_notes notes queue)
after_notes_fit [] queue h is = is
after_notes_fit (note ∷ notes) queue h is =
    search (after_post_fit, after_notes_fit notes (after_note note queue) h.1) depth 8

pub front_fit : (room : ℕ) (notes : List Record) → AllFit notes → AllFit (front room notes)
front_fit room [] h = tt
front_fit room (note ∷ notes) h =
    grind (arith, common_steps, nat_le, front_fit (room - length (bytes_of note)) notes h.1)

pub behind_fit : (room : ℕ) (notes : List Record) → AllFit notes → AllFit (behind room notes)
behind_fit room [] h = tt
behind_fit room (note ∷ notes) h =
    grind (arith, common_steps, nat_le, behind_fit (room - length (bytes_of note)) notes h.1)
