-- Which queues a note reaches.
use Rattle.std.proofs.Common.{[], ◌&&◌, ◌∙◌, ◌∷◌, ◌≡◌, ap, Bool, cond, eqb, eqb-true, false, filter, List, map, refl}
use Rattle.std.proofs.Common.{true, ℕ}
use Rattle.krs_types.specs.declared.note.Record.{Record}
use Rattle.krs_model.specs.Notes.Posting.{Note, note_for, passes_at, Post, records_for, watches_at}
use Rattle.krs_model.specs.{Queues.Watch, State.Queue, Table.{at, Table}}
use Rattle.krs_watch.specs.Laws.{NotesReachTheirWatchers, watches_between}

module _ (queues : Table Queue) (note : Note) (q : ℕ) where
  -- the filter of its queue passes it
  abbrev lets : Post → Bool
  lets p = passes_at (at queues p.0) p.1

  -- one more watch, of whatever queue
  one_more : (w : Watch) (posts : List Post) (records : List Record) → records_for q posts ≡ records →
      records_for q (cond (lets (note_for note w)) (note_for note w ∷ posts) posts)
      ≡ cond (eqb w.0.1 q) (cond (passes_at (at queues q) (note_for note w).1) ((note_for note w).1 ∷ records)
      records) records
  one_more w posts records same =
      let r = (note_for note w).1 in
      elim (eqb w.0.1 q) as (λ d. eqb w.0.1 q ≡ d →
      records_for q (cond (passes_at (at queues w.0.1) r) ((w.0.1, r) ∷ posts) posts)
      ≡ cond d (cond (passes_at (at queues q) r) (r ∷ records) records) records) [
        | true ↦ λ t.
            ap (λ (n : ℕ). records_for q (cond (passes_at (at queues n) r) ((w.0.1, r) ∷ posts) posts))
            (eqb-true w.0.1 q t)
            ∙ elim (passes_at (at queues q) r) as (λ p. records_for q (cond p ((w.0.1, r) ∷ posts) posts)
            ≡ cond p (r ∷ records) records) [
              | true ↦ rw t (ap (λ (rs : List Record). r ∷ rs) same)
              | false ↦ same
            ]
        | false ↦ λ t.
            elim (passes_at (at queues w.0.1) r) as (λ p. records_for q (cond p ((w.0.1, r) ∷ posts) posts)
            ≡ records) [
              | true ↦ rw t same
              | false ↦ same
            ]
      ] refl

  along : (ws : List Watch) →
      records_for q (filter lets (map (note_for note) (watches_at note.key ws)))
      ≡ filter (passes_at (at queues q)) (map (λ w. (note_for note w).1) (watches_between note.key q ws))
  along [] = refl
  along (w ∷ ws) =
      let more = along ws in
      let posts = filter lets (map (note_for note) (watches_at note.key ws)) in
      let records =
      filter (passes_at (at queues q)) (map (λ d. (note_for note d).1) (watches_between note.key q ws)) in
      elim (eqb w.0.0 note.key) as (λ b.
      records_for q (filter lets (map (note_for note) (cond b (w ∷ watches_at note.key ws) (watches_at note.key ws))))
      ≡ filter (passes_at (at queues q)) (map (λ d. (note_for note d).1)
      (cond (b && eqb w.0.1 q) (w ∷ watches_between note.key q ws) (watches_between note.key q ws)))) [
        | true ↦ one_more w posts records more
            ∙ elim (eqb w.0.1 q) as (λ d. cond d (cond (passes_at (at queues q) (note_for note w).1)
            ((note_for note w).1 ∷ records) records) records
            ≡ filter (passes_at (at queues q)) (map (λ e. (note_for note e).1)
            (cond d (w ∷ watches_between note.key q ws) (watches_between note.key q ws)))) [
              | true
                  ↦ refl
              | false ↦ refl
            ]
        | false ↦ more
      ]

pub reaches_watchers : NotesReachTheirWatchers
reaches_watchers s note number = along s.queues note number s.watches
